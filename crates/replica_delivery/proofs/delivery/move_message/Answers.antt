-- `replica_delivery::delivery::move_message` meets its contract.
use Rattle.std.proofs.Common.{length, arith, ◌∙◌}
use Rattle.hermes_record.specs.Order.{ties}
use Rattle.hermes.specs.Event.{moved, deliver_step}
use Rattle.hermes.specs.declared.event.Event.TheVariants.{Deliver}
use Rattle.hermes.specs.declared.message.Message.TheVariants.{Inv, Ack, Val}
use Rattle.replica_outcome.proofs.Outcomes.{stops}
use Rattle.replica_delivery.proofs.Deliveries.{as_asked, passed-short, does}
use Rattle.replica_delivery.proofs.delivery.move_message.Goals as goal

pub returns-in_default : goal.returns-in_default
unfolding moved
returns-in_default c = let v = c.args in
    let is = as_asked v.s.me v.s.count v.bytes v.s.index v.s.found v.m v.value.now c.asks-a.ensures (grind arith) in
    c.stopped.ensures
    ∙ stops v.s.me v.s.count v.bytes v.s.index v.s.found (Deliver v.m) (length v.value.now) _ c.in_default.field-0 (deliver_step ties v.s.me v.s.index v.s.found v.m.sender v.m.message v.value.now) is c.in_default.is

pub take_inv-requires : goal.take_inv-requires
take_inv-requires c = let v = c.args in
    let is = as_asked v.s.me v.s.count v.bytes v.s.index v.s.found v.m v.value.now c.asks-a.ensures (grind arith) in
    passed-short v.s.me v.s.count v.bytes v.s.index v.s.found v.m v.value.now _ is c.in-Ok.r c.in-Ok.is c.in-Inv.t c.in-Inv.is

pub returns-in-Inv : goal.returns-in-Inv
returns-in-Inv c = let v = c.args in
    let is = as_asked v.s.me v.s.count v.bytes v.s.index v.s.found v.m v.value.now c.asks-a.ensures (grind arith) in
    does v.s.me v.s.count v.bytes v.s.index v.s.found v.m v.value.now _ is c.in-Ok.r c.in-Ok.is (Inv c.in-Inv.t) c.in-Inv.is _ c.take_inv.ensures

pub returns-in-Ack : goal.returns-in-Ack
returns-in-Ack c = let v = c.args in
    let is = as_asked v.s.me v.s.count v.bytes v.s.index v.s.found v.m v.value.now c.asks-a.ensures (grind arith) in
    does v.s.me v.s.count v.bytes v.s.index v.s.found v.m v.value.now _ is c.in-Ok.r c.in-Ok.is (Ack c.in-Ack.field-0) c.in-Ack.is _ c.acknowledge.ensures

pub returns-in-Val : goal.returns-in-Val
returns-in-Val c = let v = c.args in
    let is = as_asked v.s.me v.s.count v.bytes v.s.index v.s.found v.m v.value.now c.asks-a.ensures (grind arith) in
    does v.s.me v.s.count v.bytes v.s.index v.s.found v.m v.value.now _ is c.in-Ok.r c.in-Ok.is (Val c.in-Val.field-0) c.in-Val.is _ (c.accepted.ensures ∙ rw c.validate.ensures)
