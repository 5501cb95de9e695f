-- `replica_saving::saving::move_save` meets its contract.
use Rattle.std.proofs.Common.{length, sym, arith, ◌∙◌}
use Rattle.hermes_record.specs.Order.{ties}
use Rattle.hermes.specs.Event.{step, moved, write_step}
use Rattle.replica_outcome.proofs.Outcomes.{stops, goes, accepted}
use Rattle.replica_saving.specs.Saving.{save_of}
use Rattle.replica_saving.proofs.Saves.{as_asked, saves-fit, saves-step}
use Rattle.replica_saving.proofs.saving.move_save.Goals as goal

pub returns-in_default : goal.returns-in_default
unfolding moved
returns-in_default c = let v = c.args in
    let is = as_asked v.s.me v.s.index v.s.found v.opened v.s.count v.bytes _ c.asks-a.ensures (length v.value.now) (grind arith) in
    c.stopped.ensures
    ∙ stops v.s.me v.s.count v.bytes v.s.index v.s.found (save_of v.opened) (length v.value.now) _ c.in_default.field-0 (step ties v.s.me v.s.index v.s.found (save_of v.opened) v.value.now) is c.in_default.is

pub saved-requires : goal.saved-requires
saved-requires c = let v = c.args in
    let is = as_asked v.s.me v.s.index v.s.found v.opened v.s.count v.bytes _ c.asks-a.ensures (length v.value.now) (grind arith) in
    saves-fit v.s.me v.s.index v.s.found v.opened v.s.count v.bytes (length v.value.now)
    (accepted v.s.me v.s.count v.bytes v.s.index v.s.found (save_of v.opened) (length v.value.now) c.in-Ok.r (sym is ∙ c.in-Ok.is))

pub returns : goal.returns
unfolding moved
returns c = let v = c.args in
    let is = as_asked v.s.me v.s.index v.s.found v.opened v.s.count v.bytes _ c.asks-a.ensures (length v.value.now) (grind arith) in
    rw (saves-step v.s.me v.s.index v.s.found v.opened v.value.now)
    (c.saved.ensures ∙ goes v.s.me v.s.count v.bytes v.s.index v.s.found (save_of v.opened) (length v.value.now) _ c.in-Ok.r (λ x. write_step v.s.me v.s.index x v.value.now) is c.in-Ok.is)
