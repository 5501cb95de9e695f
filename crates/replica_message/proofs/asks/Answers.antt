-- After the first five said yes the next three are asked, and after those the kind's own.
use Rattle.std.proofs.Common.{[], sym, ◌∙◌}
use Rattle.hermes.specs.Event.{common, own, of_kind}
use Rattle.hermes.specs.declared.event.Event.TheVariants.{Deliver}
use Rattle.replica_asking.proofs.Cascade.{then}
use Rattle.replica_message.specs.Message.{of_message}
use Rattle.replica_message.proofs.asks.Goals as goal

pub returns : goal.returns
returns c = let v = c.args in
    c.asks_kind.ensures
    ∙ sym (then (of_message v.s.me v.m v.n) (of_kind v.m.message v.m.sender) c.in_ok-r.r c.in_ok-r-2.r (sym c.asks_message.ensures ∙ c.in_ok-r-2.was))
    ∙ sym (then (common v.s.me v.s.count v.bytes v.s.index v.s.found []) (λ x. own v.s.me x (Deliver v.m) v.n) v.s.found c.in_ok-r.r (sym c.every.ensures ∙ c.in_ok-r.was))
