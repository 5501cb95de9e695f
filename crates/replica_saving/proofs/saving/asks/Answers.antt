-- After the first five said yes its own three are asked.
use Rattle.std.proofs.Common.{List, [], ◌∷◌, ap, sym, ◌∙◌}
use Rattle.hermes.specs.Event.{common}
use Rattle.hermes.specs.Guards.{Question, question8, question9}
use Rattle.replica_asking.specs.Cascade.{asked}
use Rattle.replica_asking.proofs.Cascade.{then}
use Rattle.replica_saving.specs.Saving.{first_of}
use Rattle.replica_saving.proofs.Saves.{saves-own}
use Rattle.replica_saving.proofs.saving.asks.Goals as goal

pub returns : goal.returns
returns c = let v = c.args in
    c.asks_own.ensures
    ∙ sym (then (common v.s.me v.s.count v.bytes v.s.index v.s.found []) (λ x. first_of v.opened x ∷ question8 v.n ∷ question9 x ∷ []) v.s.found c.in_ok-r.r (sym c.every.ensures ∙ c.in_ok-r.was))
    ∙ ap (λ (q : List Question). asked (common v.s.me v.s.count v.bytes v.s.index v.s.found q) v.s.found) (sym (saves-own v.s.me v.s.index v.s.found v.opened v.n))
