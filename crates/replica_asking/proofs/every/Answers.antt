-- `every` meets its contract: question 5 is asked of the record that the first four passed on.
use Rattle.std.proofs.Common.{[], ◌∷◌, sym, ◌∙◌}
use Rattle.hermes_record.specs.declared.record.Record.{Record}
use Rattle.hermes.specs.Guards.{question5}
use Rattle.replica_asking.specs.Cascade.{beforehand}
use Rattle.replica_asking.proofs.Cascade.{then}
use Rattle.replica_asking.proofs.every.Goals as goal

pub returns : goal.returns
returns c =
    let v = c.args in
    c.question5.ensures ∙ sym (then (beforehand v.s.me v.s.count v.bytes v.s.index) (λ (x : Record). question5 v.s.me x ∷ []) v.s.found _ (sym c.beforehand.ensures ∙ c.in_ok-r.was))
