-- `apply` meets its contract: the record that `step` moved is put back; past the table's end that would change nothing.
use Rattle.std.proofs.Common.{set, ap, sym}
use Rattle.std.proofs.lemmas.List.{set_past}
use Rattle.hermes.specs.declared.event.Moved.{Moved}
use Rattle.hermes.specs.Node.{apply}
use Rattle.replica_table.proofs.events.apply.Goals as goal

pub returns-then-i-table : goal.returns-then-i-table
unfolding apply
returns-then-i-table c = let e = rw c.subject.ensures at c.step-m.ensures in
    (ap (λ (m : Moved). m.answer) e.0, (ap (λ (m : Moved). set c.args.table.now c.args.i m.after) e.0, e.1))

pub returns-else-i-table : goal.returns-else-i-table
unfolding apply
returns-else-i-table c = let a = c.args in let e = rw c.subject.ensures at c.step-m.ensures in
    (ap (λ (m : Moved). m.answer) e.0, (sym (set_past a.table.now a.i _ c.if-i-table.false), e.1))
