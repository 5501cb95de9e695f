-- A read looks at the store's length alone, and so answers as the event does.
use Rattle.std.proofs.Common.{[], ◌∙◌, ap, sym, length}
use Rattle.hermes_record.specs.Order.{ties}
use Rattle.hermes.specs.declared.event.Event.TheVariants.{Read}
use Rattle.hermes.specs.Event.{Effect}
use Rattle.hermes.specs.Node.{record_at, apply}
use Rattle.replica_outcome.proofs.Outcomes.{quiet}
use Rattle.replica_parts.proofs.reading.read_number.Goals as goal

pub returns : goal.returns
unfolding apply
returns c =
    let a = c.args in let r = record_at a.table.now a.i in let e = rw c.subject.ensures at c.read_number.ensures in
    e ∙ sym (ap (λ (z : Effect). z.moved.answer) (quiet ties a.me (length a.table.now) a.i r a.store.now Read [] tt))
