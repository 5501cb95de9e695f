-- An exported event that stores nothing and looks at no value is done by a step that moves the record as that event does.
use Rattle.std.specs.Prelude.{ℕ, ◌≡◌, List, [], length}
use Rattle.std.proofs.Common.{refl}
use Rattle.hermes.specs.declared.event.Subject.{Subject}
use Rattle.hermes.specs.declared.event.Event.{Event}
use Rattle.hermes.specs.declared.event.Moved.{Moved}
use Rattle.hermes_record.specs.Order.{ties}
use Rattle.hermes.specs.Event.{moved}
use Rattle.replica_outcome.proofs.Outcomes.{Quiet, quiet}
use Rattle.export_numbers.specs.declared.numbers.CetskobiReplica.{CetskobiReplica}
use Rattle.export_numbers.specs.declared.numbers.CetskobiAnswer.{CetskobiAnswer}
use Rattle.export_calls.specs.Calls.{node_of, Done}
use Rattle.export_calls.specs.Steps.{Step, Quietly}

pub quiet_done : (me : CetskobiReplica) (before : List ℕ) (n i : ℕ) (step : Step) (a : CetskobiAnswer) (bytes' : List ℕ) → Quietly step me before n i a bytes'
    → (store : List ℕ) (e : Event) → Quiet e → length store ≡ n
    → ((s : Subject) (m : Moved) → step s n m → m ≡ moved ties s.me s.count n s.index s.found e [])
    → Done (node_of me before store) before i e [] a bytes' store
quiet_done me before n i step a bytes' d store e q l moves =
    d.done store e [] l (λ s m p. rw (quiet ties s.me s.count s.index s.found store e [] q, l) (moves s m (rw l at p), refl))
