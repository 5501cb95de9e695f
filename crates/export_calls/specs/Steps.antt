-- What an exported event does, by the step that moves its record: every event that the step is, it does to the replica whose table the bytes hold.
use Rattle.std.specs.Prelude.{ℕ, ◌≡◌, Bool, cond, List, length}
use Rattle.hermes.specs.declared.event.Subject.{Subject}
use Rattle.hermes.specs.declared.event.Event.{Event}
use Rattle.hermes.specs.declared.event.Moved.{Moved}
use Rattle.hermes_record.specs.Order.{ties}
use Rattle.hermes.specs.Event.{effect}
use Rattle.replica_outcome.specs.Placing.{stored_for}
use Rattle.export_numbers.specs.declared.numbers.CetskobiReplica.{CetskobiReplica}
use Rattle.export_numbers.specs.declared.numbers.CetskobiAnswer.{CetskobiAnswer}
use Rattle.export_calls.specs.Calls.{node_of, Done}

-- a step, as a relation: of this subject, with so many bytes of store, it moves the record so
abbrev pub Step : Type 1
Step = Subject → ℕ → Moved → Type 0

-- the step is this event, with the value v, and leaves the store as it is
abbrev pub Moves : Step → List ℕ → Event → List ℕ → Type 0
Moves step store e v = (s : Subject) (m : Moved) → step s (length store) m
    → (m ≡ (effect ties s.me s.count s.index s.found store e v).moved) × (store ≡ (effect ties s.me s.count s.index s.found store e v).store)

-- the event done by a step that leaves the store, of n bytes
pub record Quietly (step : Step) (me : CetskobiReplica) (before : List ℕ) (n i : ℕ) (a : CetskobiAnswer) (bytes' : List ℕ) : Type 0 where
  pub done : (store : List ℕ) (e : Event) (v : List ℕ) → length store ≡ n → Moves step store e v → Done (node_of me before store) before i e v a bytes' store

-- the step is this event but for the value v, which an accepted one stores where the test says so
abbrev pub Stores : (Subject → Bool → Type 0) → Step → List ℕ → Event → List ℕ → Type 0
Stores takes step store e v = (s : Subject) (b : Bool) (m : Moved) → takes s b → step s (length store) m
    → (m ≡ (effect ties s.me s.count s.index s.found store e v).moved)
    × (cond b (stored_for m.answer s.count s.index v store) store ≡ (effect ties s.me s.count s.index s.found store e v).store)

-- the event done by such a test and step
pub record Storing (takes : Subject → Bool → Type 0) (step : Step) (me : CetskobiReplica) (before store : List ℕ) (i : ℕ) (v : List ℕ) (a : CetskobiAnswer) (bytes' store' : List ℕ) : Type 0 where
  pub done : (e : Event) → Stores takes step store e v → Done (node_of me before store) before i e v a bytes' store'
