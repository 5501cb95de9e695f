-- What a question of the code answers. Only functions that ask name these (on this floor, and where an exported event begins); every other contract rests on `first_no` of the questions.
-- A refusal keeps its number, whatever it is, so its case stands here itself: `answer_of` gives 0 to an acceptance.
use Rattle.std.specs.Prelude.{ℕ, Bool, true, false, List, [], ◌∷◌, Result, Ok, Err, None}
use Rattle.hermes_record.specs.declared.record.Record.{Record}
use Rattle.hermes.specs.declared.event.Refused.{Refused}
use Rattle.hermes.specs.declared.event.Replica.{Replica}
use Rattle.hermes.specs.declared.event.Moved.{Moved}
use Rattle.hermes.specs.Answer.{no}
use Rattle.hermes.specs.Guards.{Question, question1, question2, question3, question4}

-- the record, passed on, or the no
abbrev pub Asked : Type 0
Asked = Result Record Refused

-- the next answer after a yes, the number after a no
abbrev pub next : Bool → Asked → ℕ → Asked
next true a k = a
next false a k = Err (no k)

-- questions in order: passed with the record, or refused with the number of the first no
abbrev pub asked : List Question → Record → Asked
asked [] r = Ok r
asked (q ∷ qs) r = next q.yes (asked qs r) q.number

-- questions 1 to 4, which look at no record
abbrev pub beforehand : Replica → ℕ → ℕ → ℕ → List Question
beforehand me count bytes i = question1 me ∷ question2 count bytes ∷ question3 me ∷ question4 i count ∷ []

-- an event that a question refused: its number, and the record as it was; one that passed is not stopped
abbrev pub stopped_by : Asked → Record → Moved
stopped_by (Err e) r = record { answer = Err e; after = r }
stopped_by (Ok p) r = record { answer = Ok None; after = r }
