-- A replica with its lent memory: the table of records and the store (01, "Laptop and record").
use Rattle.std.specs.Prelude.{ℕ, zero, suc, List, [], ◌∷◌, length, get_or, set, replicate, Err, None, Ok, Some}
use Rattle.hermes_record.specs.declared.record.Record.{Record}
use Rattle.hermes.specs.Answer.{Outgoing, Answer, Admission, no}
use Rattle.hermes.specs.declared.event.Replica.{Replica}
use Rattle.hermes.specs.declared.event.Settings.{Settings}
use Rattle.hermes.specs.declared.event.Event.{Event}
use Rattle.hermes_record.specs.Members.{lowest}
use Rattle.hermes_record.specs.Order.{Orders}
use Rattle.hermes_record.specs.Record.{fresh_record}
use Rattle.hermes.specs.Store.{value_at}
use Rattle.hermes.specs.Guards.{Question, first_no, question1, question2, question3, question18, question19}
use Rattle.hermes.specs.Event.{Effect, effect, read_part, Handed, ask_hands, leaving_body, answer_of}

-- a laptop of document 01
pub record Node : Type 0 where
  pub me : Replica
  pub table : List Record
  pub store : List ℕ

-- a replica with the memory lent to it
abbrev pub lent : Replica → List Record → List ℕ → Node
lent me table store = record { me = me; table = table; store = store }

-- record i; past the table's end, where question 4 refuses, a fresh one
abbrev pub record_at : List Record → ℕ → Record
record_at table i = get_or table i (fresh_record 0)

-- 01, "records, numbered from 0": record i of a replica
abbrev pub record_of : ℕ → Node → Record
record_of i n = record_at n.table i

-- the value of record i
abbrev pub value_of : ℕ → Node → List ℕ
value_of i n = value_at i (record_of i n).len n.store

-- the number of the record that a message which left is about
abbrev pub index_of : Outgoing → ℕ
index_of None = 0
index_of (Some (m, h)) = h.index

-- the bytes that what left takes along, out of the memory that the event left
abbrev pub leaving : Outgoing → List Record → List ℕ → List ℕ
leaving out table store = leaving_body out (record_at table (index_of out)) store

-- the answer, and the replica with its memory after an event
pub record Outcome : Type 0 where
  pub answer : Answer
  pub node : Node

-- ---- the events on one record

-- 01, an event's questions and step, on record i of a replica
abbrev pub effect_of : Orders → Node → ℕ → Event → List ℕ → Effect
effect_of wins n i e v = effect wins n.me (length n.table) i (record_of i n) n.store e v

-- an event on record i, with the value v: the moved record is put back into the table
unfoldable pub apply : Orders → Node → ℕ → Event → List ℕ → Outcome
apply wins n i e v = record {
  answer = (effect_of wins n i e v).moved.answer;
  node = record { me = n.me; table = set n.table i (effect_of wins n i e v).moved.after; store = (effect_of wins n i e v).store };
}

-- 01, Read
abbrev pub read : Node → ℕ → List ℕ
read n i = read_part n.me (length n.table) i (record_of i n) n.store

-- 02, Wish 5, Ask
abbrev pub asked : Node → ℕ → Handed
asked n i = ask_hands n.me (length n.table) i (record_of i n) n.store

-- ---- fresh start and view

-- each case of an admission, by its number and its identity
abbrev pub admission_of : ℕ → Replica → Admission
admission_of zero me = Ok me
admission_of (suc k) me = Err (no (suc k))

-- the identity after an admission
abbrev pub identity : Admission → Replica → Replica
identity (Ok me) old = me
identity (Err k) old = old

-- 01, "one of these numbers, or 0": the number of an admission
abbrev pub admission_number : Admission → ℕ
admission_number (Ok me) = 0
admission_number (Err k) = k.0

-- 01, "A fresh start takes number, view and lent memory, and asks questions 1, 2 and 3 below. It sets epoch 0". 02, Wish 6: the
-- settings are "fixed at a group's start"
abbrev pub newcomer : ℕ → ℕ → Settings → Replica
newcomer number view settings = record { number = number; epoch = 0; view = view; settings = settings }

-- 01, fresh start: "asks questions 1, 2 and 3"
abbrev pub start_questions : Replica → ℕ → ℕ → List Question
start_questions me count bytes = question1 me ∷ question2 count bytes ∷ question3 me ∷ []

-- the admission, and the memory after a fresh start
pub record Start : Type 0 where
  pub admission : Admission
  pub table : List Record
  pub store : List ℕ

-- a fresh start with so many records and bytes of store: the number of its first no
abbrev pub start_refusal : ℕ → ℕ → Settings → ℕ → ℕ → ℕ
start_refusal number view settings count bytes = first_no (start_questions (newcomer number view settings) count bytes)

-- the admission of that start
abbrev pub admit : ℕ → ℕ → Settings → ℕ → ℕ → Admission
admit number view settings count bytes = admission_of (start_refusal number view settings count bytes) (newcomer number view settings)

-- 01, fresh start: "both stamps version 0 with the lowest number in the view; that number as last writer"
abbrev pub first_record : ℕ → Record
first_record view = fresh_record (lowest view)

-- 01, fresh start: every record fresh, the store zero
abbrev pub begin : ℕ → Replica → List Record → List ℕ → Start
begin zero me table store = record {
  admission = admission_of zero me;
  table = replicate (length table) (first_record me.view);
  store = replicate (length store) 0;
}
begin (suc k) me table store = record { admission = admission_of (suc k) me; table = table; store = store }

-- 01, "A fresh start takes number, view and lent memory"
unfoldable pub start : ℕ → ℕ → Settings → List Record → List ℕ → Start
start number view settings table store =
    begin (start_refusal number view settings (length table) (length store)) (newcomer number view settings) table store

-- 01, "A view event asks only 1 and 3 of these", then 18 and 19
abbrev pub view_questions : Replica → ℕ → ℕ → List Question
view_questions me epoch view = question1 me ∷ question3 me ∷ question18 me epoch ∷ question19 me view ∷ []

-- 01, View: epoch and view are replaced; the settings stay
unfoldable pub view : Replica → ℕ → ℕ → Admission
view me epoch set = admission_of (first_no (view_questions me epoch set)) (record { number = me.number; epoch = epoch; view = set; settings = me.settings })

-- 01, View: records, with acknowledgements already in, are untouched
unfoldable pub viewed : Node → ℕ → ℕ → Outcome
viewed n epoch set = record {
  answer = answer_of (admission_number (view n.me epoch set)) None;
  node = record { me = identity (view n.me epoch set) n.me; table = n.table; store = n.store };
}
