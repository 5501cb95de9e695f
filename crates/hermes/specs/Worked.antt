-- What a worked row is, and what it says of the definitions.
use Rattle.std.specs.Prelude.{ℕ, ◌-◌, ◌≡◌, List, [], ◌∷◌, ◌++◌, length, set, replicate, None}
use Rattle.hermes_record.specs.declared.timestamp.Rule.{Rule}
use Rattle.hermes_record.specs.declared.record.Record.{Record}
use Rattle.hermes_record.specs.declared.record.State.{State}
use Rattle.hermes.specs.declared.message.Message.{Message}
use Rattle.hermes.specs.declared.event.Replica.{Replica}
use Rattle.hermes.specs.declared.event.Settings.{Settings}
use Rattle.hermes.specs.declared.event.Event.{Event}
use Rattle.hermes_record.specs.Order.{ties}
use Rattle.hermes.specs.Settings.{old_settings}
use Rattle.hermes.specs.Store.{place}
use Rattle.hermes.specs.Event.{answer_of, number_of, sent_by, send, refusal}
use Rattle.hermes.specs.Node.{Node, Outcome, Start, record_of, apply, asked, admit, start, view, viewed, identity, admission_number}

-- ---- a row of deeds: what happens to a laptop, on its one record, and what is said of it

pub data Deed : Type 0 where
  -- a fresh start with this number, view and settings
  starts : ℕ → ℕ → Settings → Deed
  -- no event: the record is laid down as it stands here, with its value
  lays : Record → List ℕ → Deed
  -- an event with the bytes that come with it
  does : Event → List ℕ → Deed
  -- a view event
  turns : ℕ → ℕ → Deed

abbrev pub start_outcome : Node → Start → Outcome
start_outcome n s = record {
  answer = answer_of (admission_number s.admission) None;
  node = record { me = identity s.admission n.me; table = s.table; store = s.store };
}

abbrev pub outcome : Node → Deed → Outcome
outcome n (starts number view settings) = start_outcome n (start number view settings n.table n.store)
outcome n (lays r v) =
    record { answer = answer_of 0 None; node = record { me = n.me; table = set n.table 0 r; store = place 0 v n.store } }
outcome n (does e v) = apply ties n 0 e v
outcome n (turns epoch view) = viewed n epoch view

-- the laptop after the deeds that come before the row's own
abbrev pub before : Node → List Deed → Node
before n [] = n
before n (d ∷ ds) = before (outcome n d).node ds

-- what the paper says of a row's deed
pub data Claim : Type 0 where
  answers : ℕ → Claim
  leaves : State → Claim
  stamps : ℕ → ℕ → Claim
  last_writer : ℕ → Claim
  -- the rule of ties that the laptop then has
  ties_by : Rule → Claim
  last_write : ℕ → ℕ → Claim
  acknowledged_by : ℕ → Claim
  -- the value, and with it its length
  holding : List ℕ → Claim
  sends : Message → Claim
  -- what an ask hands out at the laptop after the deed: text and stamp
  hands_out : List ℕ → ℕ → ℕ → Claim
  silent : Claim
  unchanged : Claim

-- 01, "A record's value holds 0 to 192 bytes; the rest of its 192 is zero": the store of one record with this value
abbrev pub store_of : List ℕ → List ℕ
store_of v = v ++ replicate (192 - length v) 0

-- the claim, of the laptop n before the deed and the outcome o
abbrev pub Says : Claim → Node → Outcome → Type 0
Says (answers k) n o = number_of o.answer ≡ k
Says (leaves s) n o = (record_of 0 o.node).state ≡ s
Says (stamps v t) n o = (record_of 0 o.node).timestamp ≡ record { version = v; tie = t }
Says (last_writer k) n o = (record_of 0 o.node).writer ≡ k
Says (ties_by rule) n o = o.node.me.settings.rule ≡ rule
Says (last_write v t) n o = (record_of 0 o.node).written ≡ record { version = v; tie = t }
Says (acknowledged_by set) n o = (record_of 0 o.node).acks ≡ set
Says (holding v) n o = ((record_of 0 o.node).len ≡ length v) × (o.node.store ≡ store_of v)
Says (sends m) n o = sent_by o.answer ≡ send n.me 0 m
Says (hands_out text v t) n o = asked o.node 0 ≡ record { part = text; timestamp = record { version = v; tie = t } }
Says silent n o = sent_by o.answer ≡ None
Says unchanged n o = o.node ≡ n

abbrev pub SaysAll : List Claim → Node → Outcome → Type 0
SaysAll [] n o = Unit
SaysAll (c ∷ cs) n o = Says c n o × SaysAll cs n o

-- ---- rows

pub data Row : Type 0 where
  -- earlier deeds, the row's own, and what is said of it
  row : List Deed → Deed → List Claim → Row
  -- an event: the laptop, its count of records and bytes of store, the record's number and the record, the event and how many bytes come
  -- with it; the number answered
  asks : Replica → ℕ → ℕ → ℕ → Record → Event → ℕ → ℕ → Row
  -- a fresh start in a group with the old rule: number, view, count of records and bytes of store; the number answered
  asks_start : ℕ → ℕ → ℕ → ℕ → ℕ → Row
  -- a view event: the laptop, the new epoch and view; the number answered
  asks_view : Replica → ℕ → ℕ → ℕ → Row

-- what a row says; a row of deeds begins with the laptop n
abbrev pub Holds : Node → Row → Type 0
Holds n (row earlier deed claims) = SaysAll claims (before n earlier) (outcome (before n earlier) deed)
Holds n (asks me count bytes i r e m k) = refusal me count bytes i r e m ≡ k
Holds n (asks_start number view count bytes k) = admission_number (admit number view old_settings count bytes) ≡ k
Holds n (asks_view me epoch set k) = admission_number (view me epoch set) ≡ k
