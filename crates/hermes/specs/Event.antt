-- The events on one record: the questions in the paper's order, and the step (01, "Steps" and "The questions, in order").
use Rattle.std.specs.Prelude.{ℕ, zero, suc, Bool, true, false, List, [], ◌∷◌, length, Err, None, Ok, Some}
use Rattle.hermes_record.specs.declared.timestamp.Timestamp.{Timestamp}
use Rattle.hermes_record.specs.declared.record.Record.{Record}
use Rattle.hermes_record.specs.declared.record.State.{State}
use Rattle.hermes_record.specs.declared.record.State.TheVariants as state
use Rattle.hermes.specs.declared.message.Message.{Message}
use Rattle.hermes.specs.declared.message.Message.TheVariants.{Inv, Ack, Val}
use Rattle.hermes.specs.Answer.{Outgoing, Answer, no}
use Rattle.hermes.specs.declared.event.Replica.{Replica}
use Rattle.hermes.specs.declared.event.Event.{Event}
use Rattle.hermes.specs.declared.event.Event.TheVariants.{Read, Ask, Write, Commit, Replay, Deliver, Validate, Resend}
use Rattle.hermes.specs.declared.event.Moved.{Moved}
use Rattle.hermes_record.specs.Members.{with, without}
use Rattle.hermes_record.specs.Order.{Orders, later}
use Rattle.hermes.specs.Settings.{under}
use Rattle.hermes_record.specs.Record.{written_by, replayed, invalidated, acknowledged, validated}
use Rattle.hermes.specs.Store.{value_at, place}
use Rattle.hermes.specs.Guards.{
  Question,
  first_no,
  question1,
  question2,
  question3,
  question4,
  question5,
  question6,
  question7,
  question8,
  question9,
  question10,
  question11,
  question12,
  question13,
  question14,
  question15,
  question16,
  question17,
  question26,
}

-- ---- the questions of each event; n is the length of the value that comes with it

-- 01, "Every event"
abbrev pub common : Replica → ℕ → ℕ → ℕ → Record → List Question → List Question
common me count bytes i r own =
    question1 me ∷ question2 count bytes ∷ question3 me ∷ question4 i count ∷ question5 me r ∷ own

-- 01, Deliver: "Then ACK: 13 .. VAL: 14 .."
abbrev pub of_kind : Message → ℕ → Record → List Question
of_kind (Inv t) sender r = []
of_kind (Ack t) sender r = question13 t sender r ∷ []
of_kind (Val t) sender r = question14 t r ∷ []

-- 01, the questions after the first five: Read 6; Write 7, 8 and 9; Deliver 10, 11, 12 and its kind's; Validate 15; Replay 16; Resend 17.
-- 02, Wish 5: an ask is "refused as a read is"; of a commit 26 stands "in place of 7, and 8 and 9 follow"
abbrev pub own : Replica → Record → Event → ℕ → List Question
own me r Read n = question6 r ∷ []
own me r Ask n = question6 r ∷ []
own me r Write n = question7 r ∷ question8 n ∷ question9 r ∷ []
own me r (Commit t) n = question26 t r ∷ question8 n ∷ question9 r ∷ []
own me r (Deliver m) n =
    question10 me m ∷ question11 me m ∷ question12 m n ∷ of_kind m.message m.sender r
own me r Validate n = question15 me r ∷ []
own me r Replay n = question16 me r ∷ []
own me r Resend n = question17 me r ∷ []

-- the number that an event answers
unfoldable pub refusal : Replica → ℕ → ℕ → ℕ → Record → Event → ℕ → ℕ
refusal me count bytes i r e n = first_no (common me count bytes i r (own me r e n))

-- ---- the step of each event

-- what a step does to the store: nothing, or a value is stored
pub data Stored : Type 0 where
  kept : Stored
  placed : List ℕ → Stored

-- the moved record, what is stored, what leaves
pub record Step : Type 0 where
  pub after : Record
  pub stored : Stored
  pub sent : Outgoing

-- 01, "A leaving message carries the laptop's number and epoch and the record's number"
abbrev pub send : Replica → ℕ → Message → Outgoing
send me i m = Some (m, record { sender = me.number; epoch = me.epoch; index = i })

-- 01, Read: nothing moves
abbrev pub read_step : Record → Step
read_step r = record { after = r; stored = kept; sent = None }

-- 01, Write: value stored; an INV leaves with the value
abbrev pub write_step : Replica → ℕ → Record → List ℕ → Step
write_step me i r v =
    record { after = written_by r me.number (length v); stored = placed v; sent = send me i (Inv (written_by r me.number (length v)).timestamp) }

-- 01, Replay: an INV leaves with stamp and value
abbrev pub replay_step : Replica → ℕ → Record → Step
replay_step me i r = record { after = replayed r me.number; stored = kept; sent = send me i (Inv r.timestamp) }

-- 01, Deliver INV: an ACK with the INV's stamp always leaves; only if that stamp is greater is it taken
abbrev pub inv_step : Bool → Replica → ℕ → Record → Timestamp → ℕ → List ℕ → Step
inv_step true me i r t sender v = record { after = invalidated r t sender (length v); stored = placed v; sent = send me i (Ack t) }
inv_step false me i r t sender v = record { after = r; stored = kept; sent = send me i (Ack t) }

-- 01, Deliver VAL
abbrev pub val_step : Record → Step
val_step r = record { after = validated r; stored = kept; sent = None }

-- 01, Validate: a VAL leaves with the stamp
abbrev pub validate_step : Replica → ℕ → Record → Step
validate_step me i r = record { after = validated r; stored = kept; sent = send me i (Val r.timestamp) }

-- 02, Wish 1, "An ACK that completes the view while the record is in write or replay": with its sender counted, question 15 says yes
abbrev pub completes : Replica → Record → ℕ → Bool
completes me r sender = (question15 me (acknowledged r sender)).yes

-- 01, Deliver ACK: its sender is counted. 02, Wish 1: one that completes the view "now also validates it, and the VAL leaves with that same event"
abbrev pub ack_step : Bool → Replica → ℕ → Record → ℕ → Step
ack_step true me i r sender = validate_step me i (acknowledged r sender)
ack_step false me i r sender = record { after = acknowledged r sender; stored = kept; sent = None }

-- 01, Resend: write and replay send their INV again, valid sends its VAL; question 17 excludes the other states
abbrev pub resent : Replica → ℕ → State → Timestamp → Outgoing
resent me i state.Valid t = send me i (Val t)
resent me i state.Invalid t = None
resent me i state.InvalidWrite t = None
resent me i state.Write t = send me i (Inv t)
resent me i state.Replay t = send me i (Inv t)

-- 01, Resend: the record is unchanged
abbrev pub resend_step : Replica → ℕ → Record → Step
resend_step me i r = record { after = r; stored = kept; sent = resent me i r.state r.timestamp }

module _ (wins : Orders) where
  -- 01, Deliver: the step of each kind of message. 02, Wish 6: stamps are compared by the rule of the identity
  abbrev pub deliver_step : Replica → ℕ → Record → ℕ → Message → List ℕ → Step
  deliver_step me i r sender (Inv t) v = inv_step (later (under wins me.settings) t r.timestamp) me i r t sender v
  deliver_step me i r sender (Ack t) v = ack_step (completes me r sender) me i r sender
  deliver_step me i r sender (Val t) v = val_step r

  -- the step of an event on record i, r, of replica me, with the value v. 02, Wish 5: an ask moves nothing, a commit "goes on as a write"
  abbrev pub step : Replica → ℕ → Record → Event → List ℕ → Step
  step me i r Read v = read_step r
  step me i r Ask v = read_step r
  step me i r Write v = write_step me i r v
  step me i r (Commit t) v = write_step me i r v
  step me i r (Deliver m) v = deliver_step me i r m.sender m.message v
  step me i r Validate v = validate_step me i r
  step me i r Replay v = replay_step me i r
  step me i r Resend v = resend_step me i r

-- ---- the answer, the record and the store after an event

-- 01, "The answer is one of these numbers, or 0 with the message": each case of an answer, by its number and its message
abbrev pub answer_of : ℕ → Outgoing → Answer
answer_of zero o = Ok o
answer_of (suc k) o = Err (no (suc k))

-- 01, "one of these numbers, or 0": the number of an answer
abbrev pub number_of : Answer → ℕ
number_of (Ok o) = 0
number_of (Err k) = k.0

-- 01, "0 with the message": what leaves with an answer
abbrev pub sent_by : Answer → Outgoing
sent_by (Ok o) = o
sent_by (Err k) = None

-- 01, "value stored": the store after a step
abbrev pub storing : ℕ → Stored → List ℕ → List ℕ
storing i kept store = store
storing i (placed v) store = place i v store

-- 01, "A "no" .. leaves every lent byte and record as found"
abbrev pub moved_by : ℕ → Record → Step → Moved
moved_by zero r s = record { answer = answer_of zero s.sent; after = s.after }
moved_by (suc k) r s = record { answer = answer_of (suc k) s.sent; after = r }

-- the store after an event whose first no has this number
abbrev pub stored_by : ℕ → ℕ → List ℕ → Step → List ℕ
stored_by zero i store s = storing i s.stored store
stored_by (suc k) i store s = store

-- An event on record i, r, of replica me with so many records and bytes of store: the answer, and the record after. v is the value that comes with the event.
unfoldable pub moved : Orders → Replica → ℕ → ℕ → ℕ → Record → Event → List ℕ → Moved
moved wins me count bytes i r e v = moved_by (refusal me count bytes i r e (length v)) r (step wins me i r e v)

-- the answer and the record, and the whole store
pub record Effect : Type 0 where
  pub moved : Moved
  pub store : List ℕ

-- 01, "A "no" gives the number, ends the event": the effect, by the number of the first no
abbrev pub decide : ℕ → ℕ → Record → List ℕ → Step → Effect
decide k i r store s = record { moved = moved_by k r s; store = stored_by k i store s }

-- the same event with its store
unfoldable pub effect : Orders → Replica → ℕ → ℕ → Record → List ℕ → Event → List ℕ → Effect
effect wins me count i r store e v =
    decide (refusal me count (length store) i r e (length v)) i r store (step wins me i r e v)

-- 01, Read: the value, as a part of the store; a refused read gives the empty part
abbrev pub part_of : ℕ → List ℕ → List ℕ
part_of zero v = v
part_of (suc k) v = []

-- 01, Read: the part that a read of record i, r, hands out
unfoldable pub read_part : Replica → ℕ → ℕ → Record → List ℕ → List ℕ
read_part me count i r store = part_of (refusal me count (length store) i r Read 0) (value_at i r.len store)

-- 02, Wish 5: an ask "hands out value and stamp"
pub record Handed : Type 0 where
  pub part : List ℕ
  pub timestamp : Timestamp

-- a refused ask hands out no stamp: (0, 0) stands for none
abbrev pub stamp_handed : ℕ → Timestamp → Timestamp
stamp_handed zero t = t
stamp_handed (suc k) t = record { version = 0; tie = 0 }

-- 02, Wish 5, Ask: the stamp that an ask of record i, r, hands out
unfoldable pub ask_stamp : Replica → ℕ → ℕ → ℕ → Record → Timestamp
ask_stamp me count bytes i r = stamp_handed (refusal me count bytes i r Ask 0) r.timestamp

-- the same with the value, as a part of the store; a refused ask, as a read, hands out the empty part
unfoldable pub ask_hands : Replica → ℕ → ℕ → Record → List ℕ → Handed
ask_hands me count i r store = record {
  part = part_of (refusal me count (length store) i r Ask 0) (value_at i r.len store);
  timestamp = ask_stamp me count (length store) i r;
}

-- ---- what leaves

-- 01, "an INV leaves with the value": the bytes that a message takes along; v is the record's value after the event
abbrev pub body_of : Message → List ℕ → List ℕ
body_of (Inv t) v = v
body_of (Ack t) v = []
body_of (Val t) v = []

-- the same of what leaves an event that left record r
abbrev pub leaving_body : Outgoing → Record → List ℕ → List ℕ
leaving_body None r store = []
leaving_body (Some (m, h)) r store = body_of m (value_at h.index r.len store)

-- 01, Deliver INV, an ACK leaves "for its sender": the sender of the message that the event delivered, as a set
abbrev pub sender_of : Event → ℕ
sender_of Read = 0
sender_of Ask = 0
sender_of Write = 0
sender_of (Commit t) = 0
sender_of (Deliver m) = with 0 m.sender
sender_of Validate = 0
sender_of Replay = 0
sender_of Resend = 0

-- 01, "INV and VAL go to all others in the view"
abbrev pub recipients : Replica → Event → Outgoing → ℕ
recipients me e None = 0
recipients me e (Some (Inv t, h)) = without me.view me.number
recipients me e (Some (Ack t, h)) = sender_of e
recipients me e (Some (Val t, h)) = without me.view me.number
