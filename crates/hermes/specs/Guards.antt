-- The numbered questions (01, "The questions, in order").
use Rattle.std.specs.Prelude.{ℕ, ◌*◌, ◌≡◌, Bool, true, cond, not, ◌&&◌, ◌||◌, List, [], ◌∷◌, ltb, leb, eqb}
use Rattle.hermes_record.specs.declared.timestamp.Timestamp.{Timestamp}
use Rattle.hermes_record.specs.declared.record.Record.{Record}
use Rattle.hermes_record.specs.declared.record.State.TheVariants.{Valid, Invalid, InvalidWrite, Write, Replay}
use Rattle.hermes.specs.declared.message.Message.{Message}
use Rattle.hermes.specs.declared.message.Message.TheVariants.{Inv, Ack, Val}
use Rattle.hermes.specs.declared.message.Received.{Received}
use Rattle.hermes.specs.declared.event.Replica.{Replica}
use Rattle.hermes_record.specs.Members.{has, size, within, others_in}
use Rattle.hermes_record.specs.Order.{same_timestamp}
use Rattle.hermes_record.specs.Record.{one_of}

-- a question of the list: its number, and whether the answer is yes
pub record Question : Type 0 where
  pub number : ℕ
  pub yes : Bool

-- 01, a numbered question with its answer
abbrev pub ask : ℕ → Bool → Question
ask k b = record { number = k; yes = b }

-- 01, "A "no" gives the number, ends the event": the number of the first no, and 0 where there is none
abbrev pub first_no : List Question → ℕ
first_no [] = 0
first_no (q ∷ qs) = cond q.yes (first_no qs) q.number

-- every answer is yes
abbrev pub AllYes : List Question → Type 0
AllYes [] = Unit
AllYes (q ∷ qs) = (q.yes ≡ true) × AllYes qs

-- ---- every event

-- 1: is the number at most 15, with at least two laptops counted in the view?
abbrev pub question1 : Replica → Question
question1 me = ask 1 (leb me.number 15 && leb 2 (size me.view))

-- 2: are there 1 to 4,096 records, and 192 store bytes for each exactly?
abbrev pub question2 : ℕ → ℕ → Question
question2 count bytes = ask 2 (leb 1 count && leb count 4096 && eqb bytes (192 * count))

-- 3: is the laptop in its own view?
abbrev pub question3 : Replica → Question
question3 me = ask 3 (has me.view me.number)

-- 4: is the record number below the count?
abbrev pub question4 : ℕ → ℕ → Question
question4 i count = ask 4 (ltb i count)

-- 5: is that record sound: length at most 192, tie-breakers and last writer at most 15, own number not among the acknowledgements?
abbrev pub question5 : Replica → Record → Question
question5 me r = ask 5 (leb r.len 192 && leb r.timestamp.tie 15 && leb r.written.tie 15 && leb r.writer 15 && not (has r.acks me.number))

-- ---- read

-- 6: valid?
abbrev pub question6 : Record → Question
question6 r = ask 6 (one_of r.state (Valid ∷ []))

-- ---- write; n is the length of the value

-- 7: valid or invalid?
abbrev pub question7 : Record → Question
question7 r = ask 7 (one_of r.state (Valid ∷ Invalid ∷ []))

-- 8: value at most 192 bytes?
abbrev pub question8 : ℕ → Question
question8 n = ask 8 (leb n 192)

-- 9: version below 4,294,967,295?
abbrev pub question9 : Record → Question
question9 r = ask 9 (ltb r.timestamp.version 4294967295)

-- ---- commit: 26 in place of 7, and 8 and 9 follow; t is the stamp that it brings back

-- 26: "when a commit's record is not valid or its stamp differs" (02, Wish 5)
abbrev pub question26 : Timestamp → Record → Question
question26 t r = ask 26 (one_of r.state (Valid ∷ []) && same_timestamp t r.timestamp)

-- ---- deliver; n is the number of value bytes

-- 10: is the message's epoch the laptop's?
abbrev pub question10 : Replica → Received → Question
question10 me m = ask 10 (eqb m.epoch me.epoch)

-- 11: is the sender in the view, and not this laptop?
abbrev pub question11 : Replica → Received → Question
question11 me m = ask 11 (has me.view m.sender && not (eqb m.sender me.number))

-- 12: tie-breaker at most 15, and value bytes at most 192 for an INV, none otherwise?
abbrev pub shapely : Message → ℕ → Bool
shapely (Inv t) n = leb t.tie 15 && leb n 192
shapely (Ack t) n = leb t.tie 15 && eqb n 0
shapely (Val t) n = leb t.tie 15 && eqb n 0

-- 12, of a received message
abbrev pub question12 : Received → ℕ → Question
question12 m n = ask 12 (shapely m.message n)

-- 13: is the state write, invalid-write or replay, the stamp the last-write stamp, the sender not yet counted?
abbrev pub question13 : Timestamp → ℕ → Record → Question
question13 t sender r = ask 13 (one_of r.state (Write ∷ InvalidWrite ∷ Replay ∷ []) && same_timestamp t r.written && not (has r.acks sender))

-- 14: is the state not valid and the stamp the record's?
abbrev pub question14 : Timestamp → Record → Question
question14 t r = ask 14 (not (one_of r.state (Valid ∷ [])) && same_timestamp t r.timestamp)

-- ---- validate, replay, resend

-- 15: state write or replay, and every other laptop in the view acknowledged?
abbrev pub question15 : Replica → Record → Question
question15 me r = ask 15 (one_of r.state (Write ∷ Replay ∷ []) && others_in me.number me.view r.acks)

-- 16: "invalid or invalid-write, and last writer not in the view" (02, Wish 2; invalid-write is the Wish's)
abbrev pub question16 : Replica → Record → Question
question16 me r = ask 16 (one_of r.state (Invalid ∷ InvalidWrite ∷ []) && not (has me.view r.writer))

-- 17: write or replay, or valid with self as last writer?
abbrev pub question17 : Replica → Record → Question
question17 me r = ask 17 (one_of r.state (Write ∷ Replay ∷ []) || (one_of r.state (Valid ∷ []) && eqb r.writer me.number))

-- ---- view

-- 18: is the epoch greater?
abbrev pub question18 : Replica → ℕ → Question
question18 me epoch = ask 18 (ltb me.epoch epoch)

-- 19: is the new view within the old, with at least two laptops?
abbrev pub question19 : Replica → ℕ → Question
question19 me view = ask 19 (within view me.view && leb 2 (size view))
