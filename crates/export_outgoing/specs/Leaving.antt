-- What leaves an event, for a caller that has its answer: who gets it, and the bytes that it takes along.
use Rattle.std.specs.Prelude.{ℕ, ◌/◌, ◌≡◌, Bool, true, false, cond, not, ◌&&◌, ◌||◌, List, eqb, ltb, leb, length, None, Some}
use Rattle.hermes_record.specs.declared.timestamp.Timestamp.{Timestamp}
use Rattle.hermes_record.specs.declared.record.Record.{Record}
use Rattle.hermes.specs.declared.message.Message.TheVariants.{Inv}
use Rattle.hermes.specs.Answer.{Outgoing}
use Rattle.hermes.specs.declared.message.Received.{Received}
use Rattle.hermes.specs.declared.event.Replica.{Replica}
use Rattle.hermes.specs.declared.event.Event.{Event}
use Rattle.hermes.specs.declared.event.Event.TheVariants.{Read, Ask, Write, Commit, Replay, Deliver, Validate, Resend}
use Rattle.hermes_record.specs.Order.{same_timestamp}
use Rattle.hermes.specs.Kind.{inv, known, message_of}
use Rattle.hermes.specs.Event.{leaving_body, recipients}
use Rattle.hermes.specs.Node.{record_at}
use Rattle.export_records.specs.Layout.{table_of}
use Rattle.export_numbers.specs.declared.numbers.CetskobiAnswer.{CetskobiAnswer}
use Rattle.export_calls.specs.Part.{PartAt}

-- a message of this kind about record i, stamped 0; of a kind that is none of the three nothing
abbrev pub left_of : ℕ → ℕ → Outgoing
left_of kind i =
    cond (known kind) (Some (message_of kind (record { version = 0; tie = 0 }), record { sender = 0; epoch = 0; index = i })) None

-- ---- who gets it

-- a message that came from this sender
abbrev pub from_sender : ℕ → Received
from_sender sender = record { sender = sender; epoch = 0; message = Inv (record { version = 0; tie = 0 }) }

-- 01, who gets a message of this kind that left the delivery of a message from this sender
abbrev pub recipients_of : Replica → ℕ → ℕ → ℕ
recipients_of me kind sender = recipients me (Deliver (from_sender sender)) (left_of kind 0)

-- this is the sender of the message that the event delivered; an event that delivers none leaves no ACK, and any number will do
abbrev pub Delivered : Event → ℕ → Type 0
Delivered Read sender = Unit
Delivered Ask sender = Unit
Delivered Write sender = Unit
Delivered (Commit t) sender = Unit
Delivered Replay sender = Unit
Delivered (Deliver m) sender = sender ≡ m.sender
Delivered Validate sender = Unit
Delivered Resend sender = Unit

-- ---- the bytes that it takes along

-- what a message takes along: these bytes; or they are gone
pub data Along : Type 0 where
  along : List ℕ → Along
  gone : Along

abbrev pub along_if : Bool → List ℕ → Along
along_if true v = along v
along_if false v = gone

-- the timestamp of what left
abbrev pub stamp_of : CetskobiAnswer → Timestamp
stamp_of left = record { version = left.version; tie = left.tie }

-- the record still has this timestamp, and so the text that an INV of it takes along; and all its bytes are there, as record i's in a store of so many
abbrev pub has_text : Record → Timestamp → ℕ → ℕ → Bool
has_text r t bytes i = same_timestamp t r.timestamp && (leb r.len 192 && ltb i (bytes / 192))

-- record i does
abbrev pub holds : List Record → List ℕ → ℕ → Timestamp → Bool
holds table store i t = ltb i (length table) && has_text (record_at table i) t (length store) i

-- 01, "an INV leaves with the value": the bytes of what left, about record i, while the record holds them; only an INV takes any
abbrev pub along_of : List ℕ → List ℕ → ℕ → CetskobiAnswer → Along
along_of bytes store i left =
    along_if (not (eqb left.kind inv) || holds (table_of bytes) store i (stamp_of left)) (leaving_body (left_of left.kind i) (record_at (table_of bytes) i) store)

-- how it crosses: so many bytes from 192 times the record's number on; of what is gone the greatest number, which is no value's length
abbrev pub AlongAt : List ℕ → ℕ → Along → ℕ → Type 0
AlongAt store i (along v) n = PartAt store i v n
AlongAt store i gone n = n ≡ 18446744073709551615
