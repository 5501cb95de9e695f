-- The kinds of message by their numbers, as packets and exported functions have them (01, "Packets").
use Rattle.std.specs.Prelude.{ℕ, Bool, cond, ◌&&◌, leb, eqb}
use Rattle.hermes_record.specs.declared.timestamp.Timestamp.{Timestamp}
use Rattle.hermes.specs.declared.message.Message.{Message}
use Rattle.hermes.specs.declared.message.Message.TheVariants.{Inv, Ack, Val}

-- 01, "kind (1 INV, 2 ACK, 3 VAL)"
abbrev pub inv : ℕ
inv = 1

abbrev pub ack : ℕ
ack = 2

abbrev pub val : ℕ
val = 3

abbrev pub kind_of : Message → ℕ
kind_of (Inv t) = inv
kind_of (Ack t) = ack
kind_of (Val t) = val

abbrev pub timestamp_of : Message → Timestamp
timestamp_of (Inv t) = t
timestamp_of (Ack t) = t
timestamp_of (Val t) = t

-- 01, question 22: "kind known"
abbrev pub known : ℕ → Bool
known kind = leb inv kind && leb kind val

-- the message of a kind that is known
abbrev pub message_of : ℕ → Timestamp → Message
message_of kind t = cond (eqb kind inv) (Inv t) (cond (eqb kind ack) (Ack t) (Val t))
