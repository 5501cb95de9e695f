-- Through the air: what left a call on one laptop, packed by `cetskobi_pack` and delivered from that packet, by `cetskobi_deliver_packet` or by the packet's facts, on another,
-- is the delivery of the message that left, which is what a deliver entry of demand 3's runs does.
use Rattle.std.specs.Prelude.{ℕ, ◌*◌, ◌≡◌, List, [], ◌∷◌, ◌++◌, length, take, drop}
use Rattle.hermes_record.specs.declared.timestamp.Rule.{Rule}
use Rattle.hermes.specs.declared.event.Event.{Event}
use Rattle.hermes.specs.declared.event.Event.TheVariants.{Deliver}
use Rattle.hermes_record.specs.Order.{ties}
use Rattle.hermes.specs.Event.{sent_by}
use Rattle.hermes.specs.Node.{Node, apply}
use Rattle.hermes.specs.Run.{Logged, received, logged}
use Rattle.packet_format.specs.Reading.{fetched}
use Rattle.export_numbers.specs.declared.numbers.CetskobiReplica.{CetskobiReplica}
use Rattle.export_numbers.specs.declared.numbers.CetskobiAnswer.{CetskobiAnswer}
use Rattle.export_calls.specs.Calls.{node_of, Done}
use Rattle.export_outgoing.specs.Leaving.{along_of, AlongAt}
use Rattle.export_packets.specs.Calls.{pack_answer, pack_output}
use Rattle.export_arrival.specs.Arrival.{Arrived}
use Rattle.packet_format.specs.Accepting.{accepted, taken}
use Rattle.export_accepted.specs.declared.accepted.CetskobiArrival.{CetskobiArrival}
use Rattle.export_accepted.specs.Arrival.{Came}
use Rattle.export_numbers.specs.Crossing.{group_rule}

-- ---- what a caller packs

-- of one call: the identity and the record number that it was made with, its answer, and the bytes that go with it
pub record Sending : Type 0 where
  pub from : CetskobiReplica
  pub index : ℕ
  pub left : CetskobiAnswer
  pub body : List ℕ

-- its seven words, as struct cetskobi_entry has them
abbrev pub seven_of : Sending → List ℕ
seven_of s =
    s.left.kind ∷ s.from.number ∷ s.from.epoch ∷ s.index ∷ s.left.version ∷ s.left.tie ∷ length s.body ∷ []

-- of several calls: their words end to end
abbrev pub words_sent : List Sending → List ℕ
words_sent [] = []
words_sent (s ∷ ss) = seven_of s ++ words_sent ss

-- and their bodies
abbrev pub bodies_sent : List Sending → List ℕ
bodies_sent [] = []
bodies_sent (s ∷ ss) = s.body ++ bodies_sent ss

-- ---- the three calls

-- x is the message that left event e on record i of n, as the run of a group logs it
abbrev pub Leaves : Node → ℕ → Event → List ℕ → Logged → Type 0
Leaves n i e v x = logged [] (apply ties n i e v).node (sent_by (apply ties n i e v).answer) ≡ x ∷ []

-- The first: an exported event was called, message x left it, and `cetskobi_body` was then asked for its bytes. An ACK that left
-- `cetskobi_deliver_packet` or `cetskobi_deliver_accepted` is among these, since by `ThroughTheAir` that call does what `called` says.
pub record Called (x : Logged) (s : Sending) : Type 0 where
  pub table : List ℕ
  pub store : List ℕ
  pub event : Event
  pub value : List ℕ
  pub table' : List ℕ
  pub store' : List ℕ
  pub called : Done (node_of s.from table store) table s.index event value s.left table' store'
  -- what `cetskobi_body` told, and the bytes that were copied by it
  pub told : ℕ
  pub asked : AlongAt store' s.index (along_of table' store' s.index s.left) told
  pub copied : s.body ≡ take told (drop (192 * s.index) store')
  pub leaves : Leaves (node_of s.from table store) s.index event value x

-- The second: `cetskobi_pack` was called with an output and the settings of a group with this rule, answered 0, and left the packet at its front.
pub record Packed (rule : Rule) (ss : List Sending) (packet : List ℕ) : Type 0 where
  pub out : List ℕ
  pub accepted : (pack_answer (words_sent ss) (bodies_sent ss) out).number ≡ 0
  pub front : packet ≡ take (pack_answer (words_sent ss) (bodies_sent ss) out).len (pack_output rule (words_sent ss) (bodies_sent ss) out)

-- The third: `cetskobi_deliver_packet`, of that message of the packet, on a laptop of the same rule, is exactly the delivery of the message that
-- left, with the bytes that it left with.
abbrev pub ThroughTheAir : Type 0
ThroughTheAir = (before after : List Sending) (s : Sending) (x : Logged) (packet : List ℕ) (me : CetskobiReplica)
    → Called x s → Packed (group_rule me) (before ++ s ∷ after) packet
    → (table store table' store' : List ℕ) (a : CetskobiAnswer)
    → Arrived (node_of me table store) table packet (fetched (group_rule me) packet (length before)) a table' store'
    → Done (node_of me table store) table x.header.index (Deliver (received x)) x.body a table' store'

-- The same by the facts of the packet (02, Wish 4); and the arrival tells whose message left, of which epoch and about which record.
pub record CameThrough (x : Logged) (me : CetskobiReplica) (table store : List ℕ) (r : CetskobiArrival) (table' store' : List ℕ) : Type 0 where
  pub done : Done (node_of me table store) table x.header.index (Deliver (received x)) x.body r.answer table' store'
  pub tells : r ≡ record { answer = r.answer; epoch = x.header.epoch; sender = x.header.sender; index = x.header.index }

abbrev pub AcceptedThroughTheAir : Type 0
AcceptedThroughTheAir = (before after : List Sending) (s : Sending) (x : Logged) (packet : List ℕ) (me : CetskobiReplica)
    → Called x s → Packed (group_rule me) (before ++ s ∷ after) packet
    → (table store table' store' : List ℕ) (r : CetskobiArrival)
    → Came (node_of me table store) table packet (taken packet (accepted (group_rule me) packet) (length before)) r table' store'
    → CameThrough x me table store r table' store'
