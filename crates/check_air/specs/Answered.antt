-- Every call may follow, and on every laptop has its answer: `Fair` and `Returns` of `Callers` can be met, and this is by what. And `Finishes`
-- leaves no validation out.
use Rattle.std.specs.Prelude.{ℕ, ◌≡◌, false, ◌≢◌, List, [], length, Err, Ok}
use Rattle.hermes_record.specs.declared.timestamp.Timestamp.{Timestamp}
use Rattle.hermes_record.specs.declared.timestamp.Rule.{Rule}
use Rattle.hermes.specs.declared.message.Message.TheVariants.{Val}
use Rattle.hermes.specs.declared.event.Event.{Event}
use Rattle.hermes.specs.declared.event.Event.TheVariants.{Write, Commit, Replay, Deliver, Validate, Resend}
use Rattle.hermes_record.specs.Order.{ties}
use Rattle.hermes.specs.Kind.{known}
use Rattle.hermes.specs.Event as event
use Rattle.hermes.specs.Event.{send, sent_by}
use Rattle.hermes.specs.Node as hermes
use Rattle.hermes.specs.Node.{Node, apply, effect_of}
use Rattle.hermes.specs.Run.{Logged}
use Rattle.hermes.specs.Answer.{no}
use Rattle.packet_format.specs.Answer.{Taken}
use Rattle.packet_format.specs.Reading.{fetched, body_of}
use Rattle.packet_format.specs.Accepting.{taken, fetched_of}
use Rattle.packet_event.specs.Arrival.{receipt}
use Rattle.export_storing.specs.Storing.{bytes_after}
use Rattle.export_numbers.specs.declared.numbers.CetskobiMessage.{CetskobiMessage}
use Rattle.export_numbers.specs.declared.numbers.CetskobiAsked.{CetskobiAsked}
use Rattle.export_numbers.specs.Crossing.{replica_of, admission_out, received_in}
use Rattle.export_fields.specs.declared.answers.CetskobiAccepted.{CetskobiAccepted}
use Rattle.export_fields.specs.Answers.{accepted_in}
use Rattle.export_packets.specs.Calls.{accept_answer}
use Rattle.export_arrival.specs.Arrival.{numbers_of, bytes_arrived}
use Rattle.export_numbers.specs.Crossing.{group_rule}
use Rattle.check_air.specs.Callers.{Laptop, node, Call, read, ask, write, commit, replay, deliver, deliver_packet, deliver_accepted, validate, resend, view, Returns, outcome, FromAir, Broken, AsNumbers, Fair, Finishes}

-- the number of the answer
abbrev pub call_number : Call → Laptop → ℕ
call_number c l = event.number_of (outcome c (node l)).answer

-- what `cetskobi_ask` answers
abbrev pub ask_answer : Laptop → ℕ → CetskobiAsked
ask_answer l i = record {
  number = call_number (ask i) l;
  tie = (hermes.asked (node l) i).timestamp.tie;
  version = (hermes.asked (node l) i).timestamp.version;
  len = length (hermes.asked (node l) i).part;
}

-- the laptop after an event
abbrev pub after_event : Laptop → ℕ → Event → List ℕ → Laptop
after_event l i e v = record {
  me = l.me;
  table = bytes_after (effect_of ties (node l) i e v).moved l.table i;
  store = (apply ties (node l) i e v).node.store;
}

-- the laptop after the delivery of what was taken
abbrev pub after_taken : Laptop → List ℕ → Taken → Laptop
after_taken l p (Ok f) = after_event l f.index (Deliver (received_in (numbers_of f))) (body_of p (fetched_of (Ok f)))
after_taken l p (Err k) = l

-- the laptop after a call
abbrev pub after_call : Call → Laptop → Laptop
after_call (read i) l = l
after_call (ask i) l = l
after_call (write i v) l = after_event l i Write v
after_call (commit i version tie v) l = after_event l i (Commit (record { version = version; tie = tie })) v
after_call (replay i) l = after_event l i Replay []
after_call (deliver i m v) l = after_event l i (Deliver (received_in m)) v
after_call (deliver_packet p i) l = record {
  me = l.me;
  table = bytes_arrived (node l) l.table p (fetched (group_rule l.me) p i);
  store = (receipt ties (node l) p i).node.store;
}
after_call (deliver_accepted p a i) l = after_taken l p (taken p (accepted_in a) i)
after_call (validate i) l = after_event l i Validate []
after_call (resend i) l = after_event l i Resend []
after_call (view epoch set) l = record {
  me = (admission_out (hermes.view (replica_of l.me) epoch set) l.me).replica;
  table = l.table;
  store = l.store;
}

-- no call is forbidden that document 01 allows: after any messages every call may follow, a delivery of what left, for the other rule too, or
-- of what is refused for itself, a view as it is issued
pub record AnyCall (issued : ℕ → ℕ) (log : List Logged) (rule : Rule) : Type 0 where
  pub reads : (i : ℕ) → Fair issued log rule (read i)
  pub asks : (i : ℕ) → Fair issued log rule (ask i)
  pub writes : (i : ℕ) (v : List ℕ) → Fair issued log rule (write i v)
  pub commits : (i version tie : ℕ) (v : List ℕ) → Fair issued log rule (commit i version tie v)
  pub replays : (i : ℕ) → Fair issued log rule (replay i)
  pub deliveries : (i : ℕ) (m : CetskobiMessage) (v : List ℕ) → AsNumbers log i m v → Fair issued log rule (deliver i m v)
  pub unknowns : (i : ℕ) (m : CetskobiMessage) (v : List ℕ) → known m.kind ≡ false → Fair issued log rule (deliver i m v)
  pub packets : (p : List ℕ) (i : ℕ) → FromAir rule log p i → Fair issued log rule (deliver_packet p i)
  pub others : (other : Rule) (p : List ℕ) (i : ℕ) → other ≢ rule → FromAir other log p i → Fair issued log rule (deliver_packet p i)
  pub broken : (p : List ℕ) (i : ℕ) → Broken rule p i → Fair issued log rule (deliver_packet p i)
  pub accepted : (packing : Rule) (p : List ℕ) (a : CetskobiAccepted) (i : ℕ) → FromAir packing log p i → Fair issued log rule (deliver_accepted p a i)
  pub foreign : (p : List ℕ) (a : CetskobiAccepted) (i k : ℕ) → taken p (accepted_in a) i ≡ Err (no k) → Fair issued log rule (deliver_accepted p a i)
  pub unaccepted : (p : List ℕ) (i : ℕ) → Broken rule p i → Fair issued log rule (deliver_accepted p (accept_answer rule p) i)
  pub validations : (i : ℕ) → Fair issued log rule (validate i)
  pub resends : (i : ℕ) → Fair issued log rule (resend i)
  pub views : (epoch : ℕ) → Fair issued log rule (view epoch (issued epoch))

abbrev pub EveryCallMayFollow : Type 0
EveryCallMayFollow = (issued : ℕ → ℕ) (log : List Logged) (rule : Rule) → AnyCall issued log rule

-- no validation is left out: a Validate, and a delivery with which a VAL leaves, of numbers or out of a packet, accepted or not
pub record EveryCallFinishes : Type 0 where
  pub validations : (n : Node) (i : ℕ) → Finishes n i (validate i)
  pub deliveries : (n : Node) (i j : ℕ) (m : CetskobiMessage) (v : List ℕ) (t : Timestamp)
      → sent_by (outcome (deliver j m v) n).answer ≡ send n.me i (Val t) → Finishes n i (deliver j m v)
  pub packets : (n : Node) (i j : ℕ) (p : List ℕ) (t : Timestamp)
      → sent_by (outcome (deliver_packet p j) n).answer ≡ send n.me i (Val t) → Finishes n i (deliver_packet p j)
  pub accepted : (n : Node) (i j : ℕ) (p : List ℕ) (a : CetskobiAccepted) (t : Timestamp)
      → sent_by (outcome (deliver_accepted p a j) n).answer ≡ send n.me i (Val t) → Finishes n i (deliver_accepted p a j)

-- every call on every laptop is answered with that number, and leaves that laptop
abbrev pub EveryCallAnswers : Type 0
EveryCallAnswers = (c : Call) (l : Laptop) → Returns c l (call_number c l) (after_call c l)
