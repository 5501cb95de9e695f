-- Demand 3 of the exported functions: every list of calls on the laptops of a group, each as its function's contract says, and nothing known of them but that.
use Rattle.std.specs.Prelude.{ℕ, ◌<◌, ◌≡◌, Bool, true, false, cond, ◌⊎◌, eqb, length, Err}
use mathlib.Core.List.{List, [], ◌∷◌, ◌++◌, Memᴰ}
use Rattle.hermes_record.specs.declared.timestamp.Timestamp.{Timestamp}
use Rattle.hermes_record.specs.declared.timestamp.Rule.{Rule}
use Rattle.hermes.specs.declared.message.Message.TheVariants.{Val}
use Rattle.hermes.specs.declared.event.Settings.{Settings}
use Rattle.hermes.specs.declared.event.Event.{Event}
use Rattle.hermes.specs.declared.event.Event.TheVariants.{Read, Ask, Write, Commit, Replay, Deliver, Validate, Resend}
use Rattle.hermes_record.specs.Order.{ties, NotAfter}
use Rattle.hermes.specs.Settings.{under}
use Rattle.hermes.specs.Kind.{known}
use Rattle.hermes.specs.Event.{send, sent_by}
use Rattle.hermes.specs.Node as hermes
use Rattle.hermes.specs.Node.{Node, Outcome, record_of, apply, viewed}
use Rattle.hermes.specs.Run.{Logged, received, logged}
use Rattle.hermes.specs.Agreement.{Shows, Sees, Alike}
use Rattle.hermes.specs.Answer.{no}
use Rattle.packet_format.specs.Reading.{fetched}
use Rattle.packet_format.specs.Accepting.{taken}
use Rattle.packet_event.specs.Arrival.{receipt}
use Rattle.export_records.specs.Layout.{count_of}
use Rattle.export_numbers.specs.declared.numbers.CetskobiReplica.{CetskobiReplica}
use Rattle.export_numbers.specs.declared.numbers.CetskobiSettings.{CetskobiSettings}
use Rattle.export_numbers.specs.declared.numbers.CetskobiAnswer.{CetskobiAnswer}
use Rattle.export_numbers.specs.declared.numbers.CetskobiMessage.{CetskobiMessage}
use Rattle.export_numbers.specs.declared.numbers.CetskobiReading.{CetskobiReading}
use Rattle.export_numbers.specs.declared.numbers.CetskobiAsked.{CetskobiAsked}
use Rattle.export_numbers.specs.declared.numbers.CetskobiAdmission.{CetskobiAdmission}
use Rattle.export_numbers.specs.Crossing.{settings_of, replica_of, admission_out, received_in}
use Rattle.export_calls.specs.Calls.{node_of, Done}
use Rattle.export_reading.specs.Reading.{ReadDone, AskDone}
use Rattle.export_membership.specs.Admission.{StartDone}
use Rattle.export_fields.specs.declared.answers.CetskobiAccepted.{CetskobiAccepted}
use Rattle.export_fields.specs.Answers.{accepted_in}
use Rattle.export_arrival.specs.Arrival.{Arrived}
use Rattle.export_accepted.specs.declared.accepted.CetskobiArrival.{CetskobiArrival}
use Rattle.export_accepted.specs.Arrival.{taken_receipt, Came}
use Rattle.export_numbers.specs.Crossing.{group_rule}
use Rattle.check_air.specs.Air.{Sending, Called, Packed}

-- ---- one call

-- a laptop as its caller holds it
pub record Laptop : Type 0 where
  pub me : CetskobiReplica
  pub table : List ℕ
  pub store : List ℕ

-- the same as the definitions have it
abbrev pub node : Laptop → Node
node l = node_of l.me l.table l.store

-- a call of an exported function, with what it is handed beside the laptop
pub data Call : Type 0 where
  read : ℕ → Call
  ask : ℕ → Call
  write : ℕ → List ℕ → Call
  -- record, version, tie-breaker, value
  commit : ℕ → ℕ → ℕ → List ℕ → Call
  replay : ℕ → Call
  deliver : ℕ → CetskobiMessage → List ℕ → Call
  -- message i of a packet
  deliver_packet : List ℕ → ℕ → Call
  -- message i of a packet by these facts
  deliver_accepted : List ℕ → CetskobiAccepted → ℕ → Call
  validate : ℕ → Call
  resend : ℕ → Call
  view : ℕ → ℕ → Call

-- the number that an event's function answers, and the laptop after it. A function that is lent the store to read leaves it as it is
abbrev pub Moves : Laptop → ℕ → Event → List ℕ → ℕ → Laptop → Type 0
Moves l i e v number l' =
    (a : CetskobiAnswer) × Done (node l) l.table i e v a l'.table l'.store × (a.number ≡ number) × (l'.me ≡ l.me)

-- the contract of the function that is called: the number that it answers, and the laptop after it
abbrev pub Returns : Call → Laptop → ℕ → Laptop → Type 0
Returns (read i) l number l' = (p : CetskobiReading) × ReadDone (node l) i p × (p.number ≡ number) × (l' ≡ l)
Returns (ask i) l number l' = (p : CetskobiAsked) × AskDone (node l) i p × (p.number ≡ number) × (l' ≡ l)
Returns (write i v) l number l' = Moves l i Write v number l'
Returns (commit i version tie v) l number l' = Moves l i (Commit (record { version = version; tie = tie })) v number l'
Returns (replay i) l number l' = Moves l i Replay [] number l'
Returns (deliver i m v) l number l' = Moves l i (Deliver (received_in m)) v number l'
Returns (deliver_packet p i) l number l' =
    (a : CetskobiAnswer) × Arrived (node l) l.table p (fetched (group_rule l.me) p i) a l'.table l'.store × (a.number ≡ number) × (l'.me ≡ l.me)
Returns (deliver_accepted p a i) l number l' =
    (r : CetskobiArrival) × Came (node l) l.table p (taken p (accepted_in a) i) r l'.table l'.store × (r.answer.number ≡ number) × (l'.me ≡ l.me)
Returns (validate i) l number l' = Moves l i Validate [] number l'
Returns (resend i) l number l' = Moves l i Resend [] number l'
Returns (view epoch set) l number l' =
    (a : CetskobiAdmission) × (a ≡ admission_out (hermes.view (replica_of l.me) epoch set) l.me) × (a.number ≡ number)
    × (l' ≡ record { me = a.replica; table = l.table; store = l.store })

-- ---- the group

-- the laptop of each number, and the messages that left, oldest first
pub record Hut : Type 0 where
  pub at : ℕ → Laptop
  pub log : List Logged

-- one call: whose, which, what it answered, and the laptop as it left it
pub record Turn : Type 0 where
  pub who : ℕ
  pub call : Call
  pub number : ℕ
  pub left : Laptop

-- what the call's event comes to
abbrev pub outcome : Call → Node → Outcome
outcome (read i) n = apply ties n i Read []
outcome (ask i) n = apply ties n i Ask []
outcome (write i v) n = apply ties n i Write v
outcome (commit i version tie v) n = apply ties n i (Commit (record { version = version; tie = tie })) v
outcome (replay i) n = apply ties n i Replay []
outcome (deliver i m v) n = apply ties n i (Deliver (received_in m)) v
outcome (deliver_packet p i) n = receipt ties n p i
outcome (deliver_accepted p a i) n = taken_receipt n p (taken p (accepted_in a) i)
outcome (validate i) n = apply ties n i Validate []
outcome (resend i) n = apply ties n i Resend []
outcome (view epoch set) n = viewed n epoch set

-- the messages with what left the call
abbrev pub log_of : List Logged → Outcome → List Logged
log_of log o = logged log o.node (sent_by o.answer)

-- the group after a call: the caller's laptop is as the call left it, and the others are as they were
abbrev pub next : Hut → Turn → Hut
next h s = record {
  at = λ k. cond (eqb k s.who) s.left (h.at k);
  log = log_of h.log (outcome s.call (node (h.at s.who)));
}

-- and after a list of calls
abbrev pub after : Hut → List Turn → Hut
after h [] = h
after h (s ∷ rest) = after (next h s) rest

-- ---- the premises

-- 01, "A delivered message left an earlier entry": message i of the packet is one that left, packed by `cetskobi_pack` for this rule
pub record FromAir (rule : Rule) (log : List Logged) (p : List ℕ) (i : ℕ) : Type 0 where
  pub message : Logged
  pub earlier : Memᴰ message log
  pub sending : Sending
  pub called : Called message sending
  pub before : List Sending
  pub after : List Sending
  pub packed : Packed rule (before ++ sending ∷ after) p
  pub place : i ≡ length before

-- a packet of which the reader of a group with this rule refuses message i, that of another station say (02, Wish 6); its number
pub record Broken (rule : Rule) (p : List ℕ) (i : ℕ) : Type 0 where
  pub number : ℕ
  pub refused : fetched rule p i ≡ Err (no number)

-- facts by which message i of the packet is refused: those of a broken packet, say, or of one with fewer messages
pub record Untaken (p : List ℕ) (a : CetskobiAccepted) (i : ℕ) : Type 0 where
  pub number : ℕ
  pub refused : taken p (accepted_in a) i ≡ Err (no number)

-- numbers and bytes of a message that left
pub record AsNumbers (log : List Logged) (i : ℕ) (m : CetskobiMessage) (v : List ℕ) : Type 0 where
  pub message : Logged
  pub earlier : Memᴰ message log
  pub index : i ≡ message.header.index
  pub same : received_in m ≡ received message
  pub bytes : v ≡ message.body

-- 01, "Premises of agreement": what is delivered left an earlier call, or is refused for itself, a broken packet or an unknown kind;
-- a view is the one issued for its epoch. `rule` is the laptop's; a packet for
-- the other is broken here (27). By facts any packet that left may be taken, and they may be any: those of another packet do no harm.
abbrev pub Fair : (ℕ → ℕ) → List Logged → Rule → Call → Type 0
Fair issued log rule (read i) = Unit
Fair issued log rule (ask i) = Unit
Fair issued log rule (write i v) = Unit
Fair issued log rule (commit i version tie v) = Unit
Fair issued log rule (replay i) = Unit
Fair issued log rule (deliver i m v) = AsNumbers log i m v ⊎ (known m.kind ≡ false)
Fair issued log rule (deliver_packet p i) = FromAir rule log p i ⊎ Broken rule p i
Fair issued log rule (deliver_accepted p a i) = ((packing : Rule) × FromAir packing log p i) ⊎ Untaken p a i
Fair issued log rule (validate i) = Unit
Fair issued log rule (resend i) = Unit
Fair issued log rule (view epoch set) = set ≡ issued epoch

-- each call is of a laptop of the group, which it finds as that laptop's last call left it
abbrev pub Follows : (ℕ → Bool) → (ℕ → ℕ) → Hut → List Turn → Type 0
Follows member issued h [] = Unit
Follows member issued h (s ∷ rest) =
    (member s.who ≡ true) × Fair issued h.log (group_rule (h.at s.who).me) s.call × Returns s.call (h.at s.who) s.number s.left × Follows member issued (next h s) rest

-- laptop k was started by `cetskobi_start` on memory for so many records, with the first view and the group's settings, by whichever byte, and
-- that was accepted
pub record Begun (count : ℕ) (issued : ℕ → ℕ) (settings : Settings) (k : ℕ) (l : Laptop) : Type 0 where
  pub given : CetskobiSettings
  pub fixed : settings_of given ≡ settings
  pub table : List ℕ
  pub store : List ℕ
  pub records : count_of (length table) ≡ count
  pub admission : CetskobiAdmission
  pub started : StartDone k (issued 0) (settings_of given) table store admission l.table l.store
  pub accepted : admission.number ≡ 0
  pub identity : l.me ≡ admission.replica

-- every laptop of the group was, and nothing was sent
pub record AllBegun (member : ℕ → Bool) (count : ℕ) (issued : ℕ → ℕ) (settings : Settings) (h : Hut) : Type 0 where
  pub fresh : (k : ℕ) → member k ≡ true → Begun count issued settings k (h.at k)
  pub silent : h.log ≡ []

-- ---- the claim

-- a call that hands a message over
abbrev pub Delivers : Call → Type 0
Delivers (read i) = ⊥
Delivers (ask i) = ⊥
Delivers (write i v) = ⊥
Delivers (commit i version tie v) = ⊥
Delivers (replay i) = ⊥
Delivers (deliver i m v) = Unit
Delivers (deliver_packet p i) = Unit
Delivers (deliver_accepted p a i) = Unit
Delivers (validate i) = ⊥
Delivers (resend i) = ⊥
Delivers (view epoch set) = ⊥

-- a call that finishes record i of laptop n: 01, "A validation is an accepted Validate step"; 02, Wish 1, "that too is a validation": a delivery
-- with which a VAL leaves
pub data Finishes (n : Node) (i : ℕ) (c : Call) : Type 0 where
  validates : c ≡ validate i → Finishes n i c
  acknowledges : Delivers c → (t : Timestamp) → sent_by (outcome c n).answer ≡ send n.me i (Val t) → Finishes n i c

-- laptop k after a list of calls
abbrev pub laptop : Hut → List Turn → ℕ → Node
laptop h turns k = node ((after h turns).at k)

-- demand 3, both halves, as `Agreement` of hermes has them
pub record CallsAgree (member : ℕ → Bool) (count : ℕ) (settings : Settings) (h : Hut) (turns : List Turn) : Type 0 where
  pub alike : (i k m : ℕ) → i < count → member k ≡ true → member m ≡ true
      → Sees (laptop h turns k) m → Sees (laptop h turns m) k → Shows (laptop h turns k) i → Shows (laptop h turns m) i
      → Alike i (laptop h turns k) (laptop h turns m)
  pub lasting : (i m : ℕ) (before rest : List Turn) (s : Turn) → i < count → member m ≡ true
      → turns ≡ before ++ s ∷ rest → Finishes (laptop h before s.who) i s.call → s.number ≡ 0
      → Sees (laptop h before s.who) m → Shows (laptop h turns m) i
      → NotAfter (under ties settings) (record_of i (laptop h before s.who)).timestamp (record_of i (laptop h turns m)).timestamp

-- demand 3 of the exported functions, of every group, whichever its rule; `proofs/Callers` proves it
abbrev pub CalledDemand3 : Type 0
CalledDemand3 = (member : ℕ → Bool) (count : ℕ) (issued : ℕ → ℕ) (settings : Settings) (h : Hut) → AllBegun member count issued settings h
    → (turns : List Turn) → Follows member issued h turns → CallsAgree member count settings h turns
