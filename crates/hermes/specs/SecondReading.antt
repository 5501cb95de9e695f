-- Demand 3 a second time, written from DEMANDS.md, document 01 and document 02's Wishes 1, 5 and 6 alone.
-- What one laptop does to one event (Event, Node) is taken as given.
use Rattle.std.specs.Prelude.{ℕ, ◌+◌, ◌*◌, ◌/◌, ◌%◌, ◌^◌, ◌<◌, ◌≡◌, ◌≢◌, ◌⊎◌, List, [], ◌∷◌, length, get_or, take, drop, None, Ok, Some}
use Rattle.hermes_record.specs.declared.timestamp.Rule.{Rule}
use Rattle.hermes_record.specs.declared.timestamp.Rule.TheVariants.{Higher, Lower}
use Rattle.hermes_record.specs.declared.timestamp.Timestamp.{Timestamp}
use Rattle.hermes_record.specs.declared.record.Record.{Record}
use Rattle.hermes_record.specs.declared.record.State.TheVariants.{Valid}
use Rattle.hermes_record.specs.declared.record.State.TheVariants as state
use Rattle.hermes_record.specs.Order.{ties}
use Rattle.hermes.specs.declared.message.Message.{Message}
use Rattle.hermes.specs.declared.message.Message.TheVariants.{Inv, Ack, Val}
use Rattle.hermes.specs.Answer.{Outgoing}
use Rattle.hermes.specs.declared.event.Event.TheVariants.{Read, Ask, Write, Commit, Replay, Deliver, Validate, Resend}
use Rattle.hermes.specs.declared.event.Settings.{Settings}
use Rattle.hermes.specs.Event.{number_of, sent_by}
use Rattle.hermes.specs.Node.{Node, Outcome, record_of, apply, viewed, start}

-- ---- views, stamps, lists

-- 01, "a view, a set of laptop numbers in 16 bits": laptop k stands in view s when k is below 16 and binary digit k of s is 1
abbrev pub InView : ℕ → ℕ → Type 0
InView k s = (k < 16) × (s / 2 ^ k % 2 ≡ 1)

-- 01, "the greater tie-breaker", and 02, Wish 6, "a tie to the lower laptop number", where "both rules live on": by the rule, tie-breaker a wins over b
abbrev pub WinsTie : Rule → ℕ → ℕ → Type 0
WinsTie Higher a b = b < a
WinsTie Lower a b = a < b

-- 01, "The greater stamp has the greater version or, versions equal, the greater tie-breaker";
-- 02, Wish 6, "Comparing two stamps now depends on the rule": by the rule, s is greater than t
pub data Greater (rule : Rule) (s t : Timestamp) : Type 0 where
  by_version : t.version < s.version → Greater rule s t
  by_tie : s.version ≡ t.version → WinsTie rule s.tie t.tie → Greater rule s t

-- DEMANDS 3, "shows the validated stamp or a later one"; 01, "A later stamp is a greater one"; 02, Wish 6, "all that rests on it follows"
pub data SameOrLater (rule : Rule) (validated shown : Timestamp) : Type 0 where
  same : shown ≡ validated → SameOrLater rule validated shown
  greater : Greater rule shown validated → SameOrLater rule validated shown

-- x is one of the list
pub data Among {A : Type 0} (x : A) : List A → Type 0 where
  first : {rest : List A} → Among x (x ∷ rest)
  further : {other : A} {rest : List A} → Among x rest → Among x (other ∷ rest)

-- ---- messages and entries

-- 01, "A leaving message carries the laptop's number and epoch and the record's number", its kind with the stamp, and the bytes it left with
pub record Mail : Type 0 where
  pub sender : ℕ
  pub epoch : ℕ
  pub number : ℕ
  pub kind : Message
  pub bytes : List ℕ

-- 01, "a read, write, replay, delivery, validate, resend or view event": each with its record number; a write's value; a view's epoch and set;
-- "events added later join these": 02, Wish 5, an ask, and a commit "that brings the stamp back", with its value
pub data Happening : Type 0 where
  read : ℕ → Happening
  write : ℕ → List ℕ → Happening
  replay : ℕ → Happening
  delivery : Mail → Happening
  validation : ℕ → Happening
  resend : ℕ → Happening
  change : ℕ → ℕ → Happening
  ask : ℕ → Happening
  commit : ℕ → Timestamp → List ℕ → Happening

-- 01, "a delivery names its message's record and brings its message's bytes"; every other event is simply done
-- (a laptop compares by its own rule, the one that it was started with)
abbrev pub perform : Happening → Node → Outcome
perform (read i) n = apply ties n i Read []
perform (write i value) n = apply ties n i Write value
perform (replay i) n = apply ties n i Replay []
perform (delivery m) n =
    apply ties n m.number (Deliver (record { sender = m.sender; epoch = m.epoch; message = m.kind })) m.bytes
perform (validation i) n = apply ties n i Validate []
perform (resend i) n = apply ties n i Resend []
perform (change epoch set) n = viewed n epoch set
perform (ask i) n = apply ties n i Ask []
perform (commit i t value) n = apply ties n i (Commit t) value

-- 01, "accepted or refused, of any laptop of the group": the laptop as the entry finds it, and what is done there
pub record Entry : Type 0 where
  pub found : Node
  pub event : Happening

-- the answer of an entry, and its laptop as the entry leaves it
abbrev pub outcome : Entry → Outcome
outcome e = perform e.event e.found

-- 01, "an INV leaves with the value", the first bytes of the record's 192 in the memory after the event; an ACK and a VAL take none
abbrev pub bytes_with : Message → ℕ → Node → List ℕ
bytes_with (Inv t) i after = take (record_of i after).len (drop (192 * i) after.store)
bytes_with (Ack t) i after = []
bytes_with (Val t) i after = []

-- 01, "The message that leaves an event is none, or one": m is what leaves, out of the memory after the event
abbrev pub Leaves : Mail → Outgoing → Node → Type 0
Leaves m None after = ⊥
Leaves m (Some (kind, h)) after =
    m ≡ record { sender = h.sender; epoch = h.epoch; number = h.index; kind = kind; bytes = bytes_with kind h.index after }

-- 01, "A delivered message left an earlier entry, keeps the bytes it left with"
pub record Left (m : Mail) (earlier : List Entry) : Type 0 where
  pub entry : Entry
  pub listed : Among entry earlier
  pub left : Leaves m (sent_by (outcome entry).answer) (outcome entry).node

-- 01's premise on an event after the earlier entries: on a delivery as above, and "A view entry carries an epoch and the view issued for it";
-- none on an ask, nor on a commit, whatever stamp it brings: 01, "accepted or refused"; 02, Wish 5, "26 when .. its stamp differs"
abbrev pub Honest : (ℕ → ℕ) → List Entry → Happening → Type 0
Honest issued earlier (read i) = Unit
Honest issued earlier (write i value) = Unit
Honest issued earlier (replay i) = Unit
Honest issued earlier (delivery m) = Left m earlier
Honest issued earlier (validation i) = Unit
Honest issued earlier (resend i) = Unit
Honest issued earlier (change epoch set) = set ≡ issued epoch
Honest issued earlier (ask i) = Unit
Honest issued earlier (commit i t value) = Unit

-- ---- lists of entries

-- 01, "their memory changes only by events": one laptop of the group, old, has become new; the others are as they were
pub data Replaced (old new : Node) : List Node → List Node → Type 0 where
  here : {rest : List Node} → Replaced old new (old ∷ rest) (new ∷ rest)
  there : {other : Node} {before after : List Node} → Replaced old new before after → Replaced old new (other ∷ before) (other ∷ after)

-- 01, "Each entry gets its laptop .. as the laptop's last entry, or its start, left them": the entries, the latest first, and the group after them
pub data History (issued : ℕ → ℕ) (begun : List Node) : List Entry → List Node → Type 0 where
  empty : History issued begun [] begun
  next : {earlier : List Entry} {before after : List Node} (e : Entry)
      → History issued begun earlier before
      → Honest issued earlier e.event
      → Replaced e.found (outcome e).node before after
      → History issued begun (e ∷ earlier) after

-- ---- the group at its start

-- 01, "start fresh once with one first view": an accepted start with so many records, on lent memory that may hold anything, left n;
-- 02, Wish 6, the rule is "fixed at a group's start": the start is told it, among the settings
pub record FreshStart (first count : ℕ) (settings : Settings) (n : Node) : Type 0 where
  pub number : ℕ
  pub table : List Record
  pub store : List ℕ
  pub records : length table ≡ count
  pub accepted : start number first settings table store ≡ record { admission = Ok n.me; table = n.table; store = n.store }

-- 01, "The laptops of a group have different numbers"
abbrev pub Different : List Node → Type 0
Different [] = Unit
Different (n ∷ rest) = ((m : Node) → Among m rest → m.me.number ≢ n.me.number) × Different rest

-- 01, "Premises of agreement": the group as it starts; one view per epoch number, the first for epoch 0, "each within all lower-numbered ones";
-- 02, Wish 6, "fixed at a group's start", "and each group setting added later, fixed likewise": all its laptops start with the group's one settings
pub record Premises (issued : ℕ → ℕ) (settings : Settings) (begun : List Node) : Type 0 where
  pub different : Different begun
  pub count : ℕ
  pub fresh : (n : Node) → Among n begun → FreshStart (issued 0) count settings n
  pub nested : (low high k : ℕ) → low < high → InView k (issued high) → InView k (issued low)

-- ---- what is demanded

-- 01, "A laptop shows a record valid when the questions and steps above leave its state there valid": one of its records, in state valid
pub record ShowsValid (i : ℕ) (n : Node) : Type 0 where
  pub its_own : i < length n.table
  pub valid : (record_of i n).state ≡ Valid

-- DEMANDS 3, "hold one stamp and the same bytes for it"; 01, "the same length and the same 192 store bytes for that record"
pub record Agree (i : ℕ) (a b : Node) : Type 0 where
  pub one_stamp : (record_of i a).timestamp ≡ (record_of i b).timestamp
  pub same_length : (record_of i a).len ≡ (record_of i b).len
  pub same_bytes : (j : ℕ) → j < 192 → get_or a.store (192 * i + j) 0 ≡ get_or b.store (192 * i + j) 0

-- DEMANDS 3, first half: "any two laptops that stand in each other's view and both show a ring record valid"
abbrev pub Agreement : List Node → Type 0
Agreement group = (i : ℕ) (a b : Node) → Among a group → Among b group
    → InView b.me.number a.me.view → InView a.me.number b.me.view
    → ShowsValid i a → ShowsValid i b → Agree i a b

-- 02, Wish 1, "while the record is in write or replay": record i of the laptop as the event finds it
abbrev pub InWriteOrReplay : ℕ → Node → Type 0
InWriteOrReplay i n = ((record_of i n).state ≡ state.Write) ⊎ ((record_of i n).state ≡ state.Replay)

-- 02, Wish 1, "completes the view"; 01, "every other laptop in the view acknowledged": each of them is the sender, or was counted for record i before
abbrev pub CompletesView : ℕ → ℕ → Node → Type 0
CompletesView sender i n = (k : ℕ) → InView k n.me.view → k ≢ n.me.number
    → (k ≡ sender) ⊎ InView k (record_of i n).acks

-- 02, Wish 1, "An ACK that completes the view while the record is in write or replay": m is one for record i of n, the laptop that it is delivered to
pub record LastAck (m : Mail) (i : ℕ) (n : Node) : Type 0 where
  pub its_record : m.number ≡ i
  pub stamp : Timestamp
  pub ack : m.kind ≡ Ack stamp
  pub waiting : InWriteOrReplay i n
  pub completing : CompletesView m.sender i n

-- 01, "A validation is an accepted Validate step"; 02, Wish 1, of such an ACK, "for demand 3 that too is a validation": the event, once accepted, is one of record i
-- (neither of Wish 5's is: an ask "hands out value and stamp", a commit "goes on as a write", and its save is finished as a write's is)
abbrev pub Validates : Happening → ℕ → Node → Type 0
Validates (read j) i n = ⊥
Validates (write j value) i n = ⊥
Validates (replay j) i n = ⊥
Validates (delivery m) i n = LastAck m i n
Validates (validation j) i n = j ≡ i
Validates (resend j) i n = ⊥
Validates (change epoch set) i n = ⊥
Validates (ask j) i n = ⊥
Validates (commit j t value) i n = ⊥

-- DEMANDS 3, second half: "for every accepted validation in the list", the finisher as it was found, "each laptop then in the finisher's view";
-- 02, Wish 6, "Comparing two stamps now depends on the rule": here on the group's
abbrev pub Kept : Rule → List Entry → List Node → Type 0
Kept rule list group = (i : ℕ) (done : Happening) (finisher a : Node) → Among (record { found = finisher; event = done }) list
    → Validates done i finisher → number_of (perform done finisher).answer ≡ 0
    → Among a group → InView a.me.number finisher.me.view → ShowsValid i a
    → SameOrLater rule (record_of i finisher).timestamp (record_of i a).timestamp

-- DEMANDS 3, whole: every group that has just started fresh, every list of entries, the group after it;
-- 02, Wish 6, "both rules live on", "then used for these two": whichever rule the group has, and by that one its later stamps are later
abbrev pub SecondDemand3 : Type 0
SecondDemand3 = (issued : ℕ → ℕ) (settings : Settings) (begun : List Node) → Premises issued settings begun
    → (list : List Entry) (group : List Node) → History issued begun list group
    → Agreement group × Kept settings.rule list group
