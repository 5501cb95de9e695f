-- 02, Wish 1, "The last acknowledgement settles the record": what an accepted ACK does; and that, until a view changes, no record waits although
-- everyone has replied.
use Rattle.std.specs.Prelude.{ℕ, ◌<◌, ◌≡◌, Bool, true, ◌⊎◌, ◌≢◌, List, [], ◌∷◌, None}
use Rattle.hermes_record.specs.declared.timestamp.Timestamp.{Timestamp}
use Rattle.hermes_record.specs.declared.record.Record.{Record}
use Rattle.hermes_record.specs.declared.record.State.TheVariants.{Valid, Write, Replay}
use Rattle.hermes.specs.declared.message.Message.TheVariants.{Ack, Val}
use Rattle.hermes.specs.declared.message.Received.{Received}
use Rattle.hermes.specs.declared.event.Replica.{Replica}
use Rattle.hermes.specs.declared.event.Settings.{Settings}
use Rattle.hermes.specs.declared.event.Event.TheVariants.{Deliver}
use Rattle.hermes_record.specs.Members.{has}
use Rattle.hermes_record.specs.Order.{Orders}
use Rattle.hermes.specs.Event.{send, number_of, sent_by}
use Rattle.hermes.specs.Node.{Node, Outcome, record_of, apply}
use Rattle.hermes.specs.Run.{Action, read, ask, write, commit, replay, deliver, validate, resend, view, Entry, Group}
use Rattle.hermes.specs.Agreement.{Started, after}

-- "the record is in write or replay"
abbrev pub Waits : Record → Type 0
Waits r = (r.state ≡ Write) ⊎ (r.state ≡ Replay)

-- every other laptop of the view passes the test
abbrev pub EveryOther : Replica → (ℕ → Type 0) → Type 0
EveryOther me P = (m : ℕ) → has me.view m ≡ true → m ≢ me.number → P m

-- ---- one ACK

-- "completes the view": every other laptop of the view is its sender, or was counted before
abbrev pub Completes : Replica → Record → ℕ → Type 0
Completes me r sender = EveryOther me (λ m. (m ≡ sender) ⊎ (has r.acks m ≡ true))

-- an accepted ACK of that sender, on record i of n, comes to o
pub record AckDone (n : Node) (i sender : ℕ) (o : Outcome) : Type 0 where
  -- 01: its sender is counted
  pub counted : has (record_of i o.node).acks sender ≡ true
  -- "now also validates it, and the VAL leaves with that same event"
  pub last : Waits (record_of i n) → Completes n.me (record_of i n) sender
      → ((record_of i o.node).state ≡ Valid) × (sent_by o.answer ≡ send n.me i (Val (record_of i n).timestamp))
  -- any other, that in invalid-write among them, changes no state and sends nothing
  pub other : (Waits (record_of i n) → Completes n.me (record_of i n) sender → ⊥)
      → ((record_of i o.node).state ≡ (record_of i n).state) × (sent_by o.answer ≡ None)

-- every accepted ACK, on every laptop; `proofs/LastAck` proves it
abbrev pub LastAckSettles : Type 0
LastAckSettles = (wins : Orders) (n : Node) (i : ℕ) (m : Received) (t : Timestamp) (v : List ℕ) → m.message ≡ Ack t
    → number_of (apply wins n i (Deliver m) v).answer ≡ 0 → AckDone n i m.sender (apply wins n i (Deliver m) v)

-- ---- lists of entries

-- "Ringers see "waiting" although everyone has replied": record i waits, and every other laptop of the view is counted
abbrev pub AllReplied : ℕ → Node → Type 0
AllReplied i n = Waits (record_of i n) × EveryOther n.me (λ m. has (record_of i n).acks m ≡ true)

-- 01, "An entry is a .. view event": the one that may leave a record waiting so
abbrev pub IsView : Action → Type 0
IsView (read i) = ⊥
IsView (ask i) = ⊥
IsView (write i v) = ⊥
IsView (commit i t v) = ⊥
IsView (replay i) = ⊥
IsView (deliver k) = ⊥
IsView (validate i) = ⊥
IsView (resend i) = ⊥
IsView (view epoch set) = Unit

-- laptop k has no view event in the list
abbrev pub NoView : ℕ → List Entry → Type 0
NoView k [] = Unit
NoView k (a ∷ rest) = (a.who ≡ k → IsView a.what → ⊥) × NoView k rest

-- No record waits although everyone has replied: not after a fresh start, and not after any list of entries in which its laptop gets no view, if
-- it did not before. So the separate Validate "remains for a record whose last missing laptop was struck off"; `proofs/LastAck` proves it
pub record NobodyWaits : Type 0 where
  pub fresh : (member : ℕ → Bool) (count : ℕ) (issued : ℕ → ℕ) (settings : Settings) (g : Group) → Started member count issued settings g
      → (i k : ℕ) → i < count → member k ≡ true → AllReplied i (g.at k) → ⊥
  pub later : (wins : Orders) (g : Group) (i k : ℕ) → (AllReplied i (g.at k) → ⊥)
      → (entries : List Entry) → NoView k entries → AllReplied i (after wins g entries k) → ⊥
