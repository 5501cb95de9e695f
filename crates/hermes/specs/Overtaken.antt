-- 02, Wish 2, "A record hung after two saves": that a replay gives the laptop's own overtaken save up for good, and that no record hangs on a
-- laptop that was struck off.
use Rattle.std.specs.Prelude.{ℕ, ◌<◌, ◌≡◌, Bool, true, ◌≢◌, List, []}
use Rattle.hermes_record.specs.declared.timestamp.Timestamp.{Timestamp}
use Rattle.hermes_record.specs.declared.record.State.TheVariants.{InvalidWrite}
use Rattle.hermes.specs.declared.message.Message.TheVariants.{Inv, Ack, Val}
use Rattle.hermes.specs.declared.message.Received.{Received}
use Rattle.hermes.specs.declared.event.Settings.{Settings}
use Rattle.hermes.specs.declared.event.Event.TheVariants.{Read, Replay, Deliver, Validate, Resend}
use Rattle.hermes_record.specs.Order.{Orders, TieOrders, later}
use Rattle.hermes.specs.Settings.{under}
use Rattle.hermes.specs.Event.{send, number_of, sent_by}
use Rattle.hermes.specs.Node.{Node, record_of, apply}
use Rattle.hermes.specs.Run.{Entry, Group, replay, result, advance, run}
use Rattle.hermes.specs.Agreement.{Started, Entries, Sees, IsAccepted, after}
use Rattle.hermes.specs.LastAck.{AllReplied}

-- laptop k replays record i
abbrev pub replay_of : ℕ → ℕ → Entry
replay_of k i = record { who = k; what = replay i }

module _ (wins : Orders) where
  -- ---- "The laptop's own overtaken save is given up"

  -- the save of timestamp t is given up for record i of n: the record is past it, and no ACK of it is accepted
  pub record Past (i : ℕ) (t : Timestamp) (n : Node) : Type 0 where
    pub overtaken : later (under wins n.me.settings) (record_of i n).timestamp t ≡ true
    pub uncounted : (m : Received) (v : List ℕ) → m.message ≡ Ack t → number_of (apply wins n i (Deliver m) v).answer ≢ 0

  -- laptop k, whose own save of record i was overtaken in these entries, replays the record
  pub record GivesUp (g : Group) (before : List Entry) (i k : ℕ) : Type 0 where
    pub invalid_write : (record_of i (after wins g before k)).state ≡ InvalidWrite
    pub accepted : IsAccepted (result wins (run wins g before) (replay_of k i))

  -- then that save, the one of its last-write timestamp, is given up, and stays so after whatever follows
  abbrev pub GivenUpBy : Type 0
  GivenUpBy = (member : ℕ → Bool) (count : ℕ) (issued : ℕ → ℕ) (settings : Settings) (g : Group) → Started member count issued settings g
      → (before : List Entry) (i k : ℕ) → i < count → member k ≡ true → GivesUp g before i k
      → (rest : List Entry) → Past i (record_of i (after wins g before k)).written (after wins (advance wins (run wins g before) (replay_of k i)) rest k)

  -- ---- "neither could finish"

  -- what can be done for record i of n: a read shows it; a Validate finishes it; a resend sends its INV again, and somebody of the view has not
  -- replied; a replay takes it over; or it waits for another laptop of the view, the last writer
  pub data Turn (n : Node) (i : ℕ) : Type 0 where
    shown : number_of (apply wins n i Read []).answer ≡ 0 → Turn n i
    finishes : number_of (apply wins n i Validate []).answer ≡ 0 → sent_by (apply wins n i Validate []).answer ≡ send n.me i (Val (record_of i n).timestamp) → Turn n i
    resends : (AllReplied i n → ⊥) → number_of (apply wins n i Resend []).answer ≡ 0 → sent_by (apply wins n i Resend []).answer ≡ send n.me i (Inv (record_of i n).timestamp) → Turn n i
    takes_over : number_of (apply wins n i Replay []).answer ≡ 0 → sent_by (apply wins n i Replay []).answer ≡ send n.me i (Inv (record_of i n).timestamp) → Turn n i
    awaits : Sees n (record_of i n).writer → (record_of i n).writer ≢ n.me.number → Turn n i

  -- one of these holds of every record of a laptop in its own view: none hangs on a laptop outside it, or on the own overtaken save
  abbrev pub NobodyHangsBy : Type 0
  NobodyHangsBy = (member : ℕ → Bool) (count : ℕ) (issued : ℕ → ℕ) (settings : Settings) (g : Group) → Started member count issued settings g
      → (entries : List Entry) → Entries member issued entries
      → (i k : ℕ) → i < count → member k ≡ true → Sees (after wins g entries k) k → Turn (after wins g entries k) i

-- both, over every strict total order of ties for each rule, of which the second asks nothing; `proofs/Overtaken` proves them
abbrev pub GivenUp : Type 0
GivenUp = (wins : Orders) → TieOrders wins → GivenUpBy wins

abbrev pub NobodyHangs : Type 0
NobodyHangs = (wins : Orders) → NobodyHangsBy wins
