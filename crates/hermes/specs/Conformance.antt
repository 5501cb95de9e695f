-- Demand 2: each event is accepted exactly when document 01's own questions say yes and the source's guard holds (a replay's as 02, Wish 2 widens it, a commit's as Wish 5 narrows a write's);
-- accepted, it does the source's action; refused, nothing moves and nothing leaves.
use Rattle.std.specs.Prelude.{ℕ, ◌<◌, ◌≡◌, not, ◌&&◌, ◌≢◌, ◌↔◌, List, [], ◌∷◌, eqb, length, None, Ok}
use Rattle.hermes_record.specs.declared.timestamp.Timestamp.{Timestamp}
use Rattle.hermes_record.specs.declared.record.Record.{Record}
use Rattle.hermes.specs.declared.message.Message.{Message}
use Rattle.hermes.specs.declared.message.Message.TheVariants.{Inv, Ack, Val}
use Rattle.hermes.specs.declared.message.Received.{Received}
use Rattle.hermes.specs.declared.event.Settings.{Settings}
use Rattle.hermes.specs.declared.event.Event.{Event}
use Rattle.hermes.specs.declared.event.Event.TheVariants.{Read, Ask, Write, Commit, Replay, Deliver, Validate, Resend}
use Rattle.hermes_record.specs.Members.{has}
use Rattle.hermes_record.specs.Order.{Orders, ties}
use Rattle.hermes.specs.Settings.{under}
use Rattle.hermes.specs.Guards.{Question, AllYes, ask, question1, question2, question3, question4, question5, question8, question12}
use Rattle.hermes.specs.Event.{number_of, sent_by}
use Rattle.hermes.specs.Node.{Node, record_of, value_of, apply, viewed, newcomer, start}
use Rattle.hermes.specs.Locality.{body}
use Rattle.hermes.specs.Source.{Vars, Sending, HInit, HReadGuard, HRead, HWriteGuard, HCommitGuard, HWrite, HReplayWriteWidenedGuard, HReplayWrite, HRcvInvGuard, HRcvInv, HRcvAckGuard, HRcvAckThenSendVals, HRcvValGuard, HRcvVal, HSendValsGuard, HSendVals, NodeFailureGuard, NodeFailure, ResendGuard, Resent}

-- the source's variables of record i
abbrev pub vars_of : ℕ → Node → Vars
vars_of i n = record {
  node_ts = (record_of i n).timestamp;
  node_state = (record_of i n).state;
  node_rcvd_acks = (record_of i n).acks;
  node_last_writer = (record_of i n).writer;
  node_last_write_ts = (record_of i n).written;
  value = value_of i n;
}

-- questions 1 to 5, which are document 01's own, with more of them
abbrev pub five_and : Node → ℕ → List Question → List Question
five_and n i more =
    question1 n.me ∷ question2 (length n.table) (length n.store) ∷ question3 n.me ∷ question4 i (length n.table) ∷ question5 n.me (record_of i n) ∷ more

-- what of question 11 is not in the source's guard
abbrev pub eleven_of : Node → ℕ → Message → List Question → List Question
eleven_of n sender (Inv t) more = more
eleven_of n sender (Ack t) more = ask 11 (has n.me.view sender) ∷ more
eleven_of n sender (Val t) more = ask 11 (has n.me.view sender && not (eqb sender n.me.number)) ∷ more

-- of a delivery's: 12; of an ACK also that the sender is in the view, and of a VAL, which has no sender in the source, all of 11
abbrev pub delivered : Node → ℕ → Received → List ℕ → List Question
delivered n i m v = five_and n i (eleven_of n m.sender m.message (question12 m (length v) ∷ []))

-- 01, Deliver: a message with its sender and epoch
abbrev pub message : ℕ → ℕ → Message → Received
message sender epoch m = record { sender = sender; epoch = epoch; message = m }

-- a view: 1 and 3 are document 01's own
pub record ViewFollows (n : Node) (epoch alive : ℕ) : Type 0 where
  pub accepted : (number_of (viewed n epoch alive).answer ≡ 0) ↔ (AllYes (question1 n.me ∷ question3 n.me ∷ []) × NodeFailureGuard n.me epoch alive)
  pub does : number_of (viewed n epoch alive).answer ≡ 0 → NodeFailure n.me (viewed n epoch alive).node.me epoch alive (sent_by (viewed n epoch alive).answer)
  -- the variables of every record are UNCHANGED
  pub unchanged : ((viewed n epoch alive).node.table ≡ n.table) × ((viewed n epoch alive).node.store ≡ n.store)
  pub refused : number_of (viewed n epoch alive).answer ≢ 0 → ((viewed n epoch alive).node ≡ n) × (sent_by (viewed n epoch alive).answer ≡ None)

-- a fresh start: 1, 2 and 3 are document 01's own, and every record is as HInit says
pub record StartFollows (k view : ℕ) (settings : Settings) (table : List Record) (store : List ℕ) : Type 0 where
  pub accepted : ((start k view settings table store).admission ≡ Ok (newcomer k view settings))
      ↔ AllYes (question1 (newcomer k view settings) ∷ question2 (length table) (length store) ∷ question3 (newcomer k view settings) ∷ [])
  pub does : (start k view settings table store).admission ≡ Ok (newcomer k view settings) → (i : ℕ) → i < length table
      → HInit view (vars_of i (record { me = newcomer k view settings; table = (start k view settings table store).table; store = (start k view settings table store).store }))

module _ (wins : Orders) where
  -- demand 2, of one event: accepted exactly when permitted, and then the source's step
  pub record Follows (n : Node) (i : ℕ) (e : Event) (v : List ℕ) (own : List Question) (guard : Vars → Type 0) (action : Vars → Vars → Sending → Type 0) : Type 0 where
    pub accepted : (number_of (apply wins n i e v).answer ≡ 0) ↔ (AllYes own × guard (vars_of i n))
    pub does : number_of (apply wins n i e v).answer ≡ 0
        → action (vars_of i n) (vars_of i (apply wins n i e v).node) (record { message = sent_by (apply wins n i e v).answer; body = body (apply wins n i e v) })
    pub refused : number_of (apply wins n i e v).answer ≢ 0 → ((apply wins n i e v).node ≡ n) × (sent_by (apply wins n i e v).answer ≡ None)

  -- demand 2, of every event; that a refused start changes nothing stands in `Frame`, StartFrame
  pub record Demand2By : Type 0 where
    pub start : (k view : ℕ) (settings : Settings) (table : List Record) (store : List ℕ) → StartFollows k view settings table store
    pub read : (n : Node) (i : ℕ) (v : List ℕ) → Follows n i Read v (five_and n i []) HReadGuard HRead
    pub ask : (n : Node) (i : ℕ) (v : List ℕ) → Follows n i Ask v (five_and n i []) HReadGuard HRead
    pub write : (n : Node) (i : ℕ) (v : List ℕ) → Follows n i Write v (five_and n i (question8 (length v) ∷ [])) HWriteGuard (HWrite n.me i v)
    pub commit : (n : Node) (i : ℕ) (t : Timestamp) (v : List ℕ) → Follows n i (Commit t) v (five_and n i (question8 (length v) ∷ [])) (HCommitGuard t) (HWrite n.me i v)
    pub replay : (n : Node) (i : ℕ) (v : List ℕ) → Follows n i Replay v (five_and n i []) (HReplayWriteWidenedGuard n.me) (HReplayWrite n.me i)
    pub inv : (n : Node) (i sender epoch : ℕ) (t : Timestamp) (v : List ℕ)
        → Follows n i (Deliver (message sender epoch (Inv t))) v (delivered n i (message sender epoch (Inv t)) v) (λ s. HRcvInvGuard n.me sender epoch) (HRcvInv (under wins n.me.settings) n.me i sender t v)
    pub ack : (n : Node) (i sender epoch : ℕ) (t : Timestamp) (v : List ℕ)
        → Follows n i (Deliver (message sender epoch (Ack t))) v (delivered n i (message sender epoch (Ack t)) v) (HRcvAckGuard n.me sender epoch t) (HRcvAckThenSendVals n.me i sender)
    pub val : (n : Node) (i sender epoch : ℕ) (t : Timestamp) (v : List ℕ)
        → Follows n i (Deliver (message sender epoch (Val t))) v (delivered n i (message sender epoch (Val t)) v) (HRcvValGuard n.me epoch t) HRcvVal
    pub validate : (n : Node) (i : ℕ) (v : List ℕ) → Follows n i Validate v (five_and n i []) (HSendValsGuard n.me) (HSendVals n.me i)
    pub resend : (n : Node) (i : ℕ) (v : List ℕ) → Follows n i Resend v (five_and n i []) (ResendGuard n.me) (Resent n.me i)
    pub view : (n : Node) (epoch alive : ℕ) → ViewFollows n epoch alive

-- demand 2, with the papers' orders of ties; `proofs/Conformance` proves it
abbrev pub Demand2 : Type 0
Demand2 = Demand2By ties
