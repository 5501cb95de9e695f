-- Demand 2: the actions of the Hermes specification (source 000) under their names, guard first and effect after, as its page words them.
-- Completed as document 01 rules: HRcvInv after 003 and 004, the end of HSendVals after 003; the view for the alive nodes; values; the
-- epoch and the record's number on messages. What 02's Wishes add stands beside the source's own, and says so. Nothing here uses the steps of `Event`.
-- Its variables and words have this language's spelling: epochID is `epoch_id`. The page's stand in comments beside them.
use Rattle.std.specs.Prelude.{ℕ, ◌+◌, ◌≤◌, ◌<◌, ◌≡◌, Bool, true, false, ◌⊎◌, ◌≢◌, ◌↔◌, List, [], ◌∷◌, None, Some}
use Rattle.hermes_record.specs.declared.timestamp.Timestamp.{Timestamp}
use Rattle.hermes_record.specs.declared.record.State.{State}
use Rattle.hermes_record.specs.declared.record.State.TheVariants.{Valid, Invalid, InvalidWrite, Write, Replay}
use Rattle.hermes.specs.declared.message.Message.{Message}
use Rattle.hermes.specs.declared.message.Message.TheVariants.{Inv, Ack, Val}
use Rattle.hermes.specs.Answer.{Outgoing}
use Rattle.hermes.specs.declared.event.Replica.{Replica}
use Rattle.hermes_record.specs.Members.{has}

-- ---- the source's variables at one node, for one record: nodeTS, nodeState, nodeRcvdAcks, nodeLastWriter, nodeLastWriteTS

pub record Vars : Type 0 where
  pub node_ts : Timestamp
  pub node_state : State
  pub node_rcvd_acks : ℕ
  pub node_last_writer : ℕ
  pub node_last_write_ts : Timestamp
  -- what was written under nodeTS (01)
  pub value : List ℕ

-- what an action sends: a message and the bytes that go with it
pub record Sending : Type 0 where
  pub message : Outgoing
  pub body : List ℕ

abbrev from : Replica → ℕ → Message → Outgoing
from n i m = Some (m, record { sender = n.number; epoch = n.epoch; index = i })

-- UNCHANGED msgs
abbrev pub silent : Sending
silent = record { message = None; body = [] }

-- an INV of what the node holds, with its value; a VAL of what it holds; an ACK of t
abbrev pub send_inv : Replica → ℕ → Vars → Sending
send_inv n i s = record { message = from n i (Inv s.node_ts); body = s.value }

abbrev pub send_val : Replica → ℕ → Vars → Sending
send_val n i s = record { message = from n i (Val s.node_ts); body = [] }

abbrev pub send_ack : Replica → ℕ → Timestamp → Sending
send_ack n i t = record { message = from n i (Ack t); body = [] }

-- ---- the words of the page

-- nodeState[n] ∈ {..}
abbrev pub In : State → List State → Type 0
In s [] = ⊥
In s (t ∷ ts) = (s ≡ t) ⊎ In s ts

-- k ∈ a
abbrev pub Member : ℕ → ℕ → Type 0
Member a k = has a k ≡ true

-- a = {}
abbrev pub Empty : ℕ → Type 0
Empty a = (k : ℕ) → has a k ≡ false

-- b = a ∪ {k}
abbrev pub Added : ℕ → ℕ → ℕ → Type 0
Added a k b = (m : ℕ) → Member b m ↔ (Member a m ⊎ (m ≡ k))

-- isAlive(k), to node n: k is in its view
abbrev pub IsAlive : Replica → ℕ → Type 0
IsAlive n k = Member n.view k

-- receivedAllAcks(n), of the alive nodes (01, question 15)
abbrev pub ReceivedAllAcks : Replica → Vars → Type 0
ReceivedAllAcks n s = (k : ℕ) → IsAlive n k → k ≢ n.number → Member s.node_rcvd_acks k

-- CHOOSE k ∈ a : ∀ m ∈ a : k ≤ m
pub record Lowest (a k : ℕ) : Type 0 where
  pub member : Member a k
  pub least : (m : ℕ) → Member a m → k ≤ m

-- equalTS and greaterTS; `wins` is > of tie-breakers
abbrev pub EqualTs : Timestamp → Timestamp → Type 0
EqualTs s t = (s.version ≡ t.version) × (s.tie ≡ t.tie)

abbrev pub GreaterTs : (ℕ → ℕ → Bool) → Timestamp → Timestamp → Type 0
GreaterTs wins s t = (t.version < s.version) ⊎ ((s.version ≡ t.version) × (wins s.tie t.tie ≡ true))

abbrev pub MAX_VERSION : ℕ
MAX_VERSION = 4294967295

-- ---- HInit, of a node with this first view

pub record HInit (view : ℕ) (s : Vars) : Type 0 where
  pub node_rcvd_acks : Empty s.node_rcvd_acks
  pub node_state : s.node_state ≡ Valid
  pub node_last_writer : Lowest view s.node_last_writer
  pub version : s.node_ts.version ≡ 0
  pub tie_breaker : Lowest view s.node_ts.tie
  pub last_version : s.node_last_write_ts.version ≡ 0
  pub last_tie_breaker : Lowest view s.node_last_write_ts.tie
  pub value : s.value ≡ []

-- ---- the actions of node n on record i; s before, s' after, m what is sent

-- HRead
abbrev pub HReadGuard : Vars → Type 0
HReadGuard s = s.node_state ≡ Valid

pub record HRead (s s' : Vars) (m : Sending) : Type 0 where
  pub unchanged : s' ≡ s
  pub send : m ≡ silent

-- HWrite of the value v
abbrev pub HWriteGuard : Vars → Type 0
HWriteGuard s = In s.node_state (Valid ∷ Invalid ∷ []) × (s.node_ts.version < MAX_VERSION)

pub record HWrite (n : Replica) (i : ℕ) (v : List ℕ) (s s' : Vars) (m : Sending) : Type 0 where
  pub node_rcvd_acks : Empty s'.node_rcvd_acks
  pub node_last_writer : s'.node_last_writer ≡ n.number
  pub node_state : s'.node_state ≡ Write
  pub node_ts : s'.node_ts ≡ record { version = s.node_ts.version + 1; tie = n.number }
  pub node_last_write_ts : s'.node_last_write_ts ≡ record { version = s.node_ts.version + 1; tie = n.number }
  pub value : s'.value ≡ v
  pub send : m ≡ send_inv n i s'

-- 02, Wish 5, "goes on as a write", "only if the record here is still valid with that stamp": a commit on t is HWrite under this guard, which is stronger
abbrev pub HCommitGuard : Timestamp → Vars → Type 0
HCommitGuard t s = (s.node_state ≡ Valid) × EqualTs t s.node_ts × (s.node_ts.version < MAX_VERSION)

-- HReplayWrite
abbrev pub HReplayWriteGuard : Replica → Vars → Type 0
HReplayWriteGuard n s = (s.node_state ≡ Invalid) × (IsAlive n s.node_last_writer → ⊥)

-- 02, Wish 2, "source document 000's replay widened by that state": the source's own guard, or the same in invalid_write
abbrev pub HReplayWriteWidenedGuard : Replica → Vars → Type 0
HReplayWriteWidenedGuard n s = HReplayWriteGuard n s ⊎ ((s.node_state ≡ InvalidWrite) × (IsAlive n s.node_last_writer → ⊥))

pub record HReplayWrite (n : Replica) (i : ℕ) (s s' : Vars) (m : Sending) : Type 0 where
  pub node_last_writer : s'.node_last_writer ≡ n.number
  pub node_state : s'.node_state ≡ Replay
  pub node_rcvd_acks : Empty s'.node_rcvd_acks
  pub node_last_write_ts : s'.node_last_write_ts ≡ s.node_ts
  pub node_ts : s'.node_ts ≡ s.node_ts
  pub value : s'.value ≡ s.value
  pub send : m ≡ send_inv n i s'

-- HRcvInv of timestamp t with the value v; the epoch and the sender alive after 004
abbrev pub HRcvInvGuard : Replica → ℕ → ℕ → Type 0
HRcvInvGuard n sender epoch = (epoch ≡ n.epoch) × (sender ≢ n.number) × IsAlive n sender

pub record InvTaken (sender : ℕ) (t : Timestamp) (v : List ℕ) (s s' : Vars) : Type 0 where
  pub node_ts : s'.node_ts ≡ t
  -- 004
  pub node_last_writer : s'.node_last_writer ≡ sender
  pub follower : In s.node_state (Valid ∷ Invalid ∷ Replay ∷ []) → s'.node_state ≡ Invalid
  pub coordinator : In s.node_state (Write ∷ InvalidWrite ∷ []) → s'.node_state ≡ InvalidWrite
  pub value : s'.value ≡ v
  pub node_last_write_ts : s'.node_last_write_ts ≡ s.node_last_write_ts
  pub node_rcvd_acks : s'.node_rcvd_acks ≡ s.node_rcvd_acks

pub record HRcvInv (wins : ℕ → ℕ → Bool) (n : Replica) (i sender : ℕ) (t : Timestamp) (v : List ℕ) (s s' : Vars) (m : Sending) : Type 0 where
  -- "always acknowledge a received invalidation (irrelevant to the timestamp)"
  pub send : m ≡ send_ack n i t
  pub greater : GreaterTs wins t s.node_ts → InvTaken sender t v s s'
  pub otherwise : (GreaterTs wins t s.node_ts → ⊥) → s' ≡ s

-- HRcvAck; the epoch after 004
abbrev pub HRcvAckGuard : Replica → ℕ → ℕ → Timestamp → Vars → Type 0
HRcvAckGuard n sender epoch t s =
    (epoch ≡ n.epoch) × (sender ≢ n.number) × (has s.node_rcvd_acks sender ≡ false) × EqualTs t s.node_last_write_ts × In s.node_state (Write ∷ InvalidWrite ∷ Replay ∷ [])

pub record HRcvAck (sender : ℕ) (s s' : Vars) (m : Sending) : Type 0 where
  pub node_rcvd_acks : Added s.node_rcvd_acks sender s'.node_rcvd_acks
  pub node_last_writer : s'.node_last_writer ≡ s.node_last_writer
  pub node_last_write_ts : s'.node_last_write_ts ≡ s.node_last_write_ts
  pub node_ts : s'.node_ts ≡ s.node_ts
  pub node_state : s'.node_state ≡ s.node_state
  pub value : s'.value ≡ s.value
  pub send : m ≡ silent

-- HRcvVal and HSendVals: only the state changes
pub record BecomesValid (s s' : Vars) : Type 0 where
  pub node_state : s'.node_state ≡ Valid
  pub node_ts : s'.node_ts ≡ s.node_ts
  pub node_last_writer : s'.node_last_writer ≡ s.node_last_writer
  pub node_last_write_ts : s'.node_last_write_ts ≡ s.node_last_write_ts
  pub node_rcvd_acks : s'.node_rcvd_acks ≡ s.node_rcvd_acks
  pub value : s'.value ≡ s.value

-- HRcvVal; the epoch after 004
abbrev pub HRcvValGuard : Replica → ℕ → Timestamp → Vars → Type 0
HRcvValGuard n epoch t s = (epoch ≡ n.epoch) × (s.node_state ≢ Valid) × EqualTs t s.node_ts

pub record HRcvVal (s s' : Vars) (m : Sending) : Type 0 where
  pub valid : BecomesValid s s'
  pub send : m ≡ silent

-- HSendVals
abbrev pub HSendValsGuard : Replica → Vars → Type 0
HSendValsGuard n s = In s.node_state (Write ∷ Replay ∷ []) × ReceivedAllAcks n s

pub record HSendVals (n : Replica) (i : ℕ) (s s' : Vars) (m : Sending) : Type 0 where
  pub valid : BecomesValid s s'
  pub send : m ≡ send_val n i s'

-- 02, Wish 1: HRcvAck and then, where its guard holds, HSendVals, "done one after the other"; `between` has the variables between them
pub record HRcvAckThenSendVals (n : Replica) (i sender : ℕ) (s s' : Vars) (m : Sending) : Type 0 where
  pub between : Vars
  pub acknowledged : HRcvAck sender s between silent
  pub complete : HSendValsGuard n between → HSendVals n i between s' m
  pub incomplete : (HSendValsGuard n between → ⊥) → (s' ≡ between) × (m ≡ silent)

-- nodeFailure, of all nodes that are not in the set `alive`: at least two stay, and the epoch rises (004)
pub record NodeFailureGuard (n : Replica) (epoch alive : ℕ) : Type 0 where
  pub later : n.epoch < epoch
  pub fewer : (k : ℕ) → Member alive k → IsAlive n k
  pub one : ℕ
  pub two : ℕ
  pub apart : one ≢ two
  pub one_stays : Member alive one
  pub two_stays : Member alive two

-- n before, n' after, m what is sent; the nodes' other variables are UNCHANGED
pub record NodeFailure (n n' : Replica) (epoch alive : ℕ) (m : Outgoing) : Type 0 where
  pub alive_nodes : n'.view ≡ alive
  pub epoch_id : n'.epoch ≡ epoch
  pub node : n'.number ≡ n.number
  pub send : m ≡ None

-- ---- no action of the source: 01, Resend

abbrev pub ResendGuard : Replica → Vars → Type 0
ResendGuard n s = In s.node_state (Write ∷ Replay ∷ []) ⊎ ((s.node_state ≡ Valid) × (s.node_last_writer ≡ n.number))

-- what HWrite and HReplayWrite sent, or what HSendVals sent, once more and at the current epoch
pub record Resent (n : Replica) (i : ℕ) (s s' : Vars) (m : Sending) : Type 0 where
  pub unchanged : s' ≡ s
  pub writing : In s.node_state (Write ∷ Replay ∷ []) → m ≡ send_inv n i s
  pub settled : s.node_state ≡ Valid → m ≡ send_val n i s
