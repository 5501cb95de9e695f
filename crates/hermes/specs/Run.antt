-- Runs of a whole group (01, "Premises of agreement"): lists of entries, each an event of one replica, and the messages that left.
use Rattle.std.specs.Prelude.{ℕ, zero, suc, cond, List, [], ◌∷◌, ◌++◌, eqb, None, Some}
use Rattle.hermes_record.specs.declared.timestamp.Timestamp.{Timestamp}
use Rattle.hermes.specs.declared.message.Message.{Message}
use Rattle.hermes.specs.declared.message.Header.{Header}
use Rattle.hermes.specs.Answer.{Outgoing}
use Rattle.hermes.specs.declared.message.Received.{Received}
use Rattle.hermes.specs.declared.event.Event.TheVariants.{Read, Ask, Write, Commit, Replay, Deliver, Validate, Resend}
use Rattle.hermes_record.specs.Order.{Orders}
use Rattle.hermes.specs.Event.{sent_by}
use Rattle.hermes.specs.Node.{Node, Outcome, leaving, apply, viewed}

-- a message as it left, with the bytes that it took along
pub record Logged : Type 0 where
  pub header : Header
  pub message : Message
  pub body : List ℕ

-- 01, "An entry is a read, write, replay, delivery, validate, resend or view event .. of any laptop";
-- "events added later join these": ask and commit (02, Wish 5)
pub data Action : Type 0 where
  read : ℕ → Action
  ask : ℕ → Action
  write : ℕ → List ℕ → Action
  -- on the stamp that it brings back, with its value
  commit : ℕ → Timestamp → List ℕ → Action
  replay : ℕ → Action
  -- the message with that log number
  deliver : ℕ → Action
  validate : ℕ → Action
  resend : ℕ → Action
  -- an epoch and its view
  view : ℕ → ℕ → Action

-- an entry: the replica's number, and what it does
pub record Entry : Type 0 where
  pub who : ℕ
  pub what : Action

-- laptop k does that
abbrev pub by : ℕ → Action → Entry
by k a = record { who = k; what = a }

-- the replica of each number, and the messages that left, oldest first
pub record Group : Type 0 where
  pub at : ℕ → Node
  pub log : List Logged

-- ---- one entry

-- what an entry comes to: an event, or none where no message has the log number
pub data Result : Type 0 where
  nothing : Result
  event : Outcome → Result

-- 01, "A delivered message left an earlier entry": that message, or none of the log number
pub data Found : Type 0 where
  missing : Found
  found : Logged → Found

-- 01, "A delivered message left an earlier entry": the message with log number k
abbrev pub find : List Logged → ℕ → Found
find [] k = missing
find (x ∷ xs) zero = found x
find (x ∷ xs) (suc k) = find xs k

-- 01, a delivered message "keeps the bytes it left with": its sender, epoch, kind and timestamp as they left
abbrev pub received : Logged → Received
received x = record { sender = x.header.sender; epoch = x.header.epoch; message = x.message }

module _ (wins : Orders) where
  -- 01, "a delivery names its message's record and brings its message's bytes"
  abbrev pub delivery : Found → Node → Result
  delivery missing n = nothing
  delivery (found x) n = event (apply wins n x.header.index (Deliver (received x)) x.body)

  -- 01, an entry: its event on the replica as the last entry left it
  abbrev pub perform : Action → List Logged → Node → Result
  perform (read i) log n = event (apply wins n i Read [])
  perform (ask i) log n = event (apply wins n i Ask [])
  perform (write i v) log n = event (apply wins n i Write v)
  perform (commit i t v) log n = event (apply wins n i (Commit t) v)
  perform (replay i) log n = event (apply wins n i Replay [])
  perform (deliver k) log n = delivery (find log k) n
  perform (validate i) log n = event (apply wins n i Validate [])
  perform (resend i) log n = event (apply wins n i Resend [])
  perform (view epoch set) log n = event (viewed n epoch set)

-- the replica after a result
abbrev pub node_after : Result → Node → Node
node_after nothing n = n
node_after (event o) n = o.node

-- the log with what left, and the bytes that an INV took along: the record's value after the event
abbrev pub logged : List Logged → Node → Outgoing → List Logged
logged log n None = log
logged log n (Some (m, h)) = log ++ (record { header = h; message = m; body = leaving (Some (m, h)) n.table n.store } ∷ [])

-- 01, what left an entry can be delivered: the log after a result
abbrev pub log_after : Result → List Logged → List Logged
log_after nothing log = log
log_after (event o) log = logged log o.node (sent_by o.answer)

-- ---- lists of entries

module _ (wins : Orders) where
  -- 01, "Each entry gets its laptop's number, epoch, view, table and store as the laptop's last entry, or its start, left them"
  unfoldable pub result : Group → Entry → Result
  result g a = perform wins a.what g.log (g.at a.who)

  -- 01, one entry of the list: its replica moves, nobody else's does, and what left joins the log
  unfoldable pub advance : Group → Entry → Group
  advance g a = record {
    at = λ n. cond (eqb n a.who) (node_after (result g a) (g.at n)) (g.at n);
    log = log_after (result g a) g.log;
  }

  -- 01, a list of entries, in order
  abbrev pub run : Group → List Entry → Group
  run g [] = g
  run g (a ∷ rest) = run (advance g a) rest
