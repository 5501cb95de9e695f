-- 01: "Two laptops equal in number, epoch, view, count, store length and one record with its 192 store bytes answer an event on that
-- record alike, however their other records differ." 02, Wish 6: those "that document 01 counts as equal now also share this rule and each group
-- setting added later".
use Rattle.std.specs.Prelude.{ℕ, ◌≡◌, List, length}
use Rattle.hermes_record.specs.declared.record.Record.{Record}
use Rattle.hermes.specs.declared.event.Settings.{Settings}
use Rattle.hermes.specs.declared.event.Event.{Event}
use Rattle.hermes_record.specs.Order.{Orders, ties}
use Rattle.hermes.specs.Store.{slot}
use Rattle.hermes.specs.Event.{sent_by}
use Rattle.hermes.specs.Frame.{EventFrame, ViewFrame, StartFrame}
use Rattle.hermes.specs.Node.{Node, Outcome, record_of, leaving, apply, read, asked}

pub record EqualAt (i : ℕ) (n m : Node) : Type 0 where
  -- number, epoch, view and settings
  pub identity : n.me ≡ m.me
  pub count : length n.table ≡ length m.table
  pub room : length n.store ≡ length m.store
  pub here : record_of i n ≡ record_of i m
  pub bytes : slot i n.store ≡ slot i m.store

-- the bytes that leave with an outcome's message
abbrev pub body : Outcome → List ℕ
body o = leaving (sent_by o.answer) o.node.table o.node.store

-- two outcomes are alike: number and message, the bytes that leave, the record and its bytes after, and so all of the above once more
pub record AnswersAlike (i : ℕ) (o p : Outcome) : Type 0 where
  pub answer : o.answer ≡ p.answer
  pub leaves : body o ≡ body p
  pub after : EqualAt i o.node p.node

-- 01, "answer an event on that record alike", for every event and value
abbrev pub Locality : Orders → Type 0
Locality wins = (i : ℕ) (n m : Node) → EqualAt i n m → (e : Event) (v : List ℕ) → AnswersAlike i (apply wins n i e v) (apply wins m i e v)

-- the same of the part that a read hands out
abbrev pub ReadLocality : Type 0
ReadLocality = (i : ℕ) (n m : Node) → EqualAt i n m → read n i ≡ read m i

-- and of what an ask hands out (02, Wish 5)
abbrev pub AskLocality : Type 0
AskLocality = (i : ℕ) (n m : Node) → EqualAt i n m → asked n i ≡ asked m i

-- demand 1: what an event changes, and what it looks at
pub record Demand1By (wins : Orders) : Type 0 where
  pub event : (n : Node) (i : ℕ) (e : Event) (v : List ℕ) → EventFrame wins n i e v
  pub view : (n : Node) (epoch set : ℕ) → ViewFrame n epoch set
  pub start : (k set : ℕ) (settings : Settings) (table : List Record) (store : List ℕ) → StartFrame k set settings table store
  pub locality : Locality wins
  pub read_locality : ReadLocality
  pub ask_locality : AskLocality

-- demand 1, with the papers' orders of ties; `proofs/Locality` proves it
abbrev pub Demand1 : Type 0
Demand1 = Demand1By ties
