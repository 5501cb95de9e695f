-- Demand 3, agreement: its premises and its claim, over every list of entries of a whole group (01, "Premises of agreement").
use Rattle.std.specs.Prelude.{ℕ, ◌<◌, ◌≡◌, Bool, true, List, [], ◌∷◌, ◌++◌, length, Ok}
use Rattle.hermes_record.specs.declared.timestamp.Timestamp.{Timestamp}
use Rattle.hermes_record.specs.declared.record.Record.{Record}
use Rattle.hermes_record.specs.declared.record.State.TheVariants.{Valid}
use Rattle.hermes.specs.declared.message.Message.TheVariants.{Ack}
use Rattle.hermes.specs.declared.event.Settings.{Settings}
use Rattle.hermes_record.specs.Members.{has}
use Rattle.hermes_record.specs.Order.{Orders, TieOrders, ties, NotAfter}
use Rattle.hermes.specs.Settings.{under}
use Rattle.hermes.specs.Store.{slot}
use Rattle.hermes.specs.Event.{completes, number_of}
use Rattle.hermes.specs.Node.{Node, record_of, start}
use Rattle.hermes.specs.Run.{Action, read, ask, write, commit, replay, deliver, validate, resend, view, Entry, Group, Logged, find, found, Result, nothing, event, result, run}

-- ---- the premises, of a group: which numbers it has (`member`), how many records each replica has (`count`), the view that is issued
-- for each epoch (`issued`), and what is fixed at its start (`settings`)

-- replica k started fresh on memory lent to it, with the first view and the group's settings; that was accepted, and left n
pub record FreshStart (count : ℕ) (issued : ℕ → ℕ) (settings : Settings) (k : ℕ) (n : Node) : Type 0 where
  pub table : List Record
  pub store : List ℕ
  pub records : length table ≡ count
  pub accepted : (start k (issued 0) settings table store).admission ≡ Ok n.me
  pub table_after : n.table ≡ (start k (issued 0) settings table store).table
  pub store_after : n.store ≡ (start k (issued 0) settings table store).store

-- every replica of the group has just started fresh, and nothing was sent
pub record Started (member : ℕ → Bool) (count : ℕ) (issued : ℕ → ℕ) (settings : Settings) (g : Group) : Type 0 where
  pub fresh : (k : ℕ) → member k ≡ true → FreshStart count issued settings k (g.at k)
  pub silent : g.log ≡ []

-- 01, "A view entry carries an epoch and the view issued for it". That views are nested is no premise: question 19 asks it of each
abbrev pub AsIssued : (ℕ → ℕ) → Action → Type 0
AsIssued issued (read i) = Unit
AsIssued issued (ask i) = Unit
AsIssued issued (write i v) = Unit
AsIssued issued (commit i t v) = Unit
AsIssued issued (replay i) = Unit
AsIssued issued (deliver k) = Unit
AsIssued issued (validate i) = Unit
AsIssued issued (resend i) = Unit
AsIssued issued (view epoch set) = set ≡ issued epoch

-- every entry is one of a replica of the group. That a delivered message left an earlier entry, unaltered, holds of every list: it is a log number
abbrev pub Entries : (ℕ → Bool) → (ℕ → ℕ) → List Entry → Type 0
Entries member issued [] = Unit
Entries member issued (a ∷ rest) = (member a.who ≡ true) × AsIssued issued a.what × Entries member issued rest

-- ---- the claim

-- 01, "A laptop shows a record valid when the questions and steps above leave its state there valid"
abbrev pub Shows : Node → ℕ → Type 0
Shows n i = (record_of i n).state ≡ Valid

-- number k is in the view that n holds
abbrev pub Sees : Node → ℕ → Type 0
Sees n k = has n.me.view k ≡ true

-- one timestamp and the same bytes (01: "the same length and the same 192 store bytes") for record i
pub record Alike (i : ℕ) (n m : Node) : Type 0 where
  pub timestamps : (record_of i n).timestamp ≡ (record_of i m).timestamp
  pub lengths : (record_of i n).len ≡ (record_of i m).len
  pub bytes : slot i n.store ≡ slot i m.store

-- an accepted event; an unknown log number is no event
abbrev pub IsAccepted : Result → Type 0
IsAccepted nothing = ⊥
IsAccepted (event o) = number_of o.answer ≡ 0

module _ (wins : Orders) where
  -- 01, "A validation is an accepted Validate step": entry a, on record i; its replica is the finisher. 02, Wish 1, "that too is a
  -- validation": an accepted delivery of an ACK that completes the view
  pub data Validation (g : Group) (a : Entry) (i : ℕ) : Type 0 where
    validates : a.what ≡ validate i → IsAccepted (result wins g a) → Validation g a i
    acknowledges : (k : ℕ) (x : Logged) (t : Timestamp) → a.what ≡ deliver k → find g.log k ≡ found x → x.header.index ≡ i → x.message ≡ Ack t
        → completes (g.at a.who).me (record_of i (g.at a.who)) x.header.sender ≡ true → IsAccepted (result wins g a) → Validation g a i

  -- replica k after a list of entries
  abbrev pub after : Group → List Entry → ℕ → Node
  after g entries k = (run wins g entries).at k

  -- demand 3, both halves in one claim
  pub record Agreement (member : ℕ → Bool) (count : ℕ) (settings : Settings) (g : Group) (entries : List Entry) : Type 0 where
    -- two replicas in each other's view, both showing the record valid, hold one timestamp and the same bytes
    pub alike : (i k m : ℕ) → i < count → member k ≡ true → member m ≡ true
        → Sees (after g entries k) m → Sees (after g entries m) k → Shows (after g entries k) i → Shows (after g entries m) i
        → Alike i (after g entries k) (after g entries m)
    -- after a validation, each replica then in the finisher's view that shows the record valid shows the validated timestamp or a later one
    pub lasting : (i m : ℕ) (before rest : List Entry) (a : Entry) → i < count → member m ≡ true
        → entries ≡ before ++ a ∷ rest → Validation (run wins g before) a i
        → Sees (after g before a.who) m → Shows (after g entries m) i
        → NotAfter (under wins settings) (record_of i (after g before a.who)).timestamp (record_of i (after g entries m)).timestamp

  -- demand 3, with ties decided by `wins`, for every group, whatever its settings
  abbrev pub Demand3By : Type 0
  Demand3By = (member : ℕ → Bool) (count : ℕ) (issued : ℕ → ℕ) (settings : Settings) (g : Group) → Started member count issued settings g
      → (entries : List Entry) → Entries member issued entries → Agreement member count settings g entries

-- demand 3, over every strict total order of ties, whichever a rule stands for
abbrev pub Demand3Any : Type 0
Demand3Any = (wins : Orders) → TieOrders wins → Demand3By wins

-- demand 3, with the papers' orders of ties: of every group, whichever its rule; `proofs/Agreement` proves both
abbrev pub Demand3 : Type 0
Demand3 = Demand3By ties
