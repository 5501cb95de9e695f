-- 02, Wish 3, "Say that a record does settle". All k laptops of a view are at its epoch and still run, and one record gets no further write: from every
-- situation that the premises of agreement allow, at most 3k − 2 events on that record, all accepted, leave it valid on all k, with the greatest
-- timestamp that any of them held at the outset. Other laptops, dead ones too, take no part, and no message that was sent before is needed.
use Rattle.std.specs.Prelude.{ℕ, ◌+◌, ◌*◌, ◌≤◌, ◌<◌, ◌≡◌, Bool, true, List, [], ◌∷◌, length}
use Rattle.hermes.specs.declared.event.Settings.{Settings}
use Rattle.hermes_record.specs.Members.{has, size}
use Rattle.hermes_record.specs.Order.{Orders, TieOrders, ties, NotAfter}
use Rattle.hermes.specs.Settings.{under}
use Rattle.hermes.specs.Node.{record_of}
use Rattle.hermes.specs.Run.{Action, read, ask, write, commit, replay, deliver, validate, resend, view, Entry, Group, Logged, Found, missing, found, find, result, advance, run}
use Rattle.hermes.specs.Agreement.{Started, Entries, Shows, Alike, IsAccepted, after}

-- "all k laptops of a view are at its epoch": each number in the view issued for epoch e is a laptop of the group, and is at that epoch. That it
-- holds that view is no premise: it follows
abbrev pub Gathered : (ℕ → Bool) → (ℕ → ℕ) → ℕ → Group → Type 0
Gathered member issued e g = (m : ℕ) → has (issued e) m ≡ true → (member m ≡ true) × ((g.at m).me.epoch ≡ e)

-- the message that is delivered is about record i
abbrev pub About : ℕ → Found → Type 0
About i missing = ⊥
About i (found x) = x.header.index ≡ i

-- "events on that record", and "no further write": a replay, validation or resend of record i, or a delivery of a message about it that is none
-- of the first `old`: those had left at the outset, and "earlier lost messages may lie behind it"
abbrev pub Helps : (i old : ℕ) → List Logged → Action → Type 0
Helps i old log (read j) = ⊥
Helps i old log (ask j) = ⊥
Helps i old log (write j v) = ⊥
Helps i old log (commit j t v) = ⊥
Helps i old log (replay j) = j ≡ i
Helps i old log (deliver k) = (old ≤ k) × About i (find log k)
Helps i old log (validate j) = j ≡ i
Helps i old log (resend j) = j ≡ i
Helps i old log (view epoch set) = ⊥

-- the number of the next message that leaves: none of those at the outset has it or a later one
abbrev pub next_number : Group → ℕ
next_number g = length g.log

module _ (wins : Orders) where
  -- "all accepted": each entry is one of a laptop of the view `set`, helps record i, and is accepted in its turn
  abbrev pub AllHelp : (set i old : ℕ) → Group → List Entry → Type 0
  AllHelp set i old g [] = Unit
  AllHelp set i old g (a ∷ rest) =
      (has set a.who ≡ true) × Helps i old g.log a.what × IsAccepted (result wins g a) × AllHelp set i old (advance wins g a) rest

  -- these entries settle record i of the laptops of the view `set`, which stand as in g, a group with these settings
  pub record Settled (settings : Settings) (set i : ℕ) (g : Group) (entries : List Entry) : Type 0 where
    -- "at most 3k − 2 events"
    pub few : length entries + 2 ≤ 3 * size set
    pub help : AllHelp set i (next_number g) g entries
    -- "the greatest stamp that any of them held at the outset": one of them, the holder, held it, and none held a later one
    pub holder : ℕ
    pub held : has set holder ≡ true
    pub greatest : (m : ℕ) → has set m ≡ true → NotAfter (under wins settings) (record_of i (g.at m)).timestamp (record_of i (g.at holder)).timestamp
    -- "leave it valid on all k" with that timestamp, and with the bytes that the holder had at the outset
    pub shown : (m : ℕ) → has set m ≡ true → Shows (after wins g entries m) i × Alike i (after wins g entries m) (g.at holder)

  -- "From any situation that the premises allow": after every list of entries P holds of every record i and of every view that has somebody in it and
  -- whose laptops are all at its epoch
  abbrev pub FromEvery : ((settings : Settings) (set i : ℕ) → Group → Type 0) → Type 0
  FromEvery P = (member : ℕ → Bool) (count : ℕ) (issued : ℕ → ℕ) (settings : Settings) (g : Group) → Started member count issued settings g
      → (before : List Entry) → Entries member issued before
      → (i e m : ℕ) → i < count → has (issued e) m ≡ true → Gathered member issued e (run wins g before) → P settings (issued e) i (run wins g before)

  -- Wish 3, with ties decided by `wins`: there are at most 3k − 2 events on the record, all accepted, that leave it valid on all k, with the greatest
  -- timestamp that any of them held
  abbrev pub SettlingBy : Type 0
  SettlingBy = FromEvery (λ settings set i g. (entries : List Entry) × Settled settings set i g entries)

-- Wish 3, over every strict total order of ties, for each rule
abbrev pub SettlingAny : Type 0
SettlingAny = (wins : Orders) → TieOrders wins → SettlingBy wins

-- Wish 3, with the papers' orders of ties: of every group, whichever its rule; `proofs/Settling` proves both
abbrev pub Settling : Type 0
Settling = SettlingBy ties
