-- 02, Wish 3: the bound cannot be bettered. Of a first save that nobody has heard of, no fewer than 3k − 2 events that help make all k show it.
use Rattle.std.specs.Prelude.{ℕ, ◌+◌, ◌*◌, ◌≤◌, ◌<◌, ◌≡◌, Bool, true, List, length}
use Rattle.hermes.specs.declared.event.Settings.{Settings}
use Rattle.hermes_record.specs.Members.{has, size}
use Rattle.hermes_record.specs.Order.{Orders, TieOrders}
use Rattle.hermes.specs.Run.{write, Entry, by, Group, result, advance}
use Rattle.hermes.specs.Agreement.{Started, Shows, IsAccepted, after}
use Rattle.hermes.specs.Settling.{Gathered, next_number, AllHelp, Settled}

module _ (wins : Orders) where
  -- the group with d's save of record i
  abbrev pub saved : Group → (d i : ℕ) → List ℕ → Group
  saved g d i v = advance wins g (by d (write i v))

  -- P holds in every group that has just started, after its first save, of any laptop and any record
  abbrev pub AfterFirstSave : ((settings : Settings) (set i : ℕ) → Group → Type 0) → Type 0
  AfterFirstSave P = (member : ℕ → Bool) (count : ℕ) (issued : ℕ → ℕ) (settings : Settings) (g : Group) → Started member count issued settings g → Gathered member issued 0 g
      → (i d : ℕ) (v : List ℕ) → i < count → has (issued 0) d ≡ true → IsAccepted (result wins g (by d (write i v))) → P settings (issued 0) i (saved g d i v)

  -- events that help, all accepted, after which all show the record, are 3k − 2 or more
  abbrev pub TightBy : Type 0
  TightBy = AfterFirstSave (λ settings set i g. (entries : List Entry) → AllHelp wins set i (next_number g) g entries
      → ((m : ℕ) → has set m ≡ true → Shows (after wins g entries m) i) → 3 * size set ≤ length entries + 2)

  -- and those that settle it are exactly so many
  abbrev pub ExactBy : Type 0
  ExactBy = AfterFirstSave (λ settings set i g. (entries : List Entry) → Settled wins settings set i g entries → length entries + 2 ≡ 3 * size set)

-- over every strict total order of ties, for each rule; `proofs/Tight` proves both
abbrev pub Tight : Type 0
Tight = (wins : Orders) → TieOrders wins → TightBy wins

abbrev pub Exact : Type 0
Exact = (wins : Orders) → TieOrders wins → ExactBy wins
