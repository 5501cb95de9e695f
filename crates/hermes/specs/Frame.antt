-- Demand 1, what an event changes: "an accepted event changes only the named record with its text, or the laptop's view; a refused one
-- .. changes nothing lent".
use Rattle.std.specs.Prelude.{ℕ, ◌+◌, ◌*◌, ◌≡◌, ◌≢◌, List, length, take, drop, replicate, Err, Ok}
use Rattle.hermes_record.specs.declared.record.Record.{Record}
use Rattle.hermes.specs.declared.event.Replica.{Replica}
use Rattle.hermes.specs.declared.event.Settings.{Settings}
use Rattle.hermes.specs.declared.event.Event.{Event}
use Rattle.hermes.specs.Answer.{no}
use Rattle.hermes_record.specs.Order.{Orders}
use Rattle.hermes.specs.Store.{slot, padded}
use Rattle.hermes.specs.Event.{Stored, kept, placed, Step, step, number_of}
use Rattle.hermes.specs.Node.{Node, record_of, apply, viewed, newcomer, first_record, start}

-- the 192 bytes of a record after a step that found these
abbrev pub bytes_after : Stored → List ℕ → List ℕ
bytes_after kept b = b
bytes_after (placed v) b = padded v

-- n became m by a step on record i: that record and its 192 bytes are what the step makes of them, and all else is as it was
pub record Changed (i : ℕ) (s : Step) (n m : Node) : Type 0 where
  pub here : record_of i m ≡ s.after
  pub bytes : slot i m.store ≡ bytes_after s.stored (slot i n.store)
  pub identity : m.me ≡ n.me
  pub count : length m.table ≡ length n.table
  pub room : length m.store ≡ length n.store
  pub others : (j : ℕ) → j ≢ i → record_of j m ≡ record_of j n
  pub before : take (192 * i) m.store ≡ take (192 * i) n.store
  pub behind : drop (192 * i + 192) m.store ≡ drop (192 * i + 192) n.store

-- an event on record i, for every replica, sound or not, and every input
pub record EventFrame (wins : Orders) (n : Node) (i : ℕ) (e : Event) (v : List ℕ) : Type 0 where
  pub accepted : number_of (apply wins n i e v).answer ≡ 0 → Changed i (step wins n.me i (record_of i n) e v) n (apply wins n i e v).node
  pub refused : number_of (apply wins n i e v).answer ≢ 0 → (apply wins n i e v).node ≡ n

-- a view event: epoch and view are replaced, number and settings stay, and records and store are untouched
pub record ViewFrame (n : Node) (epoch set : ℕ) : Type 0 where
  pub accepted : number_of (viewed n epoch set).answer ≡ 0
      → (viewed n epoch set).node ≡ record { me = record { number = n.me.number; epoch = epoch; view = set; settings = n.me.settings }; table = n.table; store = n.store }
  pub refused : number_of (viewed n epoch set).answer ≢ 0 → (viewed n epoch set).node ≡ n

-- a fresh start: every record fresh and the store zero, or all as found
pub record StartFrame (k view : ℕ) (settings : Settings) (table : List Record) (store : List ℕ) : Type 0 where
  pub accepted : (me : Replica) → (start k view settings table store).admission ≡ Ok me
      → (me ≡ newcomer k view settings) × ((start k view settings table store).table ≡ replicate (length table) (first_record view)) × ((start k view settings table store).store ≡ replicate (length store) 0)
  pub refused : (number : ℕ) → (start k view settings table store).admission ≡ Err (no number)
      → ((start k view settings table store).table ≡ table) × ((start k view settings table store).store ≡ store)
