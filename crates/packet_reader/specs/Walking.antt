-- How far a walk of the contents table has come. No public contract names these; they serve the reader.
use Rattle.std.specs.Prelude.{ℕ, ◌+◌, ◌-◌, ◌*◌, ◌≤◌, ◌<◌, ◌≡◌, true, false, List, length, drop, Result, Ok, Err}
use Rattle.hermes.specs.declared.event.Refused.{Refused}
use Rattle.hermes_record.specs.declared.timestamp.Rule.{Rule}
use Rattle.packet_format.specs.Reading.{count_of, entry_place, question22, walk}
use Rattle.packet_reader.specs.declared.walk.Reached.{Reached}
use Rattle.packet_reader.specs.Opening.{Passed, Turned}

-- a packet that questions 20 and 21 let pass, as far as a walk needs it
pub record Table (p : List ℕ) : Type 0 where
  pub few : count_of p ≤ 64
  pub whole : entry_place (count_of p) ≤ length p

-- the first k entries are as question 22 asks, the body of the next is to begin at `at`, and question 22 comes to what is left to ask
pub record Walked (p : List ℕ) (k at : ℕ) : Type 0 where
  pub below : k ≤ count_of p
  pub small : at + 255 * (count_of p - k) ≤ 17348
  pub rest : (question22 p).yes ≡ walk (count_of p - k) (drop (entry_place k) p) at (length p)

-- a walk up to entry `to`: it came there, or an entry before it is not as question 22 asks
pub record Went (p : List ℕ) (to : ℕ) (w : Reached) : Type 0 where
  pub below : w.next ≤ to
  pub all : w.next ≡ to → Walked p to w.at
  pub bad : w.next < to → (question22 p).yes ≡ false

-- the same as an answer: where the next body is to begin, or the no
abbrev pub Came : List ℕ → ℕ → Result ℕ Refused → Type 0
Came p to (Ok at) = Walked p to at
Came p to (Err r) = (rule : Rule) → Passed rule p → Turned rule p r

-- question 22, from a walk of all entries
abbrev pub Whole : List ℕ → Result Unit Refused → Type 0
Whole p (Ok u) = (question22 p).yes ≡ true
Whole p (Err r) = (rule : Rule) → Passed rule p → Turned rule p r
