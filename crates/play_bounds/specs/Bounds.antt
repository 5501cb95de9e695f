-- The bounds of play (01, "The playing program"). `in_group` and `BoundsAt` serve the functions of this crate alone.
use Rattle.std.specs.Prelude.{ℕ, ◌+◌, ◌-◌, ◌*◌, ◌≤◌, ◌<◌, ◌≡◌, Bool, ◌&&◌, List, ◌∷◌, length, take, drop, ltb, leb}
use Rattle.play_script.specs.Text.{lines}
use Rattle.play_bounds.specs.declared.bounds.Bounds.{Bounds}

-- an input of at most 65,536 bytes, and an output of 25 bytes for each of the input's, and 2 more
abbrev pub playable : List ℕ → ℕ → Bool
playable input room = leb (length input) 65536 && leb (25 * length input + 2) room

-- laptop k is one of n, which are numbered from 0
abbrev pub in_group : ℕ → ℕ → Bool
in_group n k = ltb k n

-- the line that begins at `from`, and the lines from `next` on, are those from `from` on
pub record LineAt (input : List ℕ) (from : ℕ) (b : Bounds) : Type 0 where
  pub begins : from ≤ b.end
  pub inside : b.end ≤ length input
  pub onward : b.end < b.next
  pub parts : lines (drop from input) ≡ take (b.end - from) (drop from input) ∷ lines (drop b.next input)

-- past the end of the input there is none
abbrev pub BoundsAt : List ℕ → ℕ → Bounds → Type 0
BoundsAt input from b = (from < length input → LineAt input from b) × (length input ≤ from → b ≡ record { end = from; next = from })
