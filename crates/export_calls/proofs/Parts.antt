-- Parts of the store that begin at 192 times a record's number.
use Prim.Native.Nat.{ℕ, ◌+◌, ◌*◌, ◌≤◌}
use mathlib.Core.Path.{refl, sym}
use native.Mathlib.Omega.{arith}
use mathlib.Core.List.{List, []}
use lib.ListN.{length, take, drop, length-drop}
use lib.Seq.{length-take-le}
use Rattle.export_calls.specs.Part.{PartAt}

-- so many bytes that lie in the store
pub whole_part : (store : List ℕ) (i n : ℕ) → 192 * i + n ≤ length store → PartAt store i (take n (drop (192 * i) store)) n
whole_part store i n l = record { len = sym (length-take-le n (drop (192 * i) store) (rw (length-drop (192 * i) store) (omega arith))); part = refl }

pub no_part : (store : List ℕ) (i : ℕ) → PartAt store i [] 0
no_part store i = record { len = refl; part = refl }
