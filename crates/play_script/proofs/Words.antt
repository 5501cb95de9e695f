-- Laws of line one.
use mathlib.Core.Path.{◌≡◌, refl}
use mathlib.Core.Bool.{Bool, true, false, cond, ◌&&◌}
use mathlib.Core.List.{List, []}
use Prim.Native.Nat.{ℕ, ◌<◌}
use native.Mathlib.Omega.{arith}
use lib.Dec.{leb}
use Rattle.std.specs.Prelude.{codes, Option, None, Some}
use Rattle.play_script.specs.Seek.{index_of}
use Rattle.play_numbers.proofs.Numbers.{number-below}
use Rattle.play_numbers.specs.Number.{word_number, Below}
use Rattle.play_words.specs.Words.{same}
use Rattle.play_script.specs.Command.{spaced, word_of, rest_of, size_in, size_of}

-- ---- line one gives no more than four laptops

in-few : (x : Option ℕ) (n : ℕ) → Below 5 x → size_in x ≡ Some n → n < 5
in-few (Some v) n h e = go (leb 2 v) e
  where
    go : (t : Bool) → cond t (Some v) None ≡ Some n → n < 5
    go true e = let q : v ≡ n = cc in omega arith
    go false e = cc
in-few None n h e = cc

pub size_few : (s : List ℕ) (n : ℕ) → size_of s ≡ Some n → n < 5
unfolding size_of
size_few s n e = go (spaced s && same (word_of s) (codes "group")) e
  where
    go : (t : Bool) → cond t (size_in (word_number 5 (rest_of s))) None ≡ Some n → n < 5
    go true e = in-few (word_number 5 (rest_of s)) n (number-below 5 (rest_of s) (omega arith)) e
    go false e = cc

-- the empty line is no line one
pub size-empty : size_of [] ≡ None
unfolding size_of index_of
size-empty = refl
