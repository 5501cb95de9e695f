-- Sets of replica numbers in 16 bits (01, "a view, a set of laptop numbers in 16 bits"): number n is in the set s where bit n of s is set.
use Rattle.std.specs.Prelude.{ℕ, zero, suc, ◌+◌, ◌-◌, ◌/◌, ◌%◌, ◌^◌, Bool, true, cond, not, ◌&&◌, ◌||◌, ltb, eqb}
use Rattle.std.specs.Int.Bits.{bit_and, bit_or}

-- number n is in the set s; no number above 15 is in any
unfoldable pub has : ℕ → ℕ → Bool
has s n = ltb n 16 && eqb (s / 2 ^ n % 2) 1

-- every number below k passes the test
abbrev pub all_below : ℕ → (ℕ → Bool) → Bool
all_below zero p = true
all_below (suc k) p = p k && all_below k p

-- how many numbers below k pass the test
abbrev pub count_below : ℕ → (ℕ → Bool) → ℕ
count_below zero p = 0
count_below (suc k) p = cond (p k) 1 0 + count_below k p

-- how many numbers are in the set
unfoldable pub size : ℕ → ℕ
size s = count_below 16 (has s)

-- the first number of the set among k, k + 1, .., of which f are looked at
abbrev pub lowest_from : ℕ → ℕ → ℕ → ℕ
lowest_from zero k s = k
lowest_from (suc f) k s = cond (has s k) k (lowest_from f (suc k) s)

-- the lowest number in the set, and 16 where it is empty
unfoldable pub lowest : ℕ → ℕ
lowest s = lowest_from 16 0 s

-- every number of a is in b
unfoldable pub within : ℕ → ℕ → Bool
within a b = all_below 16 (λ m. not (has a m) || has b m)

-- every number of the view but n is in the set s
unfoldable pub others_in : ℕ → ℕ → ℕ → Bool
others_in n view s = all_below 16 (λ m. not (has view m) || (eqb m n || has s m))

-- the set with number n; a number above 15 adds nobody
unfoldable pub with : ℕ → ℕ → ℕ
with s n = cond (ltb n 16) (bit_or s (2 ^ n)) s

-- the set without number n
unfoldable pub without : ℕ → ℕ → ℕ
without s n = cond (ltb n 16) (bit_and s (65535 - 2 ^ n)) s
