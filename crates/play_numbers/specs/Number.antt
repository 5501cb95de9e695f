-- Numbers as text: how one is printed, and what a word is as a number (01, "The playing program").
use Rattle.std.specs.Prelude.{ℕ, zero, suc, ◌+◌, ◌*◌, ◌-◌, ◌/◌, ◌%◌, ◌<◌, Bool, cond, ◌&&◌, List, [], ◌∷◌, ◌++◌, length, get_or, ltb, leb, eqb, Option, None, Some}

-- the decimal digits of n, which is below 10 to the f
unfoldable pub digits : ℕ → ℕ → List ℕ
digits zero n = []
digits (suc f) n = cond (ltb n 10) ((48 + n) ∷ []) (digits f (n / 10) ++ ((48 + n % 10) ∷ []))

-- a number of at most 32 bits in decimal
unfoldable pub decimal : ℕ → List ℕ
decimal n = digits 10 n

abbrev pub is_digit : ℕ → Bool
is_digit b = leb 48 b && leb b 57

-- the number that further digits make of v, while it stays below the limit
unfoldable pub more : ℕ → ℕ → List ℕ → Option ℕ
more limit v [] = Some v
more limit v (b ∷ bs) =
    cond (is_digit b && ltb (v * 10 + (b - 48)) limit) (more limit (v * 10 + (b - 48)) bs) None

-- 01, "a number has no leading zero and fits its width": a whole word as a number below the limit
unfoldable pub word_number : ℕ → List ℕ → Option ℕ
word_number limit s =
    cond (leb 1 (length s)) (cond (eqb (get_or s 0 0) 48 && leb 2 (length s)) None (more limit 0 s)) None

-- a number, if it is one, is below the limit
abbrev pub Below : ℕ → Option ℕ → Type 0
Below limit (Some v) = v < limit
Below limit None = 0 < limit
