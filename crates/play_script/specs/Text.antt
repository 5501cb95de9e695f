-- Lines as text (01, "The playing program").
use Rattle.std.specs.Prelude.{ℕ, cond, List, [], ◌∷◌, eqb}

-- a byte before the first line
abbrev pub lengthen : ℕ → List (List ℕ) → List (List ℕ)
lengthen b [] = (b ∷ []) ∷ []
lengthen b (l ∷ ls) = (b ∷ l) ∷ ls

-- 01, "a line feed ends each line, though the last may lack it"
unfoldable pub lines : List ℕ → List (List ℕ)
lines [] = []
lines (b ∷ rest) = cond (eqb b 10) ([] ∷ lines rest) (lengthen b (lines rest))
