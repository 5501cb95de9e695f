-- The place of a byte in a text.
use Rattle.std.specs.Prelude.{ℕ, suc, Bool, true, false, List, [], ◌∷◌, take, drop, eqb}

-- an index, by whether the first byte is the one, and by its index in what follows
abbrev pub index_after : Bool → ℕ → ℕ
index_after true k = 0
index_after false k = suc k

-- the index of the first b; the length where there is none
unfoldable pub index_of : ℕ → List ℕ → ℕ
index_of b [] = 0
index_of b (x ∷ xs) = index_after (eqb x b) (index_of b xs)

-- the bytes from index a on and below index b
unfoldable pub slice : ℕ → ℕ → List ℕ → List ℕ
slice a b s = drop a (take b s)
