-- Big-endian numbers (01, "big-endian").
use Rattle.std.specs.Prelude.{ℕ, zero, suc, ◌+◌, ◌*◌, ◌/◌, ◌%◌, ◌^◌, List, [], ◌∷◌, length, get_or}

-- n as k bytes, the most significant first; of a number too great for them the first is above 255, and nothing is cut
abbrev pub be : ℕ → ℕ → List ℕ
be zero n = []
be (suc k) n = n / 256 ^ k ∷ be k (n % 256 ^ k)

-- the number that bytes spell, the most significant first
abbrev pub num : List ℕ → ℕ
num [] = 0
num (b ∷ bs) = b * 256 ^ length bs + num bs

-- the k elements from index j on
abbrev pub window : List ℕ → ℕ → ℕ → List ℕ
window q j zero = []
window q j (suc k) = get_or q j 0 ∷ window q (suc j) k
