-- The lent store: 192 bytes for each record (01, "Laptop and record").
use Rattle.std.specs.Prelude.{ℕ, ◌+◌, ◌-◌, ◌*◌, ◌<◌, List, ◌++◌, length, take, drop, get_or, replicate}

-- every element is a byte
abbrev pub Bytes : List ℕ → Type 0
Bytes bytes = (k : ℕ) → get_or bytes k 0 < 256

-- the 192 bytes of record i
abbrev pub slot : ℕ → List ℕ → List ℕ
slot i store = take 192 (drop (192 * i) store)

-- the first n bytes of record i
abbrev pub value_at : ℕ → ℕ → List ℕ → List ℕ
value_at i n store = take n (drop (192 * i) store)

-- a value, and zeros up to 192 bytes (01, "the rest of its 192 is zero after an accepted step that sets it")
unfoldable pub padded : List ℕ → List ℕ
padded v = v ++ replicate (192 - length v) 0

-- the store with a value in the 192 bytes of record i
unfoldable pub place : ℕ → List ℕ → List ℕ → List ℕ
place i v store = take (192 * i) store ++ (padded v ++ drop (192 * i + 192) store)
