-- A value put in its place where there is room for it.
use Rattle.std.specs.Prelude.{ℕ, ◌*◌, Bool, cond, ◌&&◌, List, ltb, leb, eqb, length, Err, Ok}
use Rattle.hermes.specs.Answer.{Answer}
use Rattle.hermes.specs.Store.{place}

-- is there room for a value of n bytes in record i of count, in a store of so many bytes? (questions 2, 4, and 8 or 12)
abbrev pub room : ℕ → ℕ → ℕ → ℕ → Bool
room count bytes i n = leb count 4096 && eqb bytes (192 * count) && ltb i count && leb n 192

-- the store with the value in the 192 bytes of record i; without room for it, the store as it was
abbrev pub placed : ℕ → ℕ → List ℕ → List ℕ → List ℕ
placed count i v store = cond (room count (length store) i (length v)) (place i v store) store

-- 01, Write "value stored", Deliver INV "stamp and value are taken": the store after an event that stores its value, by its answer
abbrev pub stored_for : Answer → ℕ → ℕ → List ℕ → List ℕ → List ℕ
stored_for (Ok o) count i v store = placed count i v store
stored_for (Err k) count i v store = store
