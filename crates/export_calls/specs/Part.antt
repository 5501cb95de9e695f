-- A part of the store, for a caller that has the record's number and the part's length.
use Rattle.std.specs.Prelude.{ℕ, ◌*◌, ◌≡◌, List, length, take, drop}

-- n bytes of the store, from 192 times the record's number on, are these
pub record PartAt (store : List ℕ) (i : ℕ) (bytes : List ℕ) (n : ℕ) : Type 0 where
  pub len : n ≡ length bytes
  pub part : take n (drop (192 * i) store) ≡ bytes
