-- The store after a value is stored: its record's 192 bytes are the value and zeros, and all other bytes are as they were.
use Prim.Native.Nat.{ℕ, ◌+◌, ◌-◌, ◌*◌, ◌≤◌, ◌<◌}
use mathlib.Core.Path.{◌≡◌, refl, sym, ap, ◌∙◌}
use mathlib.Core.Logic.{◌≢◌}
use mathlib.Core.List.{List, ◌++◌, append_assoc}
use native.Mathlib.Omega.{arith}
use native.Mathlib.Decide.{dec_lt}
use lib.ListN.{length, take, drop, replicate, length-append, length-take, length-drop, length-replicate, take-append-drop, replicate-append-replicate}
use lib.Seq.{take_at, drop_at, take-append-le, drop-append-le, drop-drop, take-append_seam, take-take}
use Rattle.hermes.specs.Store.{slot, value_at, padded, place}

pub length-padded : (v : List ℕ) → length v ≤ 192 → length (padded v) ≡ 192
unfolding padded
length-padded v h = simp (length-append, length-replicate) (omega arith)

-- the value is read back
pub take-padded : (v : List ℕ) → take (length v) (padded v) ≡ v
unfolding padded
take-padded v = take-append_seam v _

-- a value of at most 192 bytes lies in its record's 192 bytes
pub value-slot : (i n : ℕ) (s : List ℕ) → n ≤ 192 → value_at i n s ≡ take n (slot i s)
value-slot i n s h = sym (take-take n 192 (drop (192 * i) s) h)

-- a slot that lies whole in the first of two lists
slot-front : (j : ℕ) (p r : List ℕ) → 192 * j + 192 ≤ length p → slot j (p ++ r) ≡ slot j p
slot-front j p r h = rw (drop-append-le (192 * j) p r (omega arith)) (take-append-le 192 (drop (192 * j) p) r (simp length-drop (omega arith)))

-- two stores that are the same in front of record i and behind it have the same other records
pub slot-elsewhere : (i : ℕ) (x y : List ℕ) → 192 * i ≤ length x → 192 * i ≤ length y → take (192 * i) x ≡ take (192 * i) y → drop (192 * i + 192) x ≡ drop (192 * i + 192) y
    → (j : ℕ) → j ≢ i → slot j x ≡ slot j y
slot-elsewhere i x y hx hy p q j d = go (dec_lt j i)
  where
    end : ℕ
    end = 192 * i + 192

    front : (z : List ℕ) → 192 * i ≤ length z → j < i → slot j z ≡ slot j (take (192 * i) z)
    front z h l = ap (slot j) (sym (take-append-drop (192 * i) z)) ∙ slot-front j (take (192 * i) z) (drop (192 * i) z) (simp length-take (omega arith))

    behind : (z : List ℕ) → end ≤ 192 * j → slot j z ≡ take 192 (drop (192 * j - end) (drop end z))
    behind z h = ap (λ (k : ℕ). take 192 (drop k z)) e ∙ ap (take 192) (sym (drop-drop (192 * j - end) end z))
      where
        e : 192 * j ≡ end + (192 * j - end)
        e = omega arith

    go : Dec (j < i) → slot j x ≡ slot j y
    go (yes l) = front x hx l ∙ ap (slot j) p ∙ sym (front y hy l)
    go (no n) = behind x (omega arith) ∙ ap (λ (z : List ℕ). take 192 (drop (192 * j - end) z)) q ∙ sym (behind y (omega arith))

-- record i lies in the store, and the value fits
module _ (i : ℕ) (v s : List ℕ) (inside : 192 * i + 192 ≤ length s) (fits : length v ≤ 192) where
  head-length : length (take (192 * i) s) ≡ 192 * i
  head-length = simp length-take (omega arith)

  pub length-place : length (place i v s) ≡ length s
  unfolding place
  length-place = simp (length-append, length-take, length-drop) (omega (arith, length-padded v fits))

  pub slot_same : slot i (place i v s) ≡ padded v
  unfolding place
  slot_same = ap (take 192) (drop_at (take (192 * i) s) (padded v ++ drop (192 * i + 192) s) (192 * i) head-length) ∙ take_at (padded v) (drop (192 * i + 192) s) 192 (length-padded v fits)

  -- the bytes in front of the record, and those behind it
  pub take-place : take (192 * i) (place i v s) ≡ take (192 * i) s
  unfolding place
  take-place = take_at (take (192 * i) s) _ (192 * i) head-length

  body-length : length (take (192 * i) s ++ padded v) ≡ 192 * i + 192
  body-length = simp length-append (omega (arith, head-length, length-padded v fits))

  pub drop-place : drop (192 * i + 192) (place i v s) ≡ drop (192 * i + 192) s
  unfolding place
  drop-place = rw (← append_assoc (take (192 * i) s) (padded v) (drop (192 * i + 192) s)) (drop_at (take (192 * i) s ++ padded v) _ (192 * i + 192) body-length)

abbrev pub zeros : ℕ → List ℕ
zeros n = replicate n 0

-- the 192 bytes of a record in a store of zeros
pub slot-zero : (i n : ℕ) → 192 * i + 192 ≤ n → slot i (zeros n) ≡ zeros 192
slot-zero i n h = rw (← whole) (rw (drop_at (zeros (192 * i)) (zeros 192 ++ zeros k) (192 * i) (length-replicate (192 * i) 0)) (take_at (zeros 192) (zeros k) 192 refl))
  where
    k : ℕ
    k = n - (192 * i + 192)

    whole : zeros (192 * i) ++ (zeros 192 ++ zeros k) ≡ zeros n
    whole = ap (λ (x : List ℕ). zeros (192 * i) ++ x) (replicate-append-replicate 192 k 0) ∙ replicate-append-replicate (192 * i) (192 + k) 0 ∙ ap zeros sum
      where
        sum : 192 * i + (192 + k) ≡ n
        sum = omega arith
