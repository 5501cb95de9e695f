-- The tests on sets as code makes them, with `&`, `count_ones` and `trailing_zeros`.
use Prim.Native.Nat.{ℕ, zero, suc, ◌+◌, ◌/◌, ◌%◌, ◌^◌, ◌≤◌, ◌<◌, min}
use mathlib.Core.Path.{◌≡◌, refl, sym, ap, ap₂, ◌∙◌}
use mathlib.Core.Bool.{Bool, true, cond, not, ◌&&◌, ◌||◌, or-false, or-true}
use native.Mathlib.Omega.{arith}
use native.Mathlib.Decide.{ℕ_discrete}
use native.Mathlib.Nat.{mod-lt, mod-eq_of_lt}
use lib.Dec.{ltb, eqb}
use lib.Bits.{bit_and, and_lt}
use lib.Pow.{pow_pos, shr-shr, mod-pow-add}
use lib.Count.{ones, ones_cat, under, count_trailing_zeros}
use borrow.Author.Tests.{eqb-true, eq-eqb, ne_eqb, lt-ltb}
use Rattle.hermes_record.specs.Members.{has, count_below, size, lowest, lowest_from, within, others_in, with}
use Rattle.std.specs.Cmp.{both_ways}
use Rattle.std.specs.Int.{bit_at}
use Rattle.std.proofs.lemmas.Nat.Bits.{bit_at-lt, bit_at_and, same_from_bits_below}
use Rattle.hermes.proofs.Members.{has-small, member-bit, bit-member, all_same, within-members, members-within, has-with}

-- question 15, with one set for the acknowledgements and the own number
pub others_within : (n view s : ℕ) → others_in n view s ≡ within view (with s n)
unfolding others_in within
others_within n view s =
    all_same 16 (λ (m : ℕ). not (has view m) || (eqb m n || has s m)) (λ (m : ℕ). not (has view m) || has (with s n) m)
    (λ m l. ap (λ (b : Bool). not (has view m) || b) (go m l (ℕ_discrete m n) ∙ sym (has-with s n m)))
  where
    go : (m : ℕ) → m < 16 → Dec (m ≡ n) → (eqb m n || has s m) ≡ (has s m || (eqb m n && ltb n 16))
    go m l (yes e) = rw (eq-eqb m n e, lt-ltb n 16 (omega arith)) (sym (or-true (has s m)))
    go m l (no d) = rw (ne_eqb m n d) (sym (or-false (has s m)))

-- `a & b == a`
pub and_within : (a b : ℕ) → a < 2 ^ 16 → b < 2 ^ 16 → eqb (bit_and a b) a ≡ within a b
and_within a b ha hb = both_ways (eqb (bit_and a b) a) (within a b) to from
  where
    to : eqb (bit_and a b) a ≡ true → within a b ≡ true
    to e = members-within a b (λ m k. bit-member b m (has-small a m k)
        (omega (arith, member-bit a m k, bit_at_and a b m, ap (λ (x : ℕ). bit_at x m) (eqb-true (bit_and a b) a e), bit_at-lt b m)))

    from : within a b ≡ true → eqb (bit_and a b) a ≡ true
    from w = eq-eqb (bit_and a b) a (same_from_bits_below 16 (bit_and a b) a (and_lt 16 a b ha hb) ha (λ m l. bit_at_and a b m ∙ at m l (ℕ_discrete (bit_at a m) 1)))
      where
        at : (m : ℕ) → m < 16 → Dec (bit_at a m ≡ 1) → min (bit_at a m) (bit_at b m) ≡ bit_at a m
        at m l (yes e) = omega (arith, member-bit b m (within-members a b w m (bit-member a m l e)))
        at m l (no d) = omega (arith, bit_at-lt a m, d)

-- `count_ones`
count_ones : (k s : ℕ) → k ≤ 16 → count_below k (has s) ≡ ones (s % 2 ^ k)
unfolding ones
count_ones zero s l = ap ones (low (s % 1) (omega arith))
  where
    low : (x : ℕ) → x < 1 → 0 ≡ x
    low x h = omega arith
count_ones (suc k) s l =
    ap₂ ◌+◌ (ap (λ (b : Bool). cond b 1 0) here ∙ one (s / 2 ^ k % 2) (omega arith)) (count_ones k s (omega arith))
    ∙ sym (ones_cat k (s / 2 ^ k % 2) (s % 2 ^ k) (mod-lt s (pow_pos k)))
    ∙ ap ones (sym (mod-pow-add s 1 k)) ∙ ap (λ (x : ℕ). ones (s % 2 ^ x)) e
  where
    e : 1 + k ≡ suc k
    e = omega arith

    here : has s k ≡ eqb (s / 2 ^ k % 2) 1
    here = unfold has in rw (lt-ltb k 16 (omega arith))

    one : (d : ℕ) → d < 2 → cond (eqb d 1) 1 0 ≡ ones d
    one zero h = refl
    one (suc zero) h = refl
    one (suc (suc d)) h = absurd (omega arith)

pub size_ones : (s : ℕ) → s < 2 ^ 16 → size s ≡ ones s
unfolding size
size_ones s h = count_ones 16 s (omega arith) ∙ ap ones (mod-eq_of_lt h)

-- `trailing_zeros`
lowest-from : (f k s : ℕ) → k + f ≤ 16 → lowest_from f k s ≡ k + count_trailing_zeros f (s / 2 ^ k)
unfolding count_trailing_zeros
lowest-from zero k s l = omega arith
lowest-from (suc f) k s l = go (s / 2 ^ k % 2) refl (lowest-from f (suc k) s (omega arith))
  where
    rest : s / 2 ^ suc k ≡ s / 2 ^ k / 2
    rest = ap (λ (x : ℕ). s / 2 ^ x) e ∙ sym (shr-shr s k 1)
      where
        e : suc k ≡ k + 1
        e = omega arith

    here : has s k ≡ eqb (s / 2 ^ k % 2) 1
    here = unfold has in rw (lt-ltb k 16 (omega arith))

    go : (d : ℕ) → s / 2 ^ k % 2 ≡ d → lowest_from f (suc k) s ≡ suc k + count_trailing_zeros f (s / 2 ^ suc k)
        → cond (has s k) k (lowest_from f (suc k) s) ≡ k + under (s / 2 ^ k % 2) (count_trailing_zeros f (s / 2 ^ k / 2))
    go zero e h = rw (here, e, h, rest) (omega arith)
    go (suc d) e h = rw (here, e, eq-eqb (suc d) 1 (omega arith)) (omega arith)

pub lowest_zeros : (s : ℕ) → lowest s ≡ count_trailing_zeros 16 s
unfolding lowest
lowest_zeros s = lowest-from 16 0 s (omega arith) ∙ first (count_trailing_zeros 16 (s / 1)) ∙ ap (count_trailing_zeros 16) whole
  where
    first : (x : ℕ) → 0 + x ≡ x
    first x = omega arith

    whole : s / 1 ≡ s
    whole = omega arith
