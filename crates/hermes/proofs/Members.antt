-- Sets of replica numbers, as facts about their members. The idea: a set below 2 ^ 16 is its sixteen bits, and each operation is known bit by bit.
use Prim.Native.Nat.{ℕ, zero, suc, ◌-◌, ◌^◌, ◌≤◌, ◌<◌}
use mathlib.Core.Path.{◌≡◌, refl, sym, ap, ap₂, ◌∙◌}
use mathlib.Core.Bool.{Bool, true, false, not, ◌&&◌, ◌||◌, or-false, or-true, and-false, and-true}
use mathlib.Core.Logic.{◌⊎◌, inl, inr, ◌≢◌, ◌↔◌}
use native.Mathlib.Omega.{arith}
use native.Mathlib.Decide.{ℕ_discrete, dec_lt}
use lib.Dec.{ltb, eqb}
use lib.Bits.{bit_and, bit_or}
use lib.Pow.{pow-lt}
use borrow.Author.Tests.{ltb-true, eqb-true, eq-eqb, ne_eqb, lt-ltb, le-ltb}
use Rattle.hermes_record.specs.Members.{has, all_below, within, others_in, with, without}
use Rattle.hermes_record.proofs.Tests.{implied, implies}
use Rattle.std.specs.Bool.{Decides}
use Rattle.std.specs.Int.{bit_at, w16}
use Rattle.std.proofs.lemmas.Bool.{and_parts, or_cases, or_right, false_from_ne_true}
use Rattle.std.proofs.lemmas.Bool.Decides.{Decides-below_and}
use Rattle.std.proofs.lemmas.Nat.Bits.{bit_at-lt, bit_at-zero, bit_at_and, bit_at_or, bit_at_not, bit_at-pow_same, bit_at-pow_other}

-- m is in the set s
abbrev pub Has : ℕ → ℕ → Type 0
Has s m = has s m ≡ true

-- ---- members

pub has-small : (s m : ℕ) → Has s m → m < 16
unfolding has
has-small s m h = ltb-true m 16 (and_parts _ _ h).0

has-bit : (s m : ℕ) → m < 16 → has s m ≡ eqb (bit_at s m) 1
unfolding has
has-bit s m l = rw (lt-ltb m 16 l)

has-large : (s m : ℕ) → 16 ≤ m → has s m ≡ false
unfolding has
has-large s m l = rw (le-ltb m 16 l)

pub member-bit : (s m : ℕ) → Has s m → bit_at s m ≡ 1
member-bit s m h = eqb-true (bit_at s m) 1 (sym (has-bit s m (has-small s m h)) ∙ h)

pub bit-member : (s m : ℕ) → m < 16 → bit_at s m ≡ 1 → Has s m
bit-member s m l e = has-bit s m l ∙ eq-eqb (bit_at s m) 1 e

pub has-zero : (m : ℕ) → has 0 m ≡ false
has-zero m = false_from_ne_true (has 0 m) (λ h. omega (arith, member-bit 0 m h, bit_at-zero m))

-- ---- every number below k

every_below : (k : ℕ) (p : ℕ → Bool) → Decides (all_below k p) ((m : ℕ) → m < k → p m ≡ true)
every_below k p = Decides-below_and p (λ m. p m ≡ true) (λ n. all_below n p) (λ m. (λ e. e, λ e. e)) refl (λ n. refl) k

pub all-at : (k : ℕ) (p : ℕ → Bool) → all_below k p ≡ true → (m : ℕ) → m < k → p m ≡ true
all-at k p = (every_below k p).0

pub all_of : (k : ℕ) (p : ℕ → Bool) → ((m : ℕ) → m < k → p m ≡ true) → all_below k p ≡ true
all_of k p = (every_below k p).1

pub all_same : (k : ℕ) (p q : ℕ → Bool) → ((m : ℕ) → m < k → p m ≡ q m) → all_below k p ≡ all_below k q
all_same zero p q h = refl
all_same (suc k) p q h = ap₂ ◌&&◌ (h k (omega arith)) (all_same k p q (λ m l. h m (omega arith)))

pub within-members : (a b : ℕ) → within a b ≡ true → (m : ℕ) → Has a m → Has b m
unfolding within
within-members a b h m k = implied (has a m) (has b m) (all-at 16 (λ (x : ℕ). not (has a x) || has b x) h m (has-small a m k)) k

pub members-within : (a b : ℕ) → ((m : ℕ) → Has a m → Has b m) → within a b ≡ true
unfolding within
members-within a b h = all_of 16 (λ (x : ℕ). not (has a x) || has b x) (λ m l. implies (has a m) (has b m) (h m))

pub others-members : (n view s : ℕ) → others_in n view s ≡ true → (m : ℕ) → Has view m → (m ≡ n) ⊎ Has s m
unfolding others_in
others-members n view s h m k =
    go (or_cases (eqb m n) (has s m) (implied (has view m) (eqb m n || has s m) (all-at 16 (λ (x : ℕ). not (has view x) || (eqb x n || has s x)) h m (has-small view m k)) k))
  where
    go : (eqb m n ≡ true) ⊎ Has s m → (m ≡ n) ⊎ Has s m
    go (inl e) = inl (eqb-true m n e)
    go (inr e) = inr e

pub members-others : (n view s : ℕ) → ((m : ℕ) → Has view m → (m ≡ n) ⊎ Has s m) → others_in n view s ≡ true
unfolding others_in
members-others n view s h = all_of 16 (λ (x : ℕ). not (has view x) || (eqb x n || has s x)) (λ m l. implies (has view m) (eqb m n || has s m) (λ k. go m (h m k)))
  where
    go : (m : ℕ) → (m ≡ n) ⊎ Has s m → (eqb m n || has s m) ≡ true
    go m (inl e) = rw (eq-eqb m n e)
    go m (inr e) = or_right (eqb m n) (has s m) e

-- the same of every other member
pub every-other : (n view s : ℕ) → ((m : ℕ) → Has view m → m ≢ n → Has s m) → others_in n view s ≡ true
every-other n view s h = members-others n view s (λ m k. go m k (ℕ_discrete m n))
  where
    go : (m : ℕ) → Has view m → Dec (m ≡ n) → (m ≡ n) ⊎ Has s m
    go m k (yes e) = inl e
    go m k (no d) = inr (h m k d)

pub others-every : (n view s : ℕ) → others_in n view s ≡ true → (m : ℕ) → Has view m → m ≢ n → Has s m
others-every n view s e m k d = go (others-members n view s e m k)
  where
    go : (m ≡ n) ⊎ Has s m → Has s m
    go (inl e) = absurd (d e)
    go (inr h) = h

-- ---- one more member, one less

-- a number above 15 adds nobody
pub has-with : (s n m : ℕ) → has (with s n) m ≡ (has s m || (eqb m n && ltb n 16))
has-with s n m = go (dec_lt n 16) (dec_lt m 16) (ℕ_discrete m n)
  where
    add : n < 16 → with s n ≡ bit_or s (2 ^ n)
    add l = unfold with in rw (lt-ltb n 16 l)

    none : 16 ≤ n → with s n ≡ s
    none l = unfold with in rw (le-ltb n 16 l)

    go : Dec (n < 16) → Dec (m < 16) → Dec (m ≡ n) → has (with s n) m ≡ (has s m || (eqb m n && ltb n 16))
    go (no a) d e = rw (none (omega arith), le-ltb n 16 (omega arith), and-false (eqb m n)) (sym (or-false (has s m)))
    go (yes a) (no b) e = rw (has-large (with s n) m (omega arith), has-large s m (omega arith), ne_eqb m n (omega arith))
    go (yes a) (yes b) (yes e) = rw (eq-eqb m n e, lt-ltb n 16 a) (bit-member (with s n) m b one ∙ sym (or-true (has s m)))
      where
        one : bit_at (with s n) m ≡ 1
        one = rw (add a, e) (omega (arith, bit_at_or s (2 ^ n) n, bit_at-pow_same n, bit_at-lt s n))
    go (yes a) (yes b) (no d) = rw (ne_eqb m n d) (has-bit (with s n) m b ∙ ap (λ (x : ℕ). eqb x 1) same ∙ sym (has-bit s m b) ∙ sym (or-false (has s m)))
      where
        same : bit_at (with s n) m ≡ bit_at s m
        same = rw (add a) (omega (arith, bit_at_or s (2 ^ n) m, bit_at-pow_other n m d))

pub with-members : (s n m : ℕ) → Has (with s n) m → Has s m ⊎ (m ≡ n)
with-members s n m h = go (or_cases (has s m) (eqb m n && ltb n 16) (sym (has-with s n m) ∙ h))
  where
    go : Has s m ⊎ ((eqb m n && ltb n 16) ≡ true) → Has s m ⊎ (m ≡ n)
    go (inl k) = inl k
    go (inr e) = inr (eqb-true m n (and_parts (eqb m n) (ltb n 16) e).0)

pub members-with : (s n m : ℕ) → n < 16 → Has s m ⊎ (m ≡ n) → Has (with s n) m
members-with s n m l (inl k) = rw (has-with s n m, k)
members-with s n m l (inr e) = rw (has-with s n m, eq-eqb m n e, lt-ltb n 16 l) (or-true (has s m))

-- question 11 asks that the sender is in the view, so an acknowledgement adds that sender and nobody else
pub adds-sender : (view s n : ℕ) → Has view n → (m : ℕ) → Has (with s n) m ↔ (Has s m ⊎ (m ≡ n))
adds-sender view s n h m = (with-members s n m, members-with s n m (has-small view n h))

pub has-without : (s n m : ℕ) → has (without s n) m ≡ (has s m && not (eqb m n))
has-without s n m = go (dec_lt n 16) (dec_lt m 16) (ℕ_discrete m n)
  where
    mask : ℕ
    mask = 65535 - 2 ^ n

    cut : n < 16 → without s n ≡ bit_and s mask
    cut l = unfold without in rw (lt-ltb n 16 l)

    none : 16 ≤ n → without s n ≡ s
    none l = unfold without in rw (le-ltb n 16 l)

    mask-bit : n < 16 → m < 16 → bit_at mask m ≡ 1 - bit_at (2 ^ n) m
    mask-bit a b = bit_at_not w16 (2 ^ n) m (pow-lt a) b

    go : Dec (n < 16) → Dec (m < 16) → Dec (m ≡ n) → has (without s n) m ≡ (has s m && not (eqb m n))
    go d (no b) e = rw (has-large (without s n) m (omega arith), has-large s m (omega arith))
    go (no a) (yes b) e = rw (none (omega arith), ne_eqb m n (omega arith)) (sym (and-true (has s m)))
    go (yes a) (yes b) (yes e) = rw (eq-eqb m n e) (has-bit (without s n) m b ∙ ne_eqb (bit_at (without s n) m) 1 (λ h. omega (arith, zeroed)) ∙ sym (and-false (has s m)))
      where
        zeroed : bit_at (without s n) m ≡ 0
        zeroed = rw (cut a) (omega (arith, bit_at_and s mask m, mask-bit a b, bit_at-pow_same n, ap (bit_at (2 ^ n)) e))
    go (yes a) (yes b) (no d) = rw (ne_eqb m n d) (has-bit (without s n) m b ∙ ap (λ (x : ℕ). eqb x 1) same ∙ sym (has-bit s m b) ∙ sym (and-true (has s m)))
      where
        same : bit_at (without s n) m ≡ bit_at s m
        same = rw (cut a) (omega (arith, bit_at_and s mask m, mask-bit a b, bit_at-pow_other n m d, bit_at-lt s m))
