-- The tests of the questions and the words of the source say the same: states, timestamps, and "at least two laptops".
use Prim.Native.Nat.{ℕ, zero, suc, ◌+◌, ◌≤◌, ◌<◌}
use mathlib.Core.Path.{◌≡◌, refl, sym, ap, ◌∙◌}
use mathlib.Core.Bool.{Bool, true, false, cond, not, ◌&&◌, false≢true, or-true, and-true, and-false}
use mathlib.Core.Logic.{◌⊎◌, inl, inr, ◌≢◌}
use mathlib.Core.List.{List, [], ◌∷◌}
use native.Mathlib.Omega.{arith}
use native.Mathlib.Decide.{ℕ_discrete}
use lib.Dec.{leb, eqb}
use borrow.Author.Tests.{leb-true, eqb-true, le-leb, eq-eqb, ne_eqb}
use Rattle.hermes_record.specs.declared.timestamp.Timestamp.{Timestamp}
use Rattle.hermes_record.specs.declared.record.State.{State}
use Rattle.hermes_record.specs.declared.record.State.TheVariants.{Valid, Invalid, InvalidWrite, Write, Replay}
use Rattle.hermes_record.specs.Members.{has, count_below, size}
use Rattle.hermes_record.specs.Order.{same_timestamp}
use Rattle.hermes_record.specs.Record.{code, one_of}
use Rattle.hermes.specs.Source.{In, EqualTs}
use Rattle.std.proofs.lemmas.Bool.{or_cases}
use Rattle.hermes.proofs.Members.{Has, has-small}
use Rattle.hermes_record.proofs.Order.{timestamp-path, equal-same}

-- ---- states

pub coded : ℕ → State
coded zero = Valid
coded (suc zero) = Invalid
coded (suc (suc zero)) = InvalidWrite
coded (suc (suc (suc zero))) = Write
coded (suc (suc (suc (suc k)))) = Replay

pub coded-code : (s : State) → s ≡ coded (code s)
unfolding coded
coded-code Valid = refl
coded-code Invalid = refl
coded-code InvalidWrite = refl
coded-code Write = refl
coded-code Replay = refl

pub one_in : (s : State) (ts : List State) → one_of s ts ≡ true → In s ts
one_in s [] h = absurd (false≢true h)
one_in s (t ∷ ts) h = go (or_cases (eqb (code s) (code t)) (one_of s ts) h) (one_in s ts)
  where
    go : (eqb (code s) (code t) ≡ true) ⊎ (one_of s ts ≡ true) → (one_of s ts ≡ true → In s ts) → (s ≡ t) ⊎ In s ts
    go (inl e) rest = inl (coded-code s ∙ ap coded (eqb-true (code s) (code t) e) ∙ sym (coded-code t))
    go (inr e) rest = inr (rest e)

pub in_one : (s : State) (ts : List State) → In s ts → one_of s ts ≡ true
in_one s [] h = absurd h
in_one s (t ∷ ts) (inl e) = rw (eq-eqb (code s) (code t) (ap code e))
in_one s (t ∷ ts) (inr h) = rw (in_one s ts h) (or-true (eqb (code s) (code t)))

-- one state
pub is_state : (s t : State) → one_of s (t ∷ []) ≡ true → s ≡ t
is_state s t h = go (one_in s (t ∷ []) h)
  where
    go : (s ≡ t) ⊎ ⊥ → s ≡ t
    go (inl e) = e
    go (inr e) = absurd e

pub state-is : (s t : State) → s ≡ t → one_of s (t ∷ []) ≡ true
state-is s t e = in_one s (t ∷ []) (inl e)

-- ---- timestamps

pub equal-ts : {s t : Timestamp} → s ≡ t → EqualTs s t
equal-ts e = (ap (λ (x : Timestamp). x.version) e, ap (λ (x : Timestamp). x.tie) e)

pub ts-same : (s t : Timestamp) → EqualTs s t → same_timestamp s t ≡ true
ts-same s t (p, q) = equal-same s t (timestamp-path p q)

-- ---- at least two

-- some number below k passes the test, and two do
pub record One (k : ℕ) (p : ℕ → Bool) : Type 0 where
  pub one : ℕ
  pub below : one < k
  pub passes : p one ≡ true

pub record Two (k : ℕ) (p : ℕ → Bool) : Type 0 where
  pub one : ℕ
  pub two : ℕ
  pub apart : one ≢ two
  pub one_below : one < k
  pub two_below : two < k
  pub one_passes : p one ≡ true
  pub two_passes : p two ≡ true

count-one : (k : ℕ) (p : ℕ → Bool) → 1 ≤ count_below k p → One k p
count-one zero p h = absurd (omega arith)
count-one (suc k) p h = go (p k) refl h (count-one k p)
  where
    go : (b : Bool) → p k ≡ b → 1 ≤ cond b 1 0 + count_below k p → (1 ≤ count_below k p → One k p) → One (suc k) p
    go true e h rest = record { one = k; below = omega arith; passes = e }
    go false e h rest = let r : One k p = rest (omega arith) in record { one = r.one; below = omega (arith, r.below); passes = r.passes }

count-two : (k : ℕ) (p : ℕ → Bool) → 2 ≤ count_below k p → Two k p
count-two zero p h = absurd (omega arith)
count-two (suc k) p h = go (p k) refl h (count-two k p)
  where
    go : (b : Bool) → p k ≡ b → 2 ≤ cond b 1 0 + count_below k p → (2 ≤ count_below k p → Two k p) → Two (suc k) p
    go true e h rest =
        let r : One k p = count-one k p (omega arith) in
        record { one = k; two = r.one; apart = omega (arith, r.below); one_below = omega arith; two_below = omega (arith, r.below); one_passes = e; two_passes = r.passes }
    go false e h rest =
        let r : Two k p = rest (omega arith) in
        record { one = r.one; two = r.two; apart = r.apart; one_below = omega (arith, r.one_below); two_below = omega (arith, r.two_below); one_passes = r.one_passes; two_passes = r.two_passes }

one-counts : (k : ℕ) (p : ℕ → Bool) (a : ℕ) → a < k → p a ≡ true → 1 ≤ count_below k p
one-counts zero p a l h = absurd (omega arith)
one-counts (suc k) p a l h = go (ℕ_discrete a k) (λ (t : a < k). one-counts k p a t h)
  where
    go : Dec (a ≡ k) → (a < k → 1 ≤ count_below k p) → 1 ≤ cond (p k) 1 0 + count_below k p
    go (yes e) rest = rw (← e, h) (omega arith)
    go (no d) rest = omega (arith, rest (omega arith))

two-count : (k : ℕ) (p : ℕ → Bool) (a b : ℕ) → a ≢ b → a < k → b < k → p a ≡ true → p b ≡ true → 2 ≤ count_below k p
two-count zero p a b d la lb ha hb = absurd (omega arith)
two-count (suc k) p a b d la lb ha hb = go (ℕ_discrete a k) (ℕ_discrete b k) (λ (s : a < k) (t : b < k). two-count k p a b d s t ha hb)
  where
    go : Dec (a ≡ k) → Dec (b ≡ k) → (a < k → b < k → 2 ≤ count_below k p) → 2 ≤ cond (p k) 1 0 + count_below k p
    go (yes e) (yes f) rest = absurd (d (e ∙ sym f))
    go (yes e) (no f) rest = rw (ap p (sym e) ∙ ha) (omega (arith, one-counts k p b (omega arith) hb))
    go (no e) (yes f) rest = rw (ap p (sym f) ∙ hb) (omega (arith, one-counts k p a (omega arith) ha))
    go (no e) (no f) rest = omega (arith, rest (omega arith) (omega arith))

-- ---- how many pass a test

pub count-le : (k : ℕ) (p q : ℕ → Bool) → ((m : ℕ) → p m ≡ true → q m ≡ true) → count_below k p ≤ count_below k q
count-le zero p q h = omega arith
count-le (suc k) p q h = go (p k) refl (count-le k p q h)
  where
    go : (b : Bool) → p k ≡ b → count_below k p ≤ count_below k q → cond b 1 0 + count_below k p ≤ cond (q k) 1 0 + count_below k q
    go true e l = rw (h k e) (omega arith)
    go false e l = omega arith

-- all but d
count-above : (k d : ℕ) (p : ℕ → Bool) → k ≤ d → count_below k (λ m. p m && not (eqb m d)) ≡ count_below k p
count-above zero d p l = refl
count-above (suc k) d p l = rw (ne_eqb k d (omega arith), and-true (p k), count-above k d p (omega arith))

pub count_same : (k : ℕ) (p q : ℕ → Bool) → ((m : ℕ) → m < k → p m ≡ q m) → count_below k p ≡ count_below k q
count_same zero p q h = refl
count_same (suc k) p q h = rw (h k (omega arith), count_same k p q (λ m l. h m (omega arith)))

pub count_none : (k : ℕ) (p : ℕ → Bool) → ((m : ℕ) → p m ≡ false) → count_below k p ≡ 0
count_none zero p h = refl
count_none (suc k) p h = rw (h k, count_none k p h)

-- tests that differ in one place
pub count-near : (k w : ℕ) (p q : ℕ → Bool) → ((m : ℕ) → m ≢ w → p m ≡ q m) → count_below k p ≤ count_below k q + 1
count-near zero w p q h = omega arith
count-near (suc k) w p q h = go (ℕ_discrete k w) (count-near k w p q h)
  where
    at_most_one : (b : Bool) → cond b 1 0 ≤ 1
    at_most_one true = omega arith
    at_most_one false = omega arith

    go : Dec (k ≡ w) → count_below k p ≤ count_below k q + 1 → cond (p k) 1 0 + count_below k p ≤ cond (q k) 1 0 + count_below k q + 1
    go (yes e) l = rw (count_same k p q (λ m b. h m (λ z. omega (arith, z, e)))) (omega (arith, at_most_one (p k)))
    go (no d) l = rw (h k d) (omega (arith, l))

pub count-without : (k d : ℕ) (p : ℕ → Bool) → d < k → p d ≡ true → count_below k (λ m. p m && not (eqb m d)) + 1 ≡ count_below k p
count-without zero d p l h = absurd (omega arith)
count-without (suc k) d p l h = go (ℕ_discrete d k) (λ (t : d < k). count-without k d p t h)
  where
    go : Dec (d ≡ k) → (d < k → count_below k (λ m. p m && not (eqb m d)) + 1 ≡ count_below k p) → count_below (suc k) (λ m. p m && not (eqb m d)) + 1 ≡ count_below (suc k) p
    go (yes e) rest = rw (eq-eqb k d (sym e), and-false (p k), count-above k d p (omega arith), ap p (sym e) ∙ h) (omega arith)
    go (no n) rest = rw (ne_eqb k d (λ e. n (sym e)), and-true (p k)) (omega (arith, rest (omega arith)))

pub size-two : (s : ℕ) → leb 2 (size s) ≡ true → Two 16 (has s)
unfolding size
size-two s h = count-two 16 (has s) (leb-true 2 (count_below 16 (has s)) h)

pub two_size : (s a b : ℕ) → a ≢ b → Has s a → Has s b → leb 2 (size s) ≡ true
unfolding size
two_size s a b d ha hb = le-leb 2 (count_below 16 (has s)) (two-count 16 (has s) a b d (has-small s a ha) (has-small s b hb) ha hb)
