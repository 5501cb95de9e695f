-- A number that is printed reads back, and text that reads as a number is that number printed: by induction on the digits.
use mathlib.Core.Path.{◌≡◌, refl, sym, ap, ◌∙◌, subst}
use mathlib.Core.Bool.{Bool, true, false, cond, ◌&&◌}
use mathlib.Core.List.{List, [], ◌∷◌, ◌++◌, append_assoc, append-nil}
use Prim.Native.Nat.{ℕ, zero, suc, ◌+◌, ◌*◌, ◌-◌, ◌/◌, ◌%◌, ◌^◌, ◌≤◌, ◌<◌}
use native.Mathlib.Nat.{not-suc-le-zero, pow-suc}
use native.Mathlib.Numerals.{add-one}
use native.Mathlib.Omega.{arith}
use borrow.Author.Tests.{lt-ltb, le-ltb, ltb-true, ltb-false, le-leb, lt-leb, leb-true, leb-false, eq-eqb, ne_eqb, eqb-false, eqb-true}
use lib.Dec.{T, ltb, leb, eqb}
use lib.ListN.{length, drop, get_or, drop_of_length-le, length-append}
use lib.Seq.{drop-cons}
use Rattle.play_numbers.specs.Number.{digits, decimal, is_digit, more, word_number, Below}
use Rattle.std.specs.Prelude.{Option, None, Some}

-- ---- digits of a number

pub digits-enough : (f n : ℕ) → 1 ≤ f → n < 10 ^ f → digits (suc f) n ≡ digits f n
unfolding digits
digits-enough zero n g h = absurd (not-suc-le-zero g)
digits-enough (suc f) n g h = go (ltb n 10) refl (λ l. digits-enough f (n / 10) (low f n l h) (high f n h))
  where
    low : (f n : ℕ) → 10 ≤ n → n < 10 ^ suc f → 1 ≤ f
    low zero n l h = let h1 : n < 10 = h in omega arith
    low (suc f) n l h = omega arith

    high : (f n : ℕ) → n < 10 ^ suc f → n / 10 < 10 ^ f
    high f n h = let h1 : n < 10 ^ f * 10 = rw pow-suc at h in omega arith

    go : (b : Bool) → ltb n 10 ≡ b → (10 ≤ n → digits (suc f) (n / 10) ≡ digits f (n / 10))
        → cond b ((48 + n) ∷ []) (digits (suc f) (n / 10) ++ ((48 + n % 10) ∷ [])) ≡ cond b ((48 + n) ∷ []) (digits f (n / 10) ++ ((48 + n % 10) ∷ []))
    go true e r = refl
    go false e r = ap (λ (l : List ℕ). l ++ ((48 + n % 10) ∷ [])) (r (ltb-false n 10 e))

pub decimal-small : (n : ℕ) → n < 10 → decimal n ≡ (48 + n) ∷ []
unfolding decimal digits
decimal-small n h = simp (lt-ltb _ _ h)

digits_step : (f n : ℕ) → 10 ≤ n → digits (suc f) n ≡ digits f (n / 10) ++ ((48 + n % 10) ∷ [])
unfolding digits
digits_step f n l = simp (le-ltb _ _ l)

pub decimal-large : (n : ℕ) → 10 ≤ n → n < 2 ^ 32 → decimal n ≡ decimal (n / 10) ++ ((48 + n % 10) ∷ [])
unfolding decimal
decimal-large n l h = digits_step 9 n l ∙ ap (λ (x : List ℕ). x ++ ((48 + n % 10) ∷ [])) (sym (digits-enough 9 (n / 10) (omega arith) (omega arith)))

pub length-large : (n : ℕ) → 10 ≤ n → n < 2 ^ 32 → length (decimal n) ≡ length (decimal (n / 10)) + 1
length-large n l h = ap length (decimal-large n l h) ∙ length-append (decimal (n / 10)) ((48 + n % 10) ∷ [])

pub length-small : (n : ℕ) → n < 10 → length (decimal n) ≡ 1
length-small n h = ap length (decimal-small n h)

length_digits : (f n : ℕ) → length (digits f n) ≤ f
unfolding digits
length_digits zero n = omega arith
length_digits (suc f) n = go (ltb n 10) (length_digits f (n / 10))
  where
    go : (b : Bool) → length (digits f (n / 10)) ≤ f → length (cond b ((48 + n) ∷ []) (digits f (n / 10) ++ ((48 + n % 10) ∷ []))) ≤ suc f
    go true r = omega arith
    go false r = omega (arith, length-append (digits f (n / 10)) ((48 + n % 10) ∷ []))

-- no number has more than 10 digits
pub length-decimal : (n : ℕ) → length (decimal n) ≤ 10
unfolding decimal
length-decimal n = length_digits 10 n

-- ---- reading digit by digit

pub more_end : (limit v k : ℕ) (s : List ℕ) → length s ≤ k → more limit v (drop k s) ≡ Some v
unfolding more
more_end limit v k s h = ap (more limit v) (drop_of_length-le s h)

pub more_step : (limit v k : ℕ) (s : List ℕ) → k < length s
    → more limit v (drop k s)
    ≡ cond (is_digit (get_or s k 0) && ltb (v * 10 + (get_or s k 0 - 48)) limit) (more limit (v * 10 + (get_or s k 0 - 48)) (drop (k + 1) s)) None
unfolding more
more_step limit v k s h = rw (add-one k) (ap (more limit v) (drop-cons s k 0 h))

pub digit-range : (b : ℕ) → is_digit b ≡ true → (48 ≤ b) × (b ≤ 57)
digit-range b h = go (leb 48 b) refl h
  where
    go : (t : Bool) → leb 48 b ≡ t → t && leb b 57 ≡ true → (48 ≤ b) × (b ≤ 57)
    go true e r = (leb-true 48 b e, leb-true b 57 r)
    go false e r = absurd (subst T (sym r) tt)

module _ (limit : ℕ) (s : List ℕ) where
  pub number-one : 1 ≤ length s → get_or s 0 0 ≡ 48 → length s < 2 → more limit 0 s ≡ word_number limit s
  unfolding word_number
  number-one h z l = simp (le-leb _ _ h, eq-eqb _ _ z, lt-leb _ _ l)

  pub number_more : 1 ≤ length s → (get_or s 0 0 ≡ 48 → ⊥) → more limit 0 s ≡ word_number limit s
  unfolding word_number
  number_more h z = simp (le-leb _ _ h, ne_eqb _ _ z)

-- ---- a number that is read is below its limit

more-below : (limit v : ℕ) (s : List ℕ) → v < limit → Below limit (more limit v s)
unfolding more
more-below limit v [] h = h
more-below limit v (b ∷ s) h = go (is_digit b) (ltb (v * 10 + (b - 48)) limit) refl (λ l. more-below limit (v * 10 + (b - 48)) s l)
  where
    go : (d t : Bool) → ltb (v * 10 + (b - 48)) limit ≡ t → (v * 10 + (b - 48) < limit → Below limit (more limit (v * 10 + (b - 48)) s))
        → Below limit (cond (d && t) (more limit (v * 10 + (b - 48)) s) None)
    go true true q r = r (ltb-true _ _ q)
    go true false q r = omega arith
    go false t q r = omega arith

pub number-below : (limit : ℕ) (s : List ℕ) → 0 < limit → Below limit (word_number limit s)
unfolding word_number
number-below limit s h = go (leb 1 (length s)) (eqb (get_or s 0 0) 48 && leb 2 (length s))
  where
    go : (a b : Bool) → Below limit (cond a (cond b None (more limit 0 s)) None)
    go true true = h
    go true false = more-below limit 0 s h
    go false b = h

-- ---- a number printed reads back

-- digits one at a time: the last digit of a text
and_more : ℕ → Option ℕ → List ℕ → Option ℕ
unfolding more
and_more limit (Some v) s = more limit v s
and_more limit None s = None

more-append : (limit v : ℕ) (a b : List ℕ) → more limit v (a ++ b) ≡ and_more limit (more limit v a) b
unfolding more and_more
more-append limit v [] b = refl
more-append limit v (x ∷ a) b = go (is_digit x && ltb (v * 10 + (x - 48)) limit) (more-append limit (v * 10 + (x - 48)) a b)
  where
    go : (t : Bool) → more limit (v * 10 + (x - 48)) (a ++ b) ≡ and_more limit (more limit (v * 10 + (x - 48)) a) b
        → cond t (more limit (v * 10 + (x - 48)) (a ++ b)) None ≡ and_more limit (cond t (more limit (v * 10 + (x - 48)) a) None) b
    go true e = e
    go false e = refl

more-one : (limit v d : ℕ) → d < 10 → v * 10 + d < limit → more limit v ((48 + d) ∷ []) ≡ Some (v * 10 + d)
unfolding more
more-one limit v d h l =
    let e : 48 + d - 48 ≡ d = omega arith in
    simp (e, le-leb 48 (48 + d) (omega arith), le-leb (48 + d) 57 (omega arith), lt-ltb (v * 10 + d) limit l)

small : (limit n : ℕ) → n < 10 → n < limit → more limit 0 (decimal n) ≡ Some n
small limit n t l =
    let z : 0 * 10 + n ≡ n = omega arith in
    ap (more limit 0) (decimal-small n t) ∙ more-one limit 0 n t (omega arith) ∙ ap Some z

large : (limit n : ℕ) → 10 ≤ n → n < 2 ^ 32 → n < limit → more limit 0 (decimal (n / 10)) ≡ Some (n / 10) → more limit 0 (decimal n) ≡ Some n
unfolding and_more
large limit n t b l r =
    let z : n / 10 * 10 + n % 10 ≡ n = omega arith in
    ap (more limit 0) (decimal-large n t b) ∙ more-append limit 0 (decimal (n / 10)) ((48 + n % 10) ∷ [])
    ∙ ap (λ (x : Option ℕ). and_more limit x ((48 + n % 10) ∷ [])) r
    ∙ more-one limit (n / 10) (n % 10) (omega arith) (omega arith) ∙ ap Some z

tenth : (f n : ℕ) → n < 10 ^ suc f → n / 10 < 10 ^ f
tenth f n h = let h1 : n < 10 ^ f * 10 = rw pow-suc at h in omega arith

-- a step by tens, for any property of numbers below 2 ^ 32
by-tens : (P : ℕ → Type 0) → ((n : ℕ) → n < 10 → P n) → ((n : ℕ) → 10 ≤ n → n < 2 ^ 32 → P (n / 10) → P n) → (f n : ℕ) → n < 10 ^ f → n < 2 ^ 32 → P n
by-tens P z s zero n h b = z n (let h1 : n < 1 = h in omega arith)
by-tens P z s (suc f) n h b = go (ltb n 10) refl (λ t. by-tens P z s f (n / 10) (tenth f n h) (omega arith))
  where
    go : (t : Bool) → ltb n 10 ≡ t → (10 ≤ n → P (n / 10)) → P n
    go true e r = z n (ltb-true n 10 e)
    go false e r = s n (ltb-false n 10 e) b (r (ltb-false n 10 e))

more-decimal : (limit n : ℕ) → n < 2 ^ 32 → n < limit → more limit 0 (decimal n) ≡ Some n
more-decimal limit n b l =
    by-tens (λ (n : ℕ). n < limit → more limit 0 (decimal n) ≡ Some n) (λ n t. small limit n t) (λ n t b r l. large limit n t b l (r (omega arith))) 10 n (omega arith) b l

some : (n : ℕ) → n < 2 ^ 32 → 1 ≤ length (decimal n)
some n b =
    by-tens (λ (n : ℕ). 1 ≤ length (decimal n)) (λ n t. omega (arith, length-small n t)) (λ n t b r. omega (arith, length-large n t b)) 10 n (omega arith) b

head-append : (a b : List ℕ) → 1 ≤ length a → get_or (a ++ b) 0 0 ≡ get_or a 0 0
head-append [] b h = absurd (not-suc-le-zero h)
head-append (x ∷ a) b h = refl

above : (n : ℕ) → (n ≡ 0 → ⊥) → 0 < n
above zero h = absurd (h refl)
above (suc n) h = omega arith

zero-digit : (n : ℕ) → n ≡ 0 → get_or (decimal n) 0 0 ≡ 48
zero-digit n z = ap (λ (x : List ℕ). get_or x 0 0) (decimal-small n (omega arith)) ∙ (let q : 48 + n ≡ 48 = omega arith in q)

length-zero : (n : ℕ) → n ≡ 0 → length (decimal n) < 2
length-zero n z = omega (arith, length-small n (omega arith))

-- the first digit of a number above 0 is no zero
first-digit : (n : ℕ) → n < 2 ^ 32 → 0 < n → get_or (decimal n) 0 0 ≡ 48 → ⊥
first-digit n b l =
    by-tens (λ (n : ℕ). 0 < n → get_or (decimal n) 0 0 ≡ 48 → ⊥)
    (λ n t l e. let q = sym (ap (λ (x : List ℕ). get_or x 0 0) (decimal-small n t)) ∙ e in omega arith)
    (λ n t b r l e. r (omega arith) (sym (head-append (decimal (n / 10)) ((48 + n % 10) ∷ []) (some (n / 10) (omega arith))) ∙ sym (ap (λ (x : List ℕ). get_or x 0 0) (decimal-large n t b)) ∙ e))
    10 n (omega arith) b l

pub printed-reads : (limit n : ℕ) → limit ≤ 2 ^ 32 → n < limit → word_number limit (decimal n) ≡ Some n
printed-reads limit n h l = go (eqb n 0) refl
  where
    go : (t : Bool) → eqb n 0 ≡ t → word_number limit (decimal n) ≡ Some n
    go true e = let z = eqb-true n 0 e in sym (number-one limit (decimal n) (some n (omega arith)) (zero-digit n z) (length-zero n z)) ∙ more-decimal limit n (omega arith) l
    go false e = sym (number_more limit (decimal n) (some n (omega arith)) (first-digit n (omega arith) (above n (eqb-false n 0 e)))) ∙ more-decimal limit n (omega arith) l

-- ---- text that reads as a number is that number printed

-- a digit more
push : (v b : ℕ) → 0 < v → is_digit b ≡ true → v * 10 + (b - 48) < 2 ^ 32 → decimal (v * 10 + (b - 48)) ≡ decimal v ++ (b ∷ [])
push v b p d h =
    let r = digit-range b d in
    let q1 : (v * 10 + (b - 48)) / 10 ≡ v = omega arith in
    let q2 : 48 + (v * 10 + (b - 48)) % 10 ≡ b = omega arith in
    decimal-large (v * 10 + (b - 48)) (omega arith) h ∙ (λ i. decimal (q1 i) ++ (q2 i ∷ []))

read_more : (limit v n : ℕ) (s : List ℕ) → limit ≤ 2 ^ 32 → 0 < v → more limit v s ≡ Some n → decimal v ++ s ≡ decimal n
unfolding more
read_more limit v n [] h p e = append-nil (decimal v) ∙ ap decimal (let q : v ≡ n = cc in q)
read_more limit v n (b ∷ s) h p e = go (is_digit b) refl (ltb (v * 10 + (b - 48)) limit) refl (λ q d. read_more limit (v * 10 + (b - 48)) n s h (omega arith)) e
  where
    go : (d : Bool) → is_digit b ≡ d → (t : Bool) → ltb (v * 10 + (b - 48)) limit ≡ t
        → (v * 10 + (b - 48) < limit → is_digit b ≡ true → more limit (v * 10 + (b - 48)) s ≡ Some n → decimal (v * 10 + (b - 48)) ++ s ≡ decimal n)
        → cond (d && t) (more limit (v * 10 + (b - 48)) s) None ≡ Some n → decimal v ++ (b ∷ s) ≡ decimal n
    go true ed true et r e =
        sym (append_assoc (decimal v) (b ∷ []) s)
        ∙ ap (λ (l : List ℕ). l ++ s) (sym (push v b p ed (less (ltb-true _ _ et))))
        ∙ r (ltb-true _ _ et) ed e
      where
        less : v * 10 + (b - 48) < limit → v * 10 + (b - 48) < 2 ^ 32
        less l = omega arith
    go true ed false et r e = cc
    go false ed t et r e = cc

first : (b : ℕ) → is_digit b ≡ true → decimal (0 * 10 + (b - 48)) ≡ b ∷ []
first b d =
    let r = digit-range b d in
    let q : 48 + (0 * 10 + (b - 48)) ≡ b = omega arith in
    decimal-small (0 * 10 + (b - 48)) (omega arith) ∙ ap (λ (x : ℕ). x ∷ []) q

-- the value of a first digit decides: above 0 the rest goes on, and after a zero there is no rest
from_first : (limit n b : ℕ) (s : List ℕ) → limit ≤ 2 ^ 32 → is_digit b ≡ true → (b ≡ 48 → length (b ∷ s) < 2) → more limit (0 * 10 + (b - 48)) s ≡ Some n → (t : Bool) → ltb 0 (0 * 10 + (b - 48)) ≡ t
    → b ∷ s ≡ decimal n
unfolding more
from_first limit n b s h d z e true et = ap (λ (l : List ℕ). l ++ s) (sym (first b d)) ∙ read_more limit (0 * 10 + (b - 48)) n s h (ltb-true _ _ et) e
from_first limit n b [] h d z e false et = sym (first b d) ∙ ap decimal (let q : 0 * 10 + (b - 48) ≡ n = cc in q)
from_first limit n b (c ∷ s) h d z e false et = let r = digit-range b d in let y : b ≡ 48 = omega (arith, ltb-false 0 (0 * 10 + (b - 48)) et) in absurd (long (z y))
  where
    long : suc (suc (length s)) < 2 → ⊥
    long l = omega arith

pub read-printed : (limit n : ℕ) (s : List ℕ) → limit ≤ 2 ^ 32 → word_number limit s ≡ Some n → s ≡ decimal n
unfolding word_number more
read-printed limit n [] h e = cc
read-printed limit n (b ∷ s) h e = go (leb 1 (length (b ∷ s))) (eqb b 48) refl (leb 2 (length (b ∷ s))) refl (is_digit b) refl (ltb (0 * 10 + (b - 48)) limit) e
  where
    go : (a p : Bool) → eqb b 48 ≡ p → (q : Bool) → leb 2 (length (b ∷ s)) ≡ q → (d : Bool) → is_digit b ≡ d → (t : Bool)
        → cond a (cond (p && q) None (cond (d && t) (more limit (0 * 10 + (b - 48)) s) None)) None ≡ Some n → b ∷ s ≡ decimal n
    go true true ep true eq d ed t e = cc
    go true true ep false eq true ed true e = from_first limit n b s h ed (λ y. leb-false 2 (length (b ∷ s)) eq) e (ltb 0 (0 * 10 + (b - 48))) refl
    go true true ep false eq true ed false e = cc
    go true true ep false eq false ed t e = cc
    go true false ep q eq true ed true e = from_first limit n b s h ed (λ y. absurd (eqb-false b 48 ep y)) e (ltb 0 (0 * 10 + (b - 48))) refl
    go true false ep q eq true ed false e = cc
    go true false ep q eq false ed t e = cc
    go false p ep q eq d ed t e = cc
