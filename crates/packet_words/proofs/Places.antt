-- How many messages words hold, and which of them stands where.
use Prim.Native.Nat.{ℕ, zero, suc, ◌+◌, ◌*◌, ◌/◌, ◌%◌, ◌<◌, ◌≤◌}
use mathlib.Core.Path.{◌≡◌, refl, sym, ap, ◌∙◌}
use mathlib.Core.Bool.{Bool, true, false, cond, ◌&&◌}
use mathlib.Core.List.{List}
use mathlib.Core.Logic.{◌⊎◌, inl, inr, ⊎_elim}
use native.Mathlib.Omega.{arith}
use native.Mathlib.Nat.{le_of_suc-le-suc}
use lib.Dec.{leb, eqb}
use lib.ListN.{length, get_or}
use borrow.Author.Tests.{leb-true, eqb-true}
use Rattle.packet_format.specs.Entry.{no_entry}
use Rattle.packet_words.specs.Words.{entry_at, count_in, entries_from, word_messages}

-- words hold no message, or they are seven for each, of at most m
held : (n m count : ℕ) → count ≡ cond (eqb (n % 7) 0 && leb (n / 7) m) (n / 7) 0 → (count ≡ 0) ⊎ ((count ≡ n / 7) × (n ≡ 7 * (n / 7)) × (n / 7 ≤ m))
held n m count = go (eqb (n % 7) 0) refl (leb (n / 7) m) refl
  where
    go : (a : Bool) → eqb (n % 7) 0 ≡ a → (b : Bool) → leb (n / 7) m ≡ b → count ≡ cond (a && b) (n / 7) 0
        → (count ≡ 0) ⊎ ((count ≡ n / 7) × (n ≡ 7 * (n / 7)) × (n / 7 ≤ m))
    go true e true f c = let r = eqb-true (n % 7) 0 e in inr (c, omega arith, leb-true (n / 7) m f)
    go true e false f c = inl c
    go false e b f c = inl c

-- there are at most 64 of them
few : (n : ℕ) → count_in n ≤ 64
few n = let h = held n _ (count_in n) refl in ⊎_elim (λ z. omega arith) (λ s. omega (arith, s.0, s.2)) h

-- their words lie inside
inside : (n : ℕ) → 7 * count_in n ≤ n
inside n = let h = held n _ (count_in n) refl in ⊎_elim (λ z. omega arith) (λ s. omega (arith, s.0, s.1)) h

-- where there is one they are seven for each
pub sevens : (n : ℕ) → 1 ≤ count_in n → (count_in n ≡ n / 7) × (n ≡ 7 * (n / 7))
sevens n l = let h = held n _ (count_in n) refl in ⊎_elim (λ z. absurd (omega arith)) (λ s. (s.0, s.1)) h

pub length-entries : (n at : ℕ) (words : List ℕ) → length (entries_from n at words) ≡ n
length-entries zero at words = refl
length-entries (suc n) at words = ap suc (length-entries n (at + 7) words)

-- what the count tells
pub record Counted (words : List ℕ) (count : ℕ) : Type 0 where
  pub few : count ≤ 64
  pub inside : 7 * count ≤ length words
  pub size : length (word_messages words) ≡ count
  pub whole : entries_from count 0 words ≡ word_messages words

pub counted : (words : List ℕ) (count : ℕ) → count ≡ count_in (length words) → Counted words count
unfolding word_messages
counted words count h =
    let n = length words in
    record {
      few = rw h (few n);
      inside = rw h (inside n);
      size = length-entries (count_in n) 0 words ∙ sym h;
      whole = ap (λ (m : ℕ). entries_from m 0 words) h;
    }

-- message k of n
get_d-entries : (n at : ℕ) (words : List ℕ) (k : ℕ) → k < n → get_or (entries_from n at words) k no_entry ≡ entry_at words (at + 7 * k)
get_d-entries zero at words k l = absurd (omega arith)
get_d-entries (suc n) at words zero l = let e : at ≡ at + 7 * 0 = omega arith in ap (entry_at words) e
get_d-entries (suc n) at words (suc k) l =
    let e : at + 7 + 7 * k ≡ at + 7 * suc k = omega arith in
    get_d-entries n (at + 7) words k (le_of_suc-le-suc l) ∙ ap (entry_at words) e

pub message-at : (n : ℕ) (words : List ℕ) (k : ℕ) → k < n → get_or (entries_from n 0 words) k no_entry ≡ entry_at words (7 * k)
message-at n words k l = let e : 0 + 7 * k ≡ 7 * k = omega arith in get_d-entries n 0 words k l ∙ ap (entry_at words) e
