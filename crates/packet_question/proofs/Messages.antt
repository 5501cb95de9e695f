-- The loop over the messages that asks and sums.
use mathlib.Core.Path.{◌≡◌, refl, sym, ap, ◌∙◌}
use mathlib.Core.Bool.{true, false, false≢true}
use mathlib.Core.List.{List, [], ◌∷◌}
use Prim.Native.Nat.{ℕ, zero, suc, ◌+◌, ◌*◌, ◌≤◌, ◌<◌}
use native.Mathlib.Nat.{not-suc-le-zero, le_of_suc-le-suc}
use native.Mathlib.Numerals.{add-one}
use native.Mathlib.Omega.{arith}
use lib.ListN.{length, take, get_or}
use lib.Seq.{take_all}
use Rattle.packet_format.specs.declared.entry.Entry.{Entry}
use Rattle.packet_format.specs.declared.entry.Fields.{Fields}
use Rattle.packet_format.specs.Entry.{fields_for, good, no_entry}
use Rattle.packet_format.specs.Writing.{summed, all_good}
use Rattle.std.proofs.lemmas.Bool.{and_parts, false_from_ne_true}
use Rattle.packet_format.proofs.Entries.{good-parts}
use Rattle.packet_words.specs.Words.{fields_at, entries_from}
use Rattle.packet_words.proofs.Places.{length-entries}
use Rattle.packet_words.proofs.Fit.{good-message, fields-message}
use Rattle.packet_words.proofs.ReadBack.{good-one, summed-more}
use Rattle.std.specs.Prelude.{Some, None}
use Rattle.packet_question.specs.Asking.{asked}

good_more : (ms : List Entry) (k : ℕ) → k < length ms → all_good (take k ms) ≡ true → good (fields_for (get_or ms k no_entry) 0) ≡ true → all_good (take (suc k) ms) ≡ true
unfolding all_good
good_more [] k h a g = absurd (not-suc-le-zero h)
good_more (m ∷ ms) zero h a g = rw g
good_more (m ∷ ms) (suc k) h a g =
    let s = and_parts (good (fields_for m 0)) (all_good (take k ms)) a in
    rw s.0 (good_more ms k (le_of_suc-le-suc h) s.1 g)

-- a bad message among them
bad-one : (ms : List Entry) (k : ℕ) → k < length ms → good (fields_for (get_or ms k no_entry) 0) ≡ false → all_good ms ≡ false
bad-one ms k h g = false_from_ne_true (all_good ms) (λ a. false≢true (sym g ∙ good-one ms k h a))

-- message k of those that words hold
pub within : (n : ℕ) (words : List ℕ) (k : ℕ) → k < n → k < length (entries_from n 0 words)
within n words k more = rw (length-entries n 0 words) more

-- after k messages: all are good, and the sum is that of their bodies
pub record Measured (ms : List Entry) (sum k : ℕ) : Type 0 where
  pub below : k ≤ length ms
  pub good : all_good (take k ms) ≡ true
  pub exact : sum ≡ summed (take k ms)
  pub small : sum ≤ 192 * k

pub measured-none : (ms : List Entry) → Measured ms 0 0
unfolding all_good summed
measured-none ms = record { below = omega arith; good = refl; exact = refl; small = omega arith }

-- a turn with message k, and the loop's two ends
module _ (n : ℕ) (words : List ℕ) (sum k : ℕ) where
  pub measured-more : k < n → (len : ℕ) → (good (fields_at words (7 * k) 0) ≡ true) × (len ≡ get_or words (7 * k + 6) 0) → Measured (entries_from n 0 words) sum k → Measured (entries_from n 0 words) (sum + len) (k + 1)
  measured-more more len (g, is) m =
      let ms = entries_from n 0 words in
      let l = within n words k more in
      let same : len ≡ (get_or ms k no_entry).len = is ∙ sym (ap (λ (f : Fields). f.len) (fields-message n words k more 0 g)) in
      record {
        below = omega arith;
        good = ap (λ (j : ℕ). all_good (take j ms)) (add-one k) ∙ good_more ms k l m.good (good-message n words k more ∙ g);
        exact = (λ i. m.exact i + same i) ∙ sym (summed-more ms k l) ∙ ap (λ (j : ℕ). summed (take j ms)) (sym (add-one k));
        small = omega (arith, m.small, is, good-parts (fields_at words (7 * k) 0) g);
      }

  pub measured-bad : k < n → good (fields_at words (7 * k) 0) ≡ false → None ≡ asked (entries_from n 0 words)
  unfolding asked
  measured-bad more g = simp (bad-one (entries_from n 0 words) k (within n words k more) (good-message n words k more ∙ g))

  pub measured-all : n ≤ k → Measured (entries_from n 0 words) sum k → Some sum ≡ asked (entries_from n 0 words)
  unfolding asked
  measured-all end m =
      let e = take_all k (entries_from n 0 words) (rw (length-entries n 0 words) end) in
      simp (ap all_good (sym e) ∙ m.good, m.exact ∙ ap summed e)
