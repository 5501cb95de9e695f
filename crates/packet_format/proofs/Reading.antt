-- The walk of the contents table turn by turn, and the answer of a fetch from its five questions.
use mathlib.Core.Path.{◌≡◌, refl, sym, ap, ◌∙◌}
use mathlib.Core.Bool.{Bool, true, false, ◌&&◌, ◌||◌}
use mathlib.Core.List.{List}
use Prim.Native.Nat.{ℕ, zero, suc, ◌+◌, ◌-◌, ◌≤◌, ◌<◌}
use native.Mathlib.Nat.{not-suc-le-zero, le_of_eq}
use native.Mathlib.Numerals.{sub-one}
use native.Mathlib.Omega.{arith}
use borrow.Author.Tests.{eq-eqb, ne_eqb, le-leb, lt-leb, lt-ltb, le-ltb, leb-true, eqb-true}
use lib.Dec.{eqb, leb}
use lib.ListN.{length, take, drop, length-drop}
use lib.Seq.{take_all, drop-drop}
use Rattle.hermes_record.specs.declared.timestamp.Rule.{Rule}
use Rattle.hermes_record.specs.Order.{rule_number}
use Rattle.packet_format.specs.declared.entry.Fields.{Fields}
use Rattle.hermes.specs.Answer.{no}
use Rattle.std.specs.Prelude.{Err, Ok}
use Rattle.packet_format.specs.Bytes.{num, window}
use Rattle.packet_format.specs.Entry.{fields_of, entry_of, good}
use Rattle.packet_format.specs.Reading.{rule_in, count_of, entry_place, question20, question22, walk, fetch_refusal, fetched}
use Rattle.std.proofs.lemmas.Bool.{and_parts}

-- a part to the end is what is left after the start
pub part_to_end : (p : List ℕ) (a : ℕ) → take (length p - a) (drop a p) ≡ drop a p
part_to_end p a = take_all (length p - a) (drop a p) (le_of_eq (length-drop a p))

walk_step : (left : ℕ) (q : List ℕ) (at total : ℕ) → 0 < left
    → walk left q at total ≡ (good (fields_of q) && eqb (fields_of q).offset at && walk (left - 1) (drop 16 q) (at + (fields_of q).len) total)
unfolding walk
walk_step zero q at total h = absurd (not-suc-le-zero h)
walk_step (suc n) q at total h = rw (sub-one (suc n))

-- a turn over entry k, whose fields f were read from the part that begins there: b is what was answered of them
pub turn : (p : List ℕ) (count k at total : ℕ) (f : Fields) (b : Bool) → k < count → f ≡ fields_of (take (length p - entry_place k) (drop (entry_place k) p))
    → b ≡ (good f && eqb f.offset at)
    → walk (count - k) (drop (entry_place k) p) at total ≡ (b && walk (count - (k + 1)) (drop (entry_place (k + 1)) p) (at + f.len) total)
turn p count k at total f b h ef eb =
    let more : 0 < count - k = omega arith in
    let less : count - k - 1 ≡ count - (k + 1) = omega arith in
    let place : entry_place k + 16 ≡ entry_place (k + 1) = omega arith in
    walk_step (count - k) (drop (entry_place k) p) at total more
    ∙ ap (λ (x : Fields). good x && eqb x.offset at && walk (count - k - 1) (drop 16 (drop (entry_place k) p)) (at + x.len) total) (sym (ef ∙ ap fields_of (part_to_end p (entry_place k))))
    ∙ (λ i. sym eb i && walk (less i) (drop-drop 16 (entry_place k) p i) (at + f.len) total)
    ∙ ap (λ (n : ℕ). b && walk (count - (k + 1)) (drop n p) (at + f.len) total) place

-- the walk's end
pub walk-done : (left : ℕ) (q : List ℕ) (at total : ℕ) → left ≤ 0 → walk left q at total ≡ eqb at total
unfolding walk
walk-done zero q at total h = refl
walk-done (suc n) q at total h = absurd (not-suc-le-zero h)

-- ---- question 20

-- the parts of question 20
pub record Header (p : List ℕ) : Type 0 where
  pub long : 4 ≤ length p
  pub first : (eqb (rule_in p) 1 || eqb (rule_in p) 2) ≡ true
  pub some : 1 ≤ count_of p
  pub few : count_of p ≤ 64
  pub total : num (window p 2 2) ≡ length p
  pub short : length p ≤ 1400

pub header : (p : List ℕ) → (question20 p).yes ≡ true → Header p
header p h =
    let s5 = and_parts _ (leb (length p) 1400) h in
    let s4 = and_parts _ (eqb (num (window p 2 2)) (length p)) s5.0 in
    let s3 = and_parts _ (leb (count_of p) 64) s4.0 in
    let s2 = and_parts _ (leb 1 (count_of p)) s3.0 in
    let s1 = and_parts (leb 4 (length p)) (eqb (rule_in p) 1 || eqb (rule_in p) 2) s2.0 in
    record {
      long = leb-true _ _ s1.0;
      first = s1.1;
      some = leb-true _ _ s2.1;
      few = leb-true _ _ s3.1;
      total = eqb-true _ _ s4.1;
      short = leb-true _ _ s5.1;
    }

pub header-yes : (p : List ℕ) → Header p → (question20 p).yes ≡ true
header-yes p h =
    simp (le-leb _ _ h.long, h.first, le-leb _ _ h.some, le-leb _ _ h.few, eq-eqb _ _ h.total, le-leb _ _ h.short)

-- ---- the answer of a fetch

module _ (rule : Rule) (p : List ℕ) (i : ℕ) where
  pub fetch-20 : (question20 p).yes ≡ false → Err (no 20) ≡ fetched rule p i
  unfolding fetched fetch_refusal
  fetch-20 a = simp a

  module _ (a : (question20 p).yes ≡ true) where
    pub fetch-27 : (rule_in p ≡ rule_number rule → ⊥) → Err (no 27) ≡ fetched rule p i
    unfolding fetched fetch_refusal
    fetch-27 n = simp (a, ne_eqb _ _ n)

    module _ (own : rule_in p ≡ rule_number rule) where
      pub fetch-21 : length p < entry_place (count_of p) → Err (no 21) ≡ fetched rule p i
      unfolding fetched fetch_refusal
      fetch-21 b = simp (a, eq-eqb _ _ own, lt-leb _ _ b)

      module _ (b : entry_place (count_of p) ≤ length p) where
        pub fetch-22 : (question22 p).yes ≡ false → Err (no 22) ≡ fetched rule p i
        unfolding fetched fetch_refusal
        fetch-22 d = simp (a, eq-eqb _ _ own, le-leb _ _ b, d)

        module _ (d : (question22 p).yes ≡ true) where
          pub fetch-23 : count_of p ≤ i → Err (no 23) ≡ fetched rule p i
          unfolding fetched fetch_refusal
          fetch-23 e = simp (a, eq-eqb _ _ own, le-leb _ _ b, d, le-ltb _ _ e)

          pub fetch-0 : i < count_of p → (f : Fields) → f ≡ fields_of (take (length p - entry_place i) (drop (entry_place i) p)) → Ok (entry_of f, f.offset) ≡ fetched rule p i
          unfolding fetched fetch_refusal
          fetch-0 l f e =
              simp (a, eq-eqb _ _ own, le-leb _ _ b, d, lt-ltb _ _ l) (ap (λ (x : Fields). Ok (entry_of x, x.offset)) (e ∙ ap fields_of (part_to_end p (entry_place i))))
