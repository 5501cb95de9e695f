-- A packet accepted, and its messages taken: the answers from their questions; and what the walk told of each entry, so that a message taken is the one fetched.
use mathlib.Core.Path.{◌≡◌, refl, sym, ap, ◌∙◌, subst}
use mathlib.Core.Bool.{Bool, true, false, cond, ◌&&◌}
use mathlib.Core.List.{List}
use mathlib.Core.Logic.{◌⊎◌, inl, inr, ⊎_elim}
use Prim.Native.Nat.{ℕ, zero, suc, ◌+◌, ◌*◌, ◌-◌, ◌≤◌, ◌<◌}
use native.Mathlib.Nat.{not-suc-le-zero, le_of_suc-le-suc}
use native.Mathlib.Omega.{arith}
use borrow.Author.Tests.{eq-eqb, ne_eqb, le-leb, lt-leb, lt-ltb, le-ltb, leb-true, leb-false, ltb-true, ltb-false, eqb-true, eqb-false}
use lib.Dec.{eqb, leb, ltb}
use lib.ListN.{length, take, drop}
use lib.Seq.{drop-drop}
use Rattle.std.proofs.lemmas.Bool.{and_parts}
use Rattle.hermes_record.specs.declared.timestamp.Rule.{Rule}
use Rattle.hermes_record.specs.declared.timestamp.Rule.TheVariants.{Higher, Lower}
use Rattle.hermes_record.specs.Order.{rule_number}
use Rattle.hermes.specs.Store.{Bytes}
use Rattle.packet_format.specs.declared.entry.Fields.{Fields}
use Rattle.packet_format.specs.declared.answer.Accepted.{Accepted}
use Rattle.hermes.specs.Answer.{no}
use Rattle.packet_format.specs.Answer.{Taken}
use Rattle.std.specs.Prelude.{Err, Ok}
use Rattle.packet_format.specs.Bytes.{window}
use Rattle.packet_format.specs.Entry.{fields_of, good}
use Rattle.packet_format.specs.Reading.{rule_in, count_of, entry_place, question20, question27, question21, question22, walk, fetched, body_of}
use Rattle.packet_format.specs.Accepting.{accept_refusal, accepted, take_refusal, taken_as, taken, taken_number, fetched_of, TakenIsFetched, TakenIsGood, Tells, AcceptedTells, TakenLiesWithin, Refuses, OtherRuleRefused, AcceptedByOne}
use Rattle.packet_format.proofs.Reading.{part_to_end, fetch-20, fetch-27, fetch-21, fetch-22, fetch-23, fetch-0}
use Rattle.packet_format.proofs.Width.{num-lt, window_bytes}
use Rattle.packet_format.proofs.Contents.{bytes_drop, sixteen}

-- ---- the entries of a table that passes the walk

-- a body begins before the end
walk_at : (n : ℕ) (q : List ℕ) (at total : ℕ) → walk n q at total ≡ true → at ≤ total
unfolding walk
walk_at zero q at total w = let e = eqb-true at total w in omega arith
walk_at (suc n) q at total w =
    let s = and_parts (good (fields_of q) && eqb (fields_of q).offset at) (walk n (drop 16 q) (at + (fields_of q).len) total) w in
    let h = walk_at n (drop 16 q) (at + (fields_of q).len) total s.1 in
    omega arith

-- entry i of it is good, and its body ends before the end
walk-entry : (n i : ℕ) (q : List ℕ) (at total : ℕ) → walk n q at total ≡ true → i < n
    → (good (fields_of (drop (16 * i) q)) ≡ true) × ((fields_of (drop (16 * i) q)).offset + (fields_of (drop (16 * i) q)).len ≤ total)
unfolding walk
walk-entry zero i q at total w l = absurd (not-suc-le-zero l)
walk-entry (suc n) zero q at total w l =
    let f = fields_of q in
    let s = and_parts (good f && eqb f.offset at) (walk n (drop 16 q) (at + f.len) total) w in
    let g = and_parts (good f) (eqb f.offset at) s.0 in
    let h = walk_at n (drop 16 q) (at + f.len) total s.1 in
    let e = eqb-true f.offset at g.1 in
    (g.0, omega arith)
walk-entry (suc n) (suc i) q at total w l =
    let f = fields_of q in
    let s = and_parts (good f && eqb f.offset at) (walk n (drop 16 q) (at + f.len) total) w in
    rw (sixteen i q) (walk-entry n i (drop 16 q) (at + f.len) total s.1 (le_of_suc-le-suc l))

-- an offset is a number of two bytes
pub offset-fits : (p : List ℕ) (a : ℕ) → Bytes p → (fields_of (take (length p - a) (drop a p))).offset < 65536
offset-fits p a b = rw (part_to_end p a) (num-lt (window (drop a p) 13 2) (window_bytes (drop a p) 13 2 (bytes_drop a p b)))

-- ---- the answer of an acceptance

module _ (rule : Rule) (p : List ℕ) where
  pub accept-20 : (question20 p).yes ≡ false → ◌≡◌ {A = Accepted} (record { number = 20; count = 0 }) (accepted rule p)
  unfolding accepted accept_refusal
  accept-20 a = simp a

  module _ (a : (question20 p).yes ≡ true) where
    pub accept-27 : (rule_in p ≡ rule_number rule → ⊥) → ◌≡◌ {A = Accepted} (record { number = 27; count = 0 }) (accepted rule p)
    unfolding accepted accept_refusal
    accept-27 n = simp (a, ne_eqb _ _ n)

    module _ (own : rule_in p ≡ rule_number rule) where
      pub accept-21 : length p < entry_place (count_of p) → ◌≡◌ {A = Accepted} (record { number = 21; count = 0 }) (accepted rule p)
      unfolding accepted accept_refusal
      accept-21 b = simp (a, eq-eqb _ _ own, lt-leb _ _ b)

      module _ (b : entry_place (count_of p) ≤ length p) where
        pub accept-22 : (question22 p).yes ≡ false → ◌≡◌ {A = Accepted} (record { number = 22; count = 0 }) (accepted rule p)
        unfolding accepted accept_refusal
        accept-22 d = simp (a, eq-eqb _ _ own, le-leb _ _ b, d)

        pub accept-0 : (question22 p).yes ≡ true → ◌≡◌ {A = Accepted} (record { number = 0; count = count_of p }) (accepted rule p)
        unfolding accepted accept_refusal
        accept-0 d = simp (a, eq-eqb _ _ own, le-leb _ _ b, d)

-- ---- the answer of a taking

refused-by : (k : ℕ) (f : Fields) → (k ≡ 0 → ⊥) → Err (no k) ≡ taken_as k f
refused-by zero f n = absurd (n refl)
refused-by (suc k) f n = refl

module _ (p : List ℕ) (a : Accepted) (i : ℕ) where
  pub take-refused : a.count ≤ i → (a.number ≡ 0 → ⊥) → Err (no a.number) ≡ taken p a i
  unfolding taken take_refusal
  take-refused l n = simp (le-ltb _ _ l, ne_eqb _ _ n) (refused-by a.number _ n)

  pub take-23 : a.count ≤ i → a.number ≡ 0 → Err (no 23) ≡ taken p a i
  unfolding taken take_refusal
  take-23 l e = simp (le-ltb _ _ l, e)

  module _ (l : i < a.count) where
    pub take-21 : length p < entry_place (suc i) → Err (no 21) ≡ taken p a i
    unfolding taken take_refusal
    take-21 b = simp (lt-ltb _ _ l, lt-leb _ _ b)

    module _ (b : entry_place (suc i) ≤ length p) (f : Fields) (e : f ≡ fields_of (take (length p - entry_place i) (drop (entry_place i) p))) where
      here : f ≡ fields_of (drop (entry_place i) p)
      here = e ∙ ap fields_of (part_to_end p (entry_place i))

      pub take-22 : length p < f.offset + f.len → Err (no 22) ≡ taken p a i
      unfolding taken take_refusal
      take-22 d = simp (lt-ltb _ _ l, le-leb _ _ b, lt-leb _ _ (rw here at d))

      pub take_0 : f.offset + f.len ≤ length p → Ok f ≡ taken p a i
      unfolding taken take_refusal
      take_0 d = simp (lt-ltb _ _ l, le-leb _ _ b, le-leb _ _ (rw here at d)) (ap Ok here)

-- ---- what is claimed

-- a packet that questions 20 to 22 and 27 let pass
record Whole (rule : Rule) (p : List ℕ) : Type 0 where
  passed20 : (question20 p).yes ≡ true
  passed27 : rule_in p ≡ rule_number rule
  passed21 : entry_place (count_of p) ≤ length p
  passed22 : (question22 p).yes ≡ true

-- a packet is refused, by the same number at every fetch, or it is whole
data Verdict (rule : Rule) (p : List ℕ) : Type 0 where
  refused : (k : ℕ) → ◌≡◌ {A = Accepted} (record { number = suc k; count = 0 }) (accepted rule p) → ((i : ℕ) → Err (no (suc k)) ≡ fetched rule p i) → Verdict rule p
  whole : Whole rule p → Verdict rule p

verdict : (rule : Rule) (p : List ℕ) → Verdict rule p
verdict rule p = asked (question20 p).yes (question27 rule p).yes (question21 p).yes (question22 p).yes refl refl refl refl
  where
    asked : (a r b c : Bool) → (question20 p).yes ≡ a → (question27 rule p).yes ≡ r → (question21 p).yes ≡ b → (question22 p).yes ≡ c → Verdict rule p
    asked false r b c ea er eb ec = refused 19 (accept-20 rule p ea) (λ i. fetch-20 rule p i ea)
    asked true false b c ea er eb ec = let n = eqb-false _ _ er in refused 26 (accept-27 rule p ea n) (λ i. fetch-27 rule p i ea n)
    asked true true false c ea er eb ec =
        let own = eqb-true _ _ er in
        let l = leb-false _ _ eb in
        refused 20 (accept-21 rule p ea own l) (λ i. fetch-21 rule p i ea own l)
    asked true true true false ea er eb ec =
        let own = eqb-true _ _ er in
        let l = leb-true _ _ eb in
        refused 21 (accept-22 rule p ea own l ec) (λ i. fetch-22 rule p i ea own l ec)
    asked true true true true ea er eb ec = whole (record { passed20 = ea; passed27 = eqb-true _ _ er; passed21 = leb-true _ _ eb; passed22 = ec })

module _ (rule : Rule) (p : List ℕ) (i : ℕ) where
  refused-taken : (k : ℕ) → ◌≡◌ {A = Accepted} (record { number = suc k; count = 0 }) (accepted rule p) → taken p (accepted rule p) i ≡ Err (no (suc k))
  refused-taken k e = ap (λ (a : Accepted). taken p a i) (sym e) ∙ sym (take-refused p (record { number = suc k; count = 0 }) i (omega arith) (λ z. omega arith))

  module _ (w : Whole rule p) where
    facts : ◌≡◌ {A = Accepted} (record { number = 0; count = count_of p }) (accepted rule p)
    facts = accept-0 rule p w.passed20 w.passed27 w.passed21 w.passed22

    beyond-taken : count_of p ≤ i → taken p (accepted rule p) i ≡ Err (no 23)
    beyond-taken l = ap (λ (a : Accepted). taken p a i) (sym facts) ∙ sym (take-23 p (record { number = 0; count = count_of p }) i l refl)

    module _ (l : i < count_of p) where
      -- entry i, and what the walk told of it
      known : (good (fields_of (drop (entry_place i) p)) ≡ true) × ((fields_of (drop (entry_place i) p)).offset + (fields_of (drop (entry_place i) p)).len ≤ length p)
      known = rw (drop-drop (16 * i) 4 p) at (walk-entry (count_of p) i (drop 4 p) (entry_place (count_of p)) (length p) w.passed22 l)

      part : fields_of (drop (entry_place i) p) ≡ fields_of (take (length p - entry_place i) (drop (entry_place i) p))
      part = ap fields_of (sym (part_to_end p (entry_place i)))

      found-taken : taken p (accepted rule p) i ≡ Ok (fields_of (drop (entry_place i) p))
      found-taken =
          ap (λ (a : Accepted). taken p a i) (sym facts)
          ∙ sym (take_0 p (record { number = 0; count = count_of p }) i l (omega (arith, w.passed21)) (fields_of (drop (entry_place i) p)) part known.1)

      found-fetched : fetched rule p i ≡ fetched_of (Ok (fields_of (drop (entry_place i) p)))
      found-fetched = sym (fetch-0 rule p i w.passed20 w.passed27 w.passed21 w.passed22 l (fields_of (drop (entry_place i) p)) part)

  beyond-fetched : Whole rule p → count_of p ≤ i → fetched rule p i ≡ Err (no 23)
  beyond-fetched w l = sym (fetch-23 rule p i w.passed20 w.passed27 w.passed21 w.passed22 l)

-- a number below another, or not
pub split : (i n : ℕ) → (i < n) ⊎ (n ≤ i)
split i n = asked (ltb i n) refl
  where
    asked : (b : Bool) → ltb i n ≡ b → (i < n) ⊎ (n ≤ i)
    asked true e = inl (ltb-true _ _ e)
    asked false e = inr (ltb-false _ _ e)

-- the entry of an answer, or another
abbrev fields_in : Taken → Fields → Fields
fields_in (Ok f) g = f
fields_in (Err k) g = g

no-entry : {k : ℕ} {f : Fields} → ◌≡◌ {A = Taken} (Err (no (suc k))) (Ok f) → ⊥
no-entry e = let z = ap taken_number e in omega arith

same-entry : {f g : Fields} → ◌≡◌ {A = Taken} (Ok f) (Ok g) → f ≡ g
same-entry {f} e = ap (λ (t : Taken). fields_in t f) e

number : {n c : ℕ} {a : Accepted} → ◌≡◌ {A = Accepted} (record { number = n; count = c }) a → n ≡ a.number
number e = ap (λ (a : Accepted). a.number) e

pub taken-is-fetched : TakenIsFetched
taken-is-fetched rule p i = by (verdict rule p)
  where
    by : Verdict rule p → fetched_of (taken p (accepted rule p) i) ≡ fetched rule p i
    by (refused k e h) = ap fetched_of (refused-taken rule p i k e) ∙ h i
    by (whole w) =
        ⊎_elim (λ l. ap fetched_of (found-taken rule p i w l) ∙ sym (found-fetched rule p i w l)) (λ l. ap fetched_of (beyond-taken rule p i w l) ∙ sym (beyond-fetched rule p i w l))
        (split i (count_of p))

pub taken-is-good : TakenIsGood
taken-is-good rule p i f t = by (verdict rule p)
  where
    by : Verdict rule p → good f ≡ true
    by (refused k e h) = absurd (no-entry (sym (refused-taken rule p i k e) ∙ t))
    by (whole w) =
        ⊎_elim (λ l. ap good (same-entry (sym t ∙ found-taken rule p i w l)) ∙ (known rule p i w l).0) (λ l. absurd (no-entry (sym (beyond-taken rule p i w l) ∙ t))) (split i (count_of p))

pub accepted-tells : AcceptedTells
accepted-tells rule p = by (verdict rule p)
  where
    by : Verdict rule p → Tells rule p (accepted rule p)
    by (refused k e h) =
        record {
          refused = λ j i n. sym (h i) ∙ ap (λ n. Err (no n)) (number e ∙ n);
          found = λ i z l. absurd (omega (arith, number e ∙ z));
          beyond = λ i z l. absurd (omega (arith, number e ∙ z));
        }
    by (whole w) =
        record {
          refused = λ j i n. absurd (omega (arith, number (facts rule p 0 w) ∙ n));
          found = λ i z l. (fields_of (drop (entry_place i) p), found-fetched rule p i w (rw (sym (facts rule p 0 w)) at l));
          beyond = λ i z l. beyond-fetched rule p i w (rw (sym (facts rule p 0 w)) at l);
        }

-- ---- a packet of the other rule

-- the rules have different numbers
pub one_number : (rule other : Rule) → rule_number rule ≡ rule_number other → rule ≡ other
one_number Higher Higher e = refl
one_number Higher Lower e = absurd (omega arith)
one_number Lower Higher e = absurd (omega arith)
one_number Lower Lower e = refl

pub other-rule-refused : OtherRuleRefused
other-rule-refused rule other p different a own = record {
  fetching = fetching;
  fetched_body = λ i. ap (body_of p) (fetching i);
  accepting = sym facts;
  taking = taking;
  taken_body = λ i. ap (λ (t : Taken). body_of p (fetched_of t)) (taking i);
}
  where
    foreign : rule_in p ≡ rule_number other → ⊥
    foreign e = different (one_number rule other (sym (eqb-true _ _ own) ∙ e))

    facts : ◌≡◌ {A = Accepted} (record { number = 27; count = 0 }) (accepted other p)
    facts = accept-27 other p a foreign

    fetching : (i : ℕ) → fetched other p i ≡ Err (no 27)
    fetching i = sym (fetch-27 other p i a foreign)

    taking : (i : ℕ) → taken p (accepted other p) i ≡ Err (no 27)
    taking i = refused-taken other p i 26 facts

pub accepted-by-one : AcceptedByOne
accepted-by-one rule other p different z = by (verdict rule p)
  where
    by : Verdict rule p → Refuses other p 27
    by (refused k e h) = absurd (omega (arith, number e ∙ z))
    by (whole w) = other-rule-refused rule other p different w.passed20 (eq-eqb _ _ w.passed27)

-- ---- whatever the facts

-- the questions of a taking that all said yes
all_yes : (a b c : Bool) (k : ℕ) → 0 < k → ◌≡◌ {A = ℕ} (cond a (cond b (cond c 0 22) 21) k) 0 → (b ≡ true) × (c ≡ true)
all_yes true true true k n z = (refl, refl)
all_yes true true false k n z = absurd (omega (arith, z))
all_yes true false c k n z = absurd (omega (arith, z))
all_yes false b c k n z = absurd (omega (arith, z))

-- the number of its first question is none of a yes
some_number : (k : ℕ) → 0 < cond (eqb k 0) 23 k
some_number zero = omega arith
some_number (suc k) = rw (ne_eqb (suc k) 0 (λ z. omega arith)) (omega arith)

entry-taken : (k : ℕ) (g f : Fields) → taken_as k g ≡ Ok f → (k ≡ 0) × (g ≡ f)
entry-taken zero g f e = (refl, same-entry e)
entry-taken (suc k) g f e = absurd (no-entry e)

-- whatever the facts, what is taken stands at the same place
pub taken-alike : (p : List ℕ) (a b : Accepted) (i : ℕ) (f g : Fields) → taken p a i ≡ Ok f → taken p b i ≡ Ok g → f ≡ g
unfolding taken
taken-alike p a b i f g ea eb =
    let h = fields_of (drop (entry_place i) p) in
    sym (entry-taken (take_refusal p a i) h f ea).1 ∙ (entry-taken (take_refusal p b i) h g eb).1

pub taken-lies-within : TakenLiesWithin
unfolding taken take_refusal
taken-lies-within p a i f t =
    let g = fields_of (drop (entry_place i) p) in
    let s = entry-taken (take_refusal p a i) g f t in
    let y = all_yes (ltb i a.count) (leb (entry_place (suc i)) (length p)) (leb (g.offset + g.len) (length p)) _ (some_number a.number) s.0 in
    subst (λ (x : Fields). x.offset + x.len ≤ length p) s.1 (leb-true (g.offset + g.len) (length p) y.1)
