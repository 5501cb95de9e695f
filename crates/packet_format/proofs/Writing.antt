-- An accepted write, and the parts of questions 24 and 25.
use mathlib.Core.Path.{◌≡◌, refl, ap}
use mathlib.Core.Bool.{Bool, true, false, cond}
use mathlib.Core.List.{List}
use Prim.Native.Nat.{ℕ, zero, suc, ◌≤◌}
use native.Mathlib.Omega.{arith}
use borrow.Author.Tests.{eq-eqb, le-leb, leb-true, eqb-true}
use lib.Dec.{leb, eqb}
use lib.ListN.{length}
use Rattle.packet_format.specs.declared.entry.Entry.{Entry}
use Rattle.std.specs.Prelude.{Ok}
use Rattle.packet_format.specs.Writing.{summed, total_of, all_good, question24, question25, write_refusal, written_as, packet_written}
use Rattle.std.proofs.lemmas.Bool.{and_parts}

-- the parts of questions 24 and 25
pub record Accepts (es : List Entry) (bodies : List ℕ) (room : ℕ) : Type 0 where
  pub some : 1 ≤ length es
  pub few : length es ≤ 64
  pub good : all_good es ≡ true
  pub exact : summed es ≡ length bodies
  pub short : total_of (length es) bodies ≤ 1400
  pub fits : total_of (length es) bodies ≤ room

both-passed : (a b : Bool) → ◌≡◌ {A = ℕ} (cond a (cond b 0 25) 24) 0 → (a ≡ true) × (b ≡ true)
both-passed true true h = (refl, refl)
both-passed true false h = absurd (omega (arith, h))
both-passed false b h = absurd (omega (arith, h))

total-of : (k n m : ℕ) → written_as k n ≡ Ok m → (k ≡ 0) × (n ≡ m)
total-of zero n m h = (refl, cc)
total-of (suc k) n m h = let z : ◌≡◌ {A = ℕ} 0 1 = cc in absurd (omega arith)

module _ (es : List Entry) (bodies : List ℕ) (room : ℕ) where
  pub accepts : write_refusal es bodies room ≡ 0 → Accepts es bodies room
  unfolding write_refusal
  accepts h =
      let s = both-passed (question24 es bodies).yes (question25 (length es) bodies room).yes h in
      let s3 = and_parts _ (eqb (summed es) (length bodies)) s.0 in
      let s2 = and_parts _ (all_good es) s3.0 in
      let s1 = and_parts (leb 1 (length es)) (leb (length es) 64) s2.0 in
      let t = and_parts (leb (total_of (length es) bodies) 1400) (leb (total_of (length es) bodies) room) s.1 in
      record {
        some = leb-true _ _ s1.0;
        few = leb-true _ _ s1.1;
        good = s2.1;
        exact = eqb-true _ _ s3.1;
        short = leb-true _ _ t.0;
        fits = leb-true _ _ t.1;
      }

  pub all_yes : Accepts es bodies room → write_refusal es bodies room ≡ 0
  unfolding write_refusal
  all_yes a =
      simp (le-leb _ _ a.some, le-leb _ _ a.few, a.good, eq-eqb _ _ a.exact, le-leb _ _ a.short, le-leb _ _ a.fits)

  pub accepted : Accepts es bodies room → packet_written es bodies room ≡ Ok (total_of (length es) bodies)
  unfolding packet_written
  accepted a = ap (λ (k : ℕ). written_as k (total_of (length es) bodies)) (all_yes a)

  pub total-yes : (n : ℕ) → packet_written es bodies room ≡ Ok n → (write_refusal es bodies room ≡ 0) × (total_of (length es) bodies ≡ n)
  unfolding packet_written
  total-yes n h = total-of (write_refusal es bodies room) (total_of (length es) bodies) n h
