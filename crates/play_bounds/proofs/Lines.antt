-- The first line of a text, and the rest after its line feed; then the same from any index on.
use mathlib.Core.Path.{◌≡◌, refl, sym, ap, ◌∙◌}
use mathlib.Core.Bool.{Bool, true, false, cond}
use mathlib.Core.List.{List, [], ◌∷◌}
use Prim.Native.Nat.{ℕ, ◌+◌, ◌-◌, ◌<◌}
use native.Mathlib.Nat.{suc-add, not-suc-le-zero}
use native.Mathlib.Omega.{arith}
use lib.Dec.{eqb}
use lib.ListN.{length, take, drop, length-drop}
use lib.Seq.{take-length, drop-drop}
use Rattle.play_script.specs.Seek.{index_of, index_after, slice}
use Rattle.play_script.specs.Text.{lines, lengthen}

lines_step : (r : List ℕ) → 0 < length r → lines r ≡ take (index_of 10 r) r ∷ lines (drop (index_of 10 r + 1) r)
unfolding lines index_of
lines_step [] h = absurd (not-suc-le-zero h)
lines_step (b ∷ []) h = one (eqb b 10)
  where
    one : (t : Bool) → cond t ([] ∷ []) ((b ∷ []) ∷ []) ≡ take (index_after t 0) (b ∷ []) ∷ lines (drop (index_after t 0 + 1) (b ∷ []))
    one true = refl
    one false = refl
lines_step (b ∷ d ∷ r) h = two (eqb b 10) (lines_step (d ∷ r) (omega arith))
  where
    two : (t : Bool) → lines (d ∷ r) ≡ take (index_of 10 (d ∷ r)) (d ∷ r) ∷ lines (drop (index_of 10 (d ∷ r) + 1) (d ∷ r))
        → cond t ([] ∷ lines (d ∷ r)) (lengthen b (lines (d ∷ r))) ≡ take (index_after t (index_of 10 (d ∷ r))) (b ∷ d ∷ r) ∷ lines (drop (index_after t (index_of 10 (d ∷ r)) + 1) (b ∷ d ∷ r))
    two true e = refl
    two false e =
        ap (lengthen b) e
        ∙ ap (λ (n : ℕ). (b ∷ take (index_of 10 (d ∷ r)) (d ∷ r)) ∷ lines (drop n (b ∷ d ∷ r))) (sym (suc-add (index_of 10 (d ∷ r)) 1))

pub line-parts : (input : List ℕ) (from end : ℕ) → from < length input → end ≡ from + index_of 10 (slice from (length input) input)
    → lines (drop from input) ≡ take (end - from) (drop from input) ∷ lines (drop (end + 1) input)
unfolding slice
line-parts input from end h e =
    let r = drop from input in
    let k = index_of 10 r in
    let e1 : end ≡ from + k = e ∙ ap (λ (l : List ℕ). from + index_of 10 (drop from l)) (take-length input) in
    let a : k ≡ end - from = omega arith in
    let b : from + (k + 1) ≡ end + 1 = omega arith in
    lines_step r (rw length-drop (omega arith)) ∙ ap (λ (l : List ℕ). take k r ∷ lines l) (drop-drop (k + 1) from input) ∙ (λ i. take (a i) r ∷ lines (drop (b i) input))
