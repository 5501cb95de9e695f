-- Clipped fields are good where the fields themselves are, and are then the same: question 22 may be asked of them.
use Rattle.std.proofs.Common.{◌≡◌, min, ◌<◌, ◌≤◌, Bool, true, false, refl, sym, ap, ◌∙◌, arith}
use Rattle.packet_format.specs.declared.entry.Fields.{Fields}
use Rattle.packet_format.specs.Entry.{good}
use Rattle.std.specs.Bool.{then_some}
use Rattle.std.proofs.lemmas.Bool.{false_from_ne_true}
use mathlib.Core.Bool.{false≢true}
use Rattle.packet_format.proofs.Entries.{good-parts}
use Rattle.packet_question.specs.Asking.{clipped, BodyOf}

same : (f : Fields) → f.kind ≤ 255 → f.sender ≤ 255 → f.tie ≤ 255 → f.len ≤ 255 → clipped f ≡ f
same f k s t l =
    let kind : min f.kind 255 ≡ f.kind = omega arith in
    let sender : min f.sender 255 ≡ f.sender = omega arith in
    let tie : min f.tie 255 ≡ f.tie = omega arith in
    let len : min f.len 255 ≡ f.len = omega arith in
    λ i. record { kind = kind i; sender = sender i; epoch = f.epoch; index = f.index; version = f.version; tie = tie i; offset = f.offset; len = len i }

clipped-good : (f : Fields) → good (clipped f) ≡ true → clipped f ≡ f
clipped-good f h =
    let g = good-parts (clipped f) h in
    same f (omega (arith, g.last)) (omega (arith, g.sender)) (omega (arith, g.tie)) (omega (arith, g.len))

clipped-bad : (f : Fields) → good (clipped f) ≡ false → good f ≡ false
clipped-bad f h =
    false_from_ne_true (good f)
    (λ t. let g = good-parts f t in let e = same f (omega (arith, g.last)) (omega (arith, g.sender)) (omega (arith, g.tie)) (omega (arith, g.len)) in false≢true (sym h ∙ ap good e ∙ t))

-- the length of the body, where clipped fields are good
pub body-of : (f : Fields) (yes : Bool) → yes ≡ good (clipped f) → BodyOf f (then_some yes f.len)
body-of f true y = (sym (ap good (clipped-good f (sym y))) ∙ sym y, refl)
body-of f false y = clipped-bad f (sym y)

-- a kind that is no byte is none of the three
pub no-kind : (f : Fields) → 255 < f.kind → good f ≡ false
no-kind f l = false_from_ne_true (good f) (λ t. let g = good-parts f t in absurd (omega (arith, g.last)))
