-- What is as long is copied whole.
use Rattle.std.proofs.Common.{◌≡◌, ℕ, List, ◌++◌, length, take, ap, ◌∙◌, arith, append-nil}
use Rattle.std.proofs.Math.ListN.{drop_of_length-le}
use Rattle.std.proofs.Math.Seq.{paste, take_all}
use Rattle.hermes_record.proofs.bytes.copy.Goals as goal

whole : (d s : List ℕ) (n : ℕ) → length s ≡ length d → n ≡ length s → paste d 0 s n ≡ s
whole d s n e h =
    ap (λ (l : List ℕ). take n s ++ l) (drop_of_length-le d (omega arith)) ∙ append-nil (take n s) ∙ take_all n s (omega arith)

pub returns-clause-whole : goal.returns-clause-whole
returns-clause-whole c = λ e. c.loop-k.invariant.0 ∙ whole c.args.to.now c.args.from.now c.loop-k.k e (omega arith)
