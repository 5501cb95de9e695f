-- `play_bounds::bounds::line_at` meets its contract.
use native.Mathlib.Omega.{arith}
use Rattle.play_bounds.proofs.Lines.{line-parts}
use Rattle.play_bounds.proofs.bounds.line_at.Goals as goal

pub returns : goal.returns
returns c = (
  λ h.
      record {
        begins = omega (arith, c.find-end.ensures.value);
        inside = c.find-end.ensures.bound (omega (arith, c.if-input-from.false));
        onward = omega arith;
        parts = line-parts c.args.input.now c.args.from c.find-end.result h c.find-end.ensures.value;
      },
  λ h. absurd (omega (arith, h, c.if-input-from.false)),
)
