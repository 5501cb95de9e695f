use Rattle.std.proofs.Common.{arith}
use Rattle.std.proofs.lemmas.Grind.{common_steps}
use Rattle.play_numbers.proofs.Numbers.{more_step}
use Rattle.play_numbers.proofs.number.digits.Goals as goal

pub returns-then-limit-value-clause-value : goal.returns-then-limit-value-clause-value
returns-then-limit-value-clause-value c =
    let step = more_step c.args.limit c.loop-b.value c.loop-b.b-index c.args.word.now c.loop-b-test.true in grind (arith, common_steps, step)

pub loop-b-preserved : goal.loop-b-preserved
loop-b-preserved c =
    let step = more_step c.args.limit c.loop-b.value c.loop-b.b-index c.args.word.now c.loop-b-test.true in grind (arith, common_steps, step)
