use Rattle.std.proofs.Common.{◌∙◌}
use Rattle.packet_question.proofs.Messages.{measured-none, measured-more, measured-bad, measured-all}
use Rattle.packet_question.proofs.question.ask_first.Goals as goal

pub loop-k-init : goal.loop-k-init
loop-k-init c = measured-none _

pub returns-in_err-sum : goal.returns-in_err-sum
returns-in_err-sum c = c.from_residual.ensures ∙ measured-bad c.args.count c.args.words.now c.loop-k.sum c.loop-k.k c.loop-k-test.true c.in_err-sum.ensures

pub loop-k-preserved : goal.loop-k-preserved
loop-k-preserved c = measured-more c.args.count c.args.words.now c.loop-k.sum c.loop-k.k c.loop-k-test.true c.in_ok-sum.field-0 c.in_ok-sum.ensures c.loop-k.invariant

pub returns : goal.returns
returns c = measured-all c.args.count c.args.words.now c.loop-k.sum c.loop-k.k c.loop-k-test.false c.loop-k.invariant
