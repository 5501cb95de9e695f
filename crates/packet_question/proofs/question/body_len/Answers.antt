use Rattle.std.proofs.Common.{ap, ◌∙◌}
use Rattle.packet_format.specs.Entry.{good}
use Rattle.packet_question.proofs.Clipping.{body-of, no-kind}
use Rattle.packet_question.proofs.question.body_len.Goals as goal

pub returns-then-words-w-gt255 : goal.returns-then-words-w-gt255
returns-then-words-w-gt255 c = no-kind _ c.if-words-w-gt255.true

pub returns : goal.returns
returns c = rw c.then_some.ensures (body-of _ _ (c.good.ensures ∙ ap good c.fields_at.ensures))
