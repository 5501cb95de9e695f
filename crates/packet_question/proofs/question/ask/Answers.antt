-- The words of as many messages as they hold lie inside.
use mathlib.Core.Path.{ap, ◌∙◌}
use Rattle.packet_words.proofs.Places.{counted}
use Rattle.packet_question.specs.Asking.{asked}
use Rattle.packet_question.proofs.question.ask.Goals as goal

pub returns : goal.returns
returns c = c.ask_first.ensures ∙ ap asked (counted c.args.words.now c.count_in.result c.count_in.ensures).whole
