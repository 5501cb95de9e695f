-- The loop's invariant: the messages passed are good, and the sum is that of their bodies.
use Rattle.packet_words.specs.Words.{entries_from}
use Rattle.packet_question.proofs.Messages.{Measured}
use Rattle.packet_question.proofs.question.ask_first.Given as goal

abbrev pub invariant-loop-k : goal.invariant-loop-k
invariant-loop-k l = Measured (entries_from l.count 0 l.words) l.sum l.k
