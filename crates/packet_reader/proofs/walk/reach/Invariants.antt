-- The invariant says what is left to ask: question 22 comes to the walk from entry `next` on.
use Rattle.packet_reader.specs.Walking.{Walked}
use Rattle.packet_reader.proofs.walk.reach.Given as goal

abbrev pub invariant-loop-next : goal.invariant-loop-next
invariant-loop-next l = Walked l.packet l.next l.at
