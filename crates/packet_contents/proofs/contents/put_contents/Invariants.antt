-- The loop's invariant: with the entries of the messages to come behind it, the output is the one with the contents table.
use Rattle.packet_contents.proofs.Tables.{Stored}
use Rattle.packet_contents.proofs.contents.put_contents.Given as goal

abbrev pub invariant-loop-j : goal.invariant-loop-j
invariant-loop-j l = Stored l.initial.out l.count l.words l.out l.at l.j
