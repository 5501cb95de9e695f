use Rattle.std.proofs.Common.{arith}
use Rattle.packet_reader.proofs.Walking.{turned-22}
use Rattle.packet_reader.proofs.walk.walk.Goals as goal

pub returns-else-end-to : goal.returns-else-end-to
returns-else-end-to c = turned-22 _ (c.reach-end.ensures.bad (omega (arith, c.reach-end.ensures.below, c.if-end-to.false)))
