-- An event leaves the identity as it is.
use Rattle.std.proofs.Common.{refl}
use Rattle.hermes.specs.Node.{apply}
use Rattle.check_story.proofs.laptop.Laptop.turn.Goals as goal

pub returns : goal.returns
unfolding apply
returns c = let e = c.apply.ensures in (e.0, rw (e.1.0, e.1.1) refl)
