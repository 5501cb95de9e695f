use Rattle.hermes_record.specs.Order.{later}
use Rattle.hermes_record.proofs.timestamp.Timestamp.later.Goals as goal

pub returns : goal.returns
unfolding later
returns c = rw c.wins-won.ensures
