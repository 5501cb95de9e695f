-- `replica_reading::reading::read_event` meets its contract.
use Rattle.std.proofs.Common.{◌∙◌}
use Rattle.hermes.specs.Event.{moved, read_step}
use Rattle.hermes.specs.declared.event.Event.TheVariants.{Read}
use Rattle.replica_outcome.proofs.Outcomes.{stops, goes}
use Rattle.replica_reading.proofs.reading.read_event.Goals as goal

pub returns-in_default : goal.returns-in_default
unfolding moved
returns-in_default c = let v = c.args in c.stopped.ensures ∙ stops v.s.me v.s.count v.bytes v.s.index v.s.found Read 0 _ c.in_default.field-0 (read_step v.s.found) c.asks-a.ensures c.in_default.is

pub returns : goal.returns
unfolding moved
returns c = let v = c.args in c.accepted.ensures ∙ goes v.s.me v.s.count v.bytes v.s.index v.s.found Read 0 _ c.in-Ok.r read_step c.asks-a.ensures c.in-Ok.is
