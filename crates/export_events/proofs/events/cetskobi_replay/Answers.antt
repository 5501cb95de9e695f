-- `export_events::events::cetskobi_replay` meets its contract.
use Rattle.std.proofs.Common.{rules, refl}
use Rattle.hermes.specs.declared.event.Event.TheVariants.{Replay}
use Rattle.export_calls.proofs.Steps.{quiet_done}
use Rattle.export_events.proofs.events.cetskobi_replay.Goals as goal

pub returns : goal.returns
returns c = quiet_done _ _ _ _ _ _ _ c.quiet.ensures _ Replay tt refl (λ s m p. search rules)
