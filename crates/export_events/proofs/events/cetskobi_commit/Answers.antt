-- `export_events::events::cetskobi_commit` meets its contract.
use Rattle.std.proofs.Common.{rules}
use Rattle.export_events.proofs.Saved.{commit_done}
use Rattle.export_events.proofs.events.cetskobi_commit.Goals as goal

pub returns : goal.returns
returns c = commit_done _ _ _ _ _ _ _ _ _ _ c.storing.ensures _ (λ s b p. search rules, λ s m p. search rules)
