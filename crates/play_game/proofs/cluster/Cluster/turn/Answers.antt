-- `play_game::cluster::Cluster::turn` meets its contract.
use Rattle.std.proofs.Common.{sym, ◌∙◌}
use Rattle.play_game.proofs.Turns.{turn-entry, turn-none, turn-stranger, turned-unknown}
use Rattle.play_game.proofs.cluster.Cluster.turn.Goals as goal
use Rattle.play_game.proofs.cluster.Cluster.turn.Goals.{in_default-via-in-Some+else-in_group, in_default-via-in_default}

pub returns-in-Some : goal.returns-in-Some
returns-in-Some c = rw (turn-entry _ _ c.args.line.now _ (sym c.parse.ensures ∙ c.in-Some.is)) c.act.ensures

pub returns-in_default : goal.returns-in_default
returns-in_default c =
    elim c.in_default.branch [
      | in_default-via-in-Some+else-in_group w ↦
          turned-unknown _ _ _ _ (turn-stranger _ _ c.args.line.now _ (sym c.parse.ensures ∙ w.in-Some.is) (sym w.in_group.ensures ∙ w.if-in_group.false)) c.requires c.put_unknown.ensures
      | in_default-via-in_default w ↦ turned-unknown _ _ _ _ (turn-none _ _ c.args.line.now (sym c.parse.ensures ∙ w.in_default.is)) c.requires c.put_unknown.ensures
    ]
