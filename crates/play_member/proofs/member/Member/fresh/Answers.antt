-- `play_member::member::Member::fresh` meets its contract.
use Rattle.std.proofs.Common.{sym, ◌∙◌}
use Rattle.play_member.proofs.Members.{start-admitted, start-refused}
use Rattle.play_member.proofs.member.Member.fresh.Goals as goal

pub returns-in-Ok : goal.returns-in-Ok
returns-in-Ok c = start-admitted _ _ _ _ (sym c.admit-start.ensures ∙ c.in-Ok.is) c.fresh_record.ensures

pub returns-in-Err : goal.returns-in-Err
returns-in-Err c = start-refused _ _ _ _ (sym c.admit-start.ensures ∙ c.in-Err.is) c.fresh.ensures
