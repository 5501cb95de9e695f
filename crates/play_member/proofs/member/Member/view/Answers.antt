-- `play_member::member::Member::view` meets its contract.
use Rattle.std.proofs.Common.{refl, sym, ◌∙◌}
use Rattle.std.proofs.lemmas.Result.{err_from_is_err_and}
use Rattle.play_member.proofs.Members.{view-admitted, view-refused}
use Rattle.play_member.proofs.member.Member.view.Goals as goal

pub returns-in_err-self : goal.returns-in_err-self
returns-in_err-self c =
    let p = err_from_is_err_and c.from_residual.result c.from_residual.ensures.1 in rw (p.1, p.2) (view-refused _ _ _ _ (sym c.view.ensures ∙ c.in_err-self.was), refl)

pub returns : goal.returns
returns c = (view-admitted _ _ _ _ (sym c.view.ensures ∙ c.in_ok-self.was), refl)
