-- `play_member::member::Member::apply` meets its contract.
use Rattle.std.proofs.Common.{ap, ◌∙◌}
use Rattle.hermes.specs.declared.event.Moved.{Moved}
use Rattle.hermes.specs.Event.{sent_by}
use Rattle.hermes.specs.Node.{index_of}
use Rattle.play_member.proofs.Members.{apply-is, effect-index}
use Rattle.play_member.proofs.member.Member.apply.Goals as goal

pub returns : goal.returns
returns c = (apply-is _ _ _ _ _ c.step-moved.ensures.0 c.step-moved.ensures.1, ap (λ (x : Moved). index_of (sent_by x.answer)) c.step-moved.ensures.0 ∙ effect-index _ _ _ _ _)
