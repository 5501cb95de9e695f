-- `replica_settling::settle::resend` meets its contract.
use Rattle.std.proofs.Common.{rules, ◌∙◌}
use Rattle.hermes.specs.Event.{moved, resend_step}
use Rattle.hermes.specs.Guards.{question17}
use Rattle.hermes.specs.declared.event.Event.TheVariants.{Resend}
use Rattle.replica_outcome.proofs.Outcomes.{stops, goes}
use Rattle.replica_settling.proofs.Settling.{and_own}
use Rattle.replica_settling.proofs.settle.resend.Goals as goal

pub returns-in_default : goal.returns-in_default
unfolding moved
returns-in_default c = let v = c.args in let a = c.asks-a.result in
    c.stopped.ensures
    ∙ stops v.s.me v.s.count v.bytes v.s.index v.s.found Resend 0 a c.in_default.field-0 (resend_step v.s.me v.s.index v.s.found) (and_own v.s.me v.s.count v.bytes v.s.index v.s.found (question17 v.s.me) a (search rules)) c.in_default.is

pub returns : goal.returns
unfolding moved
returns c = let v = c.args in let a = c.asks-a.result in
    c.accepted.ensures ∙ rw c.again.ensures (goes v.s.me v.s.count v.bytes v.s.index v.s.found Resend 0 a c.in-Ok.r (resend_step v.s.me v.s.index) (and_own v.s.me v.s.count v.bytes v.s.index v.s.found (question17 v.s.me) a (search rules)) c.in-Ok.is)
