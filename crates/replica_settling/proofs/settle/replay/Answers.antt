-- `replica_settling::settle::replay` meets its contract.
use Rattle.std.proofs.Common.{rules, ◌∙◌}
use Rattle.hermes.specs.Event.{moved, replay_step}
use Rattle.hermes.specs.Guards.{question16}
use Rattle.hermes.specs.declared.event.Event.TheVariants.{Replay}
use Rattle.replica_outcome.proofs.Outcomes.{stops, goes}
use Rattle.replica_settling.proofs.Settling.{and_own}
use Rattle.replica_settling.proofs.settle.replay.Goals as goal

pub returns-in_default : goal.returns-in_default
unfolding moved
returns-in_default c = let v = c.args in let a = c.asks-a.result in
    c.stopped.ensures
    ∙ stops v.s.me v.s.count v.bytes v.s.index v.s.found Replay 0 a c.in_default.field-0 (replay_step v.s.me v.s.index v.s.found) (and_own v.s.me v.s.count v.bytes v.s.index v.s.found (question16 v.s.me) a (search rules)) c.in_default.is

pub returns : goal.returns
unfolding moved
returns c = let v = c.args in let a = c.asks-a.result in
    c.accepted.ensures ∙ rw (c.send.ensures, c.replay.ensures) (goes v.s.me v.s.count v.bytes v.s.index v.s.found Replay 0 a c.in-Ok.r (replay_step v.s.me v.s.index) (and_own v.s.me v.s.count v.bytes v.s.index v.s.found (question16 v.s.me) a (search rules)) c.in-Ok.is)
