-- `replica_events::events::step` meets its contract: of the events that store nothing the answer and the record are all.
use Rattle.std.proofs.Common.{length, refl}
use Rattle.hermes_record.specs.Order.{ties}
use Rattle.hermes.specs.declared.event.Event.TheVariants.{Read, Ask, Replay, Validate, Resend}
use Rattle.hermes.proofs.Asking.{moves-as-read}
use Rattle.replica_outcome.proofs.Outcomes.{quiet}
use Rattle.replica_events.proofs.events.step.Goals as goal

pub returns-in-Read : goal.returns-in-Read
returns-in-Read c = let v = c.args in rw (c.in-Read.is, quiet ties v.s.me v.s.count v.s.index v.s.found v.store.now Read v.value.now tt) (c.read_event.ensures, refl)

pub returns-in-Ask : goal.returns-in-Ask
returns-in-Ask c =
    let v = c.args in
    rw (c.in-Ask.is, quiet ties v.s.me v.s.count v.s.index v.s.found v.store.now Ask v.value.now tt, moves-as-read ties v.s.me v.s.count (length v.store.now) v.s.index v.s.found) (c.read_event-in-Ask.ensures, refl)

pub returns-in-Replay : goal.returns-in-Replay
returns-in-Replay c = let v = c.args in rw (c.in-Replay.is, quiet ties v.s.me v.s.count v.s.index v.s.found v.store.now Replay v.value.now tt) (c.replay.ensures, refl)

pub returns-in-Validate : goal.returns-in-Validate
returns-in-Validate c = let v = c.args in rw (c.in-Validate.is, quiet ties v.s.me v.s.count v.s.index v.s.found v.store.now Validate v.value.now tt) (c.validate.ensures, refl)

pub returns-in-Resend : goal.returns-in-Resend
returns-in-Resend c = let v = c.args in rw (c.in-Resend.is, quiet ties v.s.me v.s.count v.s.index v.s.found v.store.now Resend v.value.now tt) (c.resend.ensures, refl)
