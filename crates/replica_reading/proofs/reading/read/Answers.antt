-- `replica_reading::reading::read` meets its contract.
use Rattle.std.proofs.Common.{length, sym, ◌∙◌}
use Rattle.hermes.specs.Event.{read_part}
use Rattle.hermes.specs.declared.event.Event.TheVariants.{Read}
use Rattle.replica_outcome.proofs.Outcomes.{accepted, refused, same-record, no_part}
use Rattle.replica_reading.proofs.reading.read.Goals as goal

pub returns-in_default : goal.returns-in_default
unfolding read_part
returns-in_default c = let v = c.args in
    let no = refused v.s.me v.s.count (length v.store.now) v.s.index v.s.found Read 0 c.in_default.field-0 (sym c.asks.ensures ∙ c.in_default.is) in
    rw no.0 (no_part _ _ no.1)

pub returns : goal.returns
unfolding read_part
returns c = let v = c.args in
    let yes = sym c.asks.ensures ∙ c.in-Ok.is in
    rw (accepted v.s.me v.s.count (length v.store.now) v.s.index v.s.found Read 0 c.in-Ok.r yes, same-record v.s.me v.s.count (length v.store.now) v.s.index v.s.found Read 0 c.in-Ok.r yes) c.part.ensures
