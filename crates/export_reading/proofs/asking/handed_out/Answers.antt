-- `export_reading::asking::handed_out` meets its contract.
use Rattle.std.specs.Prelude.{refl}
use Rattle.std.proofs.Common.{ap}
use Rattle.std.proofs.lemmas.Result.{err_from_is_err_and}
use Rattle.export_calls.proofs.Beginnings.{refused-by}
use Rattle.export_reading.specs.Reading.{found_by}
use Rattle.export_reading.proofs.Readings.{refuses, ask-refused, ask-accepted, ask_done}
use Rattle.export_calls.specs.Calls.{node_of}
use Rattle.hermes.specs.declared.event.Event.TheVariants.{Read}
use Rattle.export_reading.proofs.asking.handed_out.Goals as goal

pub returns-in_err-s : goal.returns-in_err-s
returns-in_err-s c = let w = c.args in
    let p = err_from_is_err_and c.from_residual.result c.from_residual.ensures.1 in
    let (said, l) = refused-by w.me w.table.now w.store.now w.i _ _ _ refl c.subject.ensures.begins (ap found_by c.in_err-s.was) Read 0 in
    let h = refuses (node_of w.me w.table.now w.store.now) w.i _ said l in
    rw (p.1, p.2) (ask_done _ _ _ _ h.reading h.stamp)

pub returns-in_err-t : goal.returns-in_err-t
returns-in_err-t c = let w = c.args in
    let p = err_from_is_err_and c.from_residual-in_err-t.result c.from_residual-in_err-t.ensures.1 in
    let h = ask-refused w.me w.table.now w.store.now w.i c.in_ok-s.s c.in_ok-s.ensures.whole c.in_ok-s.ensures.begins _ c.ask.ensures _ c.in_err-t.was in
    rw (p.1, p.2) (ask_done _ _ _ _ h.reading h.stamp)

pub returns : goal.returns
returns c = let w = c.args in
    let h = ask-accepted w.me w.table.now w.store.now w.i c.in_ok-s.s c.in_ok-s.ensures.whole c.in_ok-s.ensures.begins _ c.ask.ensures _ c.in_ok-t.was in
    ask_done _ _ _ _ h.0 h.1
