-- `replica_reading::asking::ask` meets its contract.
use Rattle.std.proofs.Common.{refl, sym, ◌∙◌}
use Rattle.std.proofs.lemmas.Result.{err_from_is_err_and}
use Rattle.hermes.specs.Event.{moved, ask_stamp, read_step}
use Rattle.hermes.specs.declared.event.Event.TheVariants.{Ask}
use Rattle.replica_outcome.proofs.Outcomes.{accepted, same-record, refused-moved}
use Rattle.replica_reading.proofs.asking.ask.Goals as goal

pub returns-in_err-r : goal.returns-in_err-r
unfolding moved
returns-in_err-r c = let v = c.args in
    let p = err_from_is_err_and c.from_residual.result c.from_residual.ensures.1 in
    rw (p.1, p.2) (rw (refused-moved v.s.me v.s.count v.bytes v.s.index v.s.found Ask 0 c.in_err-r.field-0.0 (read_step v.s.found) (sym c.asks.ensures ∙ c.in_err-r.was)))

pub returns : goal.returns
unfolding moved ask_stamp
returns c = let v = c.args in
    let yes = sym c.asks.ensures ∙ c.in_ok-r.was in
    rw (accepted v.s.me v.s.count v.bytes v.s.index v.s.found Ask 0 c.in_ok-r.r yes, same-record v.s.me v.s.count v.bytes v.s.index v.s.found Ask 0 c.in_ok-r.r yes) refl
