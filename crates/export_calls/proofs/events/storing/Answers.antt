-- `export_calls::events::storing` meets its contract.
use Rattle.std.proofs.Common.{◌∙◌}
use Rattle.export_calls.proofs.Beginnings.{refused-done}
use Rattle.export_calls.proofs.Ends.{taken_here, done}
use Rattle.export_calls.proofs.events.storing.Goals as goal

pub returns-then-taken : goal.returns-then-taken
returns-then-taken g c = let w = c.args in
    let here = taken_here w.me w.table.now _ w.i _ _ _ _ c.from-me.ensures c.count-count.ensures c.begin.ensures c.in-Ok.is in
    record {
      done = λ e stores. let (moves, keeps) = stores _ _ _ c.takes-taken.ensures c.step-m.ensures in
          done w.me w.table.now w.i _ _ _ here w.store.now e w.value.now _ _ _ _ (moves, c.stored.ensures ∙ (rw c.if-taken.true at keeps)) c.finish-answer.ensures;
    }

pub returns-else-taken : goal.returns-else-taken
returns-else-taken g c = let w = c.args in
    let here = taken_here w.me w.table.now _ w.i _ _ _ _ c.from-me.ensures c.count-count.ensures c.begin.ensures c.in-Ok.is in
    record {
      done = λ e stores. let (moves, keeps) = stores _ _ _ c.takes-taken.ensures c.step-m.ensures in
          done w.me w.table.now w.i _ _ _ here w.store.now e w.value.now _ _ _ _ (moves, rw c.if-taken.false at keeps) c.finish.ensures;
    }

pub returns-in-Err : goal.returns-in-Err
returns-in-Err g c = let w = c.args in
    record { done = λ e stores. refused-done w.me w.table.now w.store.now w.i _ _ _ c.from-me.ensures c.begin.ensures c.in-Err.is e w.value.now _ c.into.ensures }
