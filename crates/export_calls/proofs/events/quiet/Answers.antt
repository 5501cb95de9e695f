-- `export_calls::events::quiet` meets its contract.
use Rattle.export_calls.proofs.Beginnings.{refused-done}
use Rattle.export_calls.proofs.Ends.{taken_here, done}
use Rattle.export_calls.proofs.events.quiet.Goals as goal

pub returns-in-Ok : goal.returns-in-Ok
returns-in-Ok g c = let w = c.args in
    let here = taken_here w.me w.table.now w.bytes w.i _ _ _ _ c.from-me.ensures c.count-count.ensures c.begin.ensures c.in-Ok.is in
    record { done = λ store e v l moves. done w.me w.table.now w.i _ _ _ here store e v _ _ _ _ (moves _ _ (rw l c.step-m.ensures)) c.finish.ensures }

pub returns-in-Err : goal.returns-in-Err
returns-in-Err g c = let w = c.args in
    record { done = λ store e v l moves. refused-done w.me w.table.now store w.i _ _ _ c.from-me.ensures (rw l c.begin.ensures) c.in-Err.is e v _ c.into.ensures }
