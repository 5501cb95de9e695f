-- A refused packet's no ends the delivery, and nothing changes; of another the event has the receipt's outcome.
use Rattle.std.proofs.Common.{◌≡◌, ap, ◌∙◌, Err, Ok}
use Rattle.std.proofs.lemmas.Result.{err_from_is_err_and}
use Rattle.hermes_record.specs.Order.{ties}
use Rattle.hermes.specs.Node.{Outcome, lent, apply}
use Rattle.packet_format.specs.Reading.{fetched}
use Rattle.packet_event.specs.Arrival.{receipt}
use Rattle.packet_table.proofs.Receipt.{met}
use Rattle.packet_table.proofs.receive.Goals as goal

pub returns-in_err-arriving : goal.returns-in_err-arriving
unfolding receipt
returns-in_err-arriving c =
    let a = c.args in
    let o = met ties (lent a.me a.table.now a.store.now) a.bytes.now (fetched a.me.settings.rule a.bytes.now a.i) (Err c.in_err-arriving.field-0.0) c.in_err-arriving.ensures in
    let p = err_from_is_err_and c.from_residual.result c.from_residual.ensures.1 in
    rw (p.1, p.2) (ap (λ (x : Outcome). x.answer) o, (ap (λ (x : Outcome). x.node.table) o, ap (λ (x : Outcome). x.node.store) o))

pub returns : goal.returns
unfolding receipt
returns c =
    let a = c.args in
    let o = met ties (lent a.me a.table.now a.store.now) a.bytes.now (fetched a.me.settings.rule a.bytes.now a.i) (Ok c.in_ok-arriving.arriving) c.in_ok-arriving.ensures in
    let goes : ◌≡◌ {A = Outcome} (apply ties (lent a.me a.table.now a.store.now) c.in_ok-arriving.arriving.index c.in_ok-arriving.arriving.event c.body-value.result.now) _ =
    ap (apply ties (lent a.me a.table.now a.store.now) c.in_ok-arriving.arriving.index c.in_ok-arriving.arriving.event) c.body-value.ensures ∙ o in
    let (answer, (table, store)) = c.apply.ensures in
    (answer ∙ ap (λ (x : Outcome). x.answer) goes, (table ∙ ap (λ (x : Outcome). x.node.table) goes, store ∙ ap (λ (x : Outcome). x.node.store) goes))
