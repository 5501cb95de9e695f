-- `start` meets its contract: a refused one changes nothing, an admitted one fills the table and zeroes the store.
use Rattle.std.proofs.Common.{rules, ◌≡◌, length, replicate, sym, ap, ◌∙◌}
use Rattle.std.proofs.lemmas.Result.{err_from_is_err_and}
use Rattle.hermes.proofs.Filling.{start-admission, start-refused}
use Rattle.replica_start.proofs.Starting.{start-admitted}
use Rattle.replica_start.proofs.start.Goals as goal

pub returns-in_err-me : goal.returns-in_err-me
returns-in_err-me c =
    let a = c.args in
    let p = err_from_is_err_and c.from_residual.result c.from_residual.ensures.1 in
    let no = sym (start-admission a.number a.view a.settings a.table.now a.store.now) ∙ sym c.admit.ensures ∙ c.in_err-me.was in
    let stays = start-refused a.number a.view a.settings a.table.now a.store.now c.in_err-me.field-0.0.0 no in
    rw (p.1, p.2) (sym no, (sym stays.0, sym stays.1))

pub returns : goal.returns
returns c =
    let a = c.args in
    let yes = sym (start-admission a.number a.view a.settings a.table.now a.store.now) ∙ sym c.admit.ensures ∙ c.in_ok-me.was in
    let fills = start-admitted a.number a.view a.settings a.table.now a.store.now c.in_ok-me.me yes in
    let full : c.fill.new.self ≡ replicate (length a.table.now) c.fresh_record.result = c.fill.ensures.after (λ y h. search rules) in
    (sym yes, (full ∙ ap (replicate (length a.table.now)) c.fresh_record.ensures ∙ sym fills.0, c.zero.ensures ∙ sym fills.1))
