-- `export_membership::admission::cetskobi_start` meets its contract.
use mathlib.Core.Path.{sym, ◌∙◌}
use Rattle.export_membership.proofs.Started.{started, not_started}
use Rattle.export_membership.proofs.admission.cetskobi_start.Goals.{then-is_ok, else-is_ok}
use Rattle.export_membership.proofs.admission.cetskobi_start.Goals as goal

pub returns : goal.returns
returns c =
    let v = c.args in
    rw (← c.from-settings.ensures) (elim c.if-is_ok.branch [
      | then-is_ok w ↦ started v.number v.view _ v.table.now v.store.now _ _ c.count-count.ensures c.admit-admission.ensures _ _ _ (cc) _
          (sym c.is_ok.ensures.value ∙ w.if-is_ok.true) w.fresh_record.ensures (w.table-is ∙ w.fill.ensures.bytes) (cc) (w.store-is ∙ w.zero.ensures)
      | else-is_ok w ↦ not_started v.number v.view _ v.table.now v.store.now _ _ c.count-count.ensures c.admit-admission.ensures _ _ _ (cc)
          (sym c.is_ok.ensures.value ∙ w.if-is_ok.false) w.table-is w.store-is
    ])
