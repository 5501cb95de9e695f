-- `replica_delivery::delivery::deliver` meets its contract.
use Rattle.std.proofs.Common.{sym, ◌∙◌}
use Rattle.replica_delivery.proofs.Deliveries.{same-moved, is-stored, is-kept}
use Rattle.replica_delivery.proofs.delivery.deliver.Goals as goal

pub returns-then-stores : goal.returns-then-stores
returns-then-stores c = let v = c.args in (
  c.move_message-moved.ensures ∙ same-moved v.s.me v.s.count v.s.index v.s.found v.store.now v.m v.value.now,
  c.stored.ensures ∙ is-stored v.s.me v.s.count v.s.index v.s.found v.store.now v.m v.value.now (sym c.stores.ensures ∙ c.if-stores.true) _ c.move_message-moved.ensures,
)

pub returns-else-stores : goal.returns-else-stores
returns-else-stores c = let v = c.args in (
  c.move_message-moved.ensures ∙ same-moved v.s.me v.s.count v.s.index v.s.found v.store.now v.m v.value.now,
  is-kept v.s.me v.s.count v.s.index v.s.found v.store.now v.m v.value.now (sym c.stores.ensures ∙ c.if-stores.false),
)
