-- `export_delivery::delivery::deliver` meets its contract.
use Rattle.std.proofs.Common.{rules, refl, inl, inr}
use Rattle.export_delivery.proofs.Arriving.{stored_done, kept_done}
use Rattle.export_delivery.proofs.delivery.deliver.Goals as goal

pub returns-in-Inv : goal.returns-in-Inv
returns-in-Inv c = stored_done _ _ _ _ _ _ _ _ _ _ c.storing.ensures c.args.m (λ s b p. search rules) (λ s d p. search rules)

pub returns-in-Ack : goal.returns-in-Ack
returns-in-Ack c = kept_done _ _ _ _ _ _ _ c.quiet.ensures _ c.args.m _ (inl (c.in-Ack.field-0, c.in-Ack.is)) refl (λ s d p. search rules)

pub returns-in-Val : goal.returns-in-Val
returns-in-Val c = kept_done _ _ _ _ _ _ _ c.quiet-in-Val.ensures _ c.args.m _ (inr (c.in-Val.field-0, c.in-Val.is)) refl (λ s d p. search rules)
