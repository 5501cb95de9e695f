-- `export_arrival::arrival::cetskobi_deliver_packet` meets its contract.
use Rattle.export_arrival.proofs.Arrivals.{found}
use Rattle.export_arrival.proofs.arrival.cetskobi_deliver_packet.Goals as goal

pub returns-in-Ok : goal.returns-in-Ok
returns-in-Ok c = let w = c.args in
    found w.me w.table.now w.store.now w.packet.now w.i _ _ c.from-rule.ensures c.fetch-fetched.ensures _ _ c.in-Ok.is
    _ _ _ c.fields-fields.ensures c.numbers_of.ensures c.body-value.ensures _ _ _ c.cetskobi_deliver.ensures
