-- `export_records::reading::bytes_of` meets its contract.
use Rattle.export_records.proofs.Lent.{lent_chunk}
use native.Mathlib.Omega.{arith}
use Rattle.export_records.proofs.reading.bytes_of.Goals as goal

pub returns : goal.returns
returns c =
    lent_chunk c.args.table.now c.args.i _ _ c.as_chunks.ensures.front c.as_chunks.ensures.front_len (omega arith) c.get.ensures.lookup
