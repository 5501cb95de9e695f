-- `play_lines::print::Printer::put_number` meets its contract.
use Rattle.std.proofs.Common.{arith, length-append}
use Rattle.play_lines.proofs.Printing.{moved, prints_then}
use Rattle.play_lines.proofs.print.Printer.put_number.Goals as goal

pub put_byte-requires : goal.put_byte-requires
put_byte-requires c = omega (arith, simp length-append at c.requires, moved c.put_decimal.ensures)

pub returns : goal.returns
returns c = prints_then c.put_decimal.ensures c.put_byte.ensures
