-- `play_lines::print::Printer::put_decimal` meets its contract. The digits but the last are printed by the call on a tenth of the number.
use Rattle.std.proofs.Common.{arith}
use Rattle.play_numbers.proofs.Numbers.{decimal-large, decimal-small, length-large, length-small}
use Rattle.play_lines.proofs.Printing.{moved, prints_then}
use Rattle.play_lines.proofs.print.Printer.+put_decimal.Goals as goal

pub put_byte-requires : goal.put_byte-requires
put_byte-requires t c = omega (arith, c.requires, length-small c.args.n c.if-n-lt10.true)

pub returns-then-n-lt10 : goal.returns-then-n-lt10
returns-then-n-lt10 t c = rw (decimal-small c.args.n c.if-n-lt10.true) c.put_byte.ensures

pub put_decimal-requires : goal.put_decimal-requires
put_decimal-requires t c = (omega arith, omega (arith, c.requires, length-large c.args.n c.if-n-lt10.false c.ranges.n.fits))

pub put_byte-requires-2 : goal.put_byte-requires-2
put_byte-requires-2 t c =
    omega (arith, c.requires, length-large c.args.n c.if-n-lt10.false c.ranges.n.fits, moved c.put_decimal.ensures)

pub returns : goal.returns
returns t c = rw (decimal-large c.args.n c.if-n-lt10.false c.ranges.n.fits) (prints_then c.put_decimal.ensures c.put_byte-2.ensures)
