-- `play_lines::print::Printer::put_decimal` ends: the digits but the last are printed by the call on a tenth of the number, which is smaller.
use Rattle.play_lines.proofs.print.Printer.+put_decimal.Given as goal

abbrev pub decreases-put_decimal : goal.decreases-put_decimal
decreases-put_decimal l = l.n
