-- `play_lines::print::Printer::put_left` meets its contract.
use Rattle.std.proofs.Common.{arith, length-append}
use Rattle.play_lines.proofs.Printing.{moved, prints_then}
use Rattle.play_lines.proofs.print.Printer.put_left.Goals as goal
use Rattle.play_lines.proofs.print.Printer.put_left.Goals.{in-Some, in-None}

pub put_byte-requires-2 : goal.put_byte-requires-2
put_byte-requires-2 c =
    elim c.match-left.branch [
      | in-Some w ↦ rw w.self-is (omega (arith, rw w.in-Some.is at (simp length-append at c.requires), moved w.put_decimal.ensures))
      | in-None w ↦ rw w.self-is (omega (arith, rw w.in-None.is at (simp length-append at c.requires), moved w.put_byte.ensures))
    ]

pub returns : goal.returns
returns c =
    elim c.match-left.branch [
      | in-Some w ↦ rw w.in-Some.is (prints_then w.put_decimal.ensures (rw w.self-is at c.put_byte-2.ensures))
      | in-None w ↦ rw w.in-None.is (prints_then w.put_byte.ensures (rw w.self-is at c.put_byte-2.ensures))
    ]
