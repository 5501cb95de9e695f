-- `export_storing::filling::fill` meets its contract.
use Rattle.export_storing.specs.Storing.{fill}
use Rattle.std.proofs.Common.{◌≡◌}
use Rattle.export_storing.proofs.filling.fill.Given as goal

abbrev pub invariant-loop-i : goal.invariant-loop-i
invariant-loop-i l = l.bytes ≡ fill l.i l.initial.bytes l.r
