-- The first k bytes have been copied.
use Rattle.std.proofs.Common.{◌≡◌, length}
use Rattle.std.proofs.Math.Seq.{paste}
use Rattle.hermes_record.proofs.bytes.copy.Given as goal

abbrev pub invariant-loop-k : goal.invariant-loop-k
invariant-loop-k l = (l.to ≡ paste l.initial.to 0 l.from l.k) × (length l.to ≡ length l.initial.to)
