use borrow.Author.Tests.{lt-ltb, le-ltb}
use native.Mathlib.Omega.{arith}
use native.Mathlib.Nat.{one-mul}
use lib.Dec.{lit<}
use lib.Pow.{shl_exact}
use Rattle.hermes_record.specs.Members.{with}
use Rattle.hermes_record.proofs.members.with.Goals as goal

pub returns-then-n-le-NUMBER_MAX : goal.returns-then-n-le-NUMBER_MAX
unfolding with
returns-then-n-le-NUMBER_MAX c = rw (lt-ltb c.args.n 16 (omega arith), shl_exact {a = 1} 1 c.args.n 16 (lit< tt) (omega arith), one-mul)

pub returns-else-n-le-NUMBER_MAX : goal.returns-else-n-le-NUMBER_MAX
unfolding with
returns-else-n-le-NUMBER_MAX c = rw (le-ltb c.args.n 16 (omega arith))
