-- The walk of all entries that are left, and its end.
use Rattle.std.proofs.Common.{sym, ◌∙◌, subst}
use Prim.Native.Nat.{ℕ}
use borrow.Author.Tests.{eq-eqb, ne_eqb}
use Rattle.packet_reader.specs.Walking.{Walked}
use Rattle.packet_reader.proofs.Walking.{walked_all, turned-22}
use Rattle.packet_reader.proofs.walk.walk_on.Goals as goal

pub returns-then-branch-packet : goal.returns-then-branch-packet
returns-then-branch-packet c = sym (walked_all _ _ (subst (λ (n : ℕ). Walked c.args.packet.now n c.in_ok-walk.field-0) c.requires.3 c.in_ok-walk.ensures)) ∙ eq-eqb _ _ c.if-branch-packet.true

pub returns-else-branch-packet : goal.returns-else-branch-packet
returns-else-branch-packet c = turned-22 _ (sym (walked_all _ _ (subst (λ (n : ℕ). Walked c.args.packet.now n c.in_ok-walk.field-0) c.requires.3 c.in_ok-walk.ensures)) ∙ ne_eqb _ _ c.if-branch-packet.false)
