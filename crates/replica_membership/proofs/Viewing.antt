-- What a change of view leaves unasked of question 1: who is in the view has a number below 16, and what a set of two lies within is of two itself.
use Rattle.std.specs.Prelude.{ℕ, ◌≤◌, ◌≡◌, Bool, true, false, cond, ◌&&◌, leb, ltb}
use Rattle.std.proofs.Common.{arith}
use borrow.Author.Tests.{leb-true, le-leb}
use Rattle.hermes_record.specs.Members.{has, size, within}
use Rattle.hermes.proofs.Members.{has-small, within-members}
use Rattle.hermes.proofs.Words.{count-le}
use mathlib.Core.Bool.{false≢true}
use mathlib.Core.Path.{refl}
use Rattle.hermes.specs.declared.event.Replica.{Replica}
use Rattle.hermes.specs.Guards.{first_no}
use Rattle.hermes.specs.Node.{view_questions}

-- a set has no fewer than one that lies within it
pub size_within : (a b : ℕ) → within a b ≡ true → size a ≤ size b
unfolding size
size_within a b h = count-le 16 (has a) (has b) (within-members a b h)

pub small : (s n : ℕ) → has s n ≡ true → leb n 15 ≡ true
small s n h = le-leb n 15 (omega (arith, has-small s n h))

pub plural : (a b : ℕ) → within a b ≡ true → leb 2 (size a) ≡ true → leb 2 (size b) ≡ true
plural a b h k = le-leb 2 (size b) (omega (arith, size_within a b h, leb-true 2 (size a) k))

pub ruleset members = (small, plural)

-- the first no to a change of view, by the tests in the order in which they are made: a number that is in the view is at most 15, and a view that a
-- plural set lies within is plural
pub first-no : (me : Replica) (epoch set : ℕ) → first_no (view_questions me epoch set) ≡ cond (has me.view me.number) (cond (ltb me.epoch epoch) (cond (within set me.view && leb 2 (size set)) 0 (cond (leb 2 (size me.view)) 19 1)) (cond (leb 2 (size me.view)) 18 1)) (cond (leb me.number 15) (cond (leb 2 (size me.view)) 3 1) 1)
first-no me epoch set =
    go (has me.view me.number) (ltb me.epoch epoch) (within set me.view) (leb 2 (size set)) (leb me.number 15) (leb 2 (size me.view)) (small me.view me.number) (plural set me.view)
  where
    go : (own later inside two low many : Bool) → (own ≡ true → low ≡ true) → (inside ≡ true → two ≡ true → many ≡ true)
        → ◌≡◌ {A = ℕ} (cond (low && many) (cond own (cond later (cond (inside && two) 0 19) 18) 3) 1) (cond own (cond later (cond (inside && two) 0 (cond many 19 1)) (cond many 18 1)) (cond low (cond many 3 1) 1))
    go false l i t true true f g = refl
    go false l i t true false f g = refl
    go false l i t false m f g = refl
    go true l i t false m f g = absurd (false≢true (f refl))
    go true false i t true true f g = refl
    go true false i t true false f g = refl
    go true true false t true true f g = refl
    go true true false t true false f g = refl
    go true true true false true true f g = refl
    go true true true false true false f g = refl
    go true true true true true true f g = refl
    go true true true true true false f g = absurd (false≢true (g refl refl))
