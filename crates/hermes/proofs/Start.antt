-- What an accepted fresh start leaves.
use Prim.Native.Nat.{ℕ, zero, suc, ◌+◌, ◌*◌, ◌≤◌, ◌<◌}
use mathlib.Core.Path.{◌≡◌, refl, sym, ◌∙◌}
use mathlib.Core.Bool.{Bool, true, false, cond, ◌&&◌, false≢true}
use mathlib.Core.List.{List}
use native.Mathlib.Omega.{arith}
use native.Mathlib.Decide.{ℕ_discrete}
use lib.Dec.{leb, eqb}
use lib.ListN.{length, replicate}
use borrow.Author.Tests.{eqb-true}
use Rattle.hermes_record.specs.declared.record.Record.{Record}
use Rattle.hermes.specs.declared.event.Replica.{Replica}
use Rattle.hermes.specs.declared.event.Settings.{Settings}
use Rattle.std.specs.Prelude.{Ok}
use Rattle.hermes_record.specs.Members.{has, lowest, lowest_from}
use Rattle.hermes_record.specs.Record.{fresh_record}
use Rattle.hermes.specs.Source.{Lowest}
use Rattle.hermes.specs.Guards.{AllYes, question2}
use Rattle.hermes.specs.Node.{newcomer, start_questions, start_refusal, begin, start}
use Rattle.std.proofs.lemmas.Bool.{and_parts}
use Rattle.hermes.proofs.Members.{Has, has-small}
use Rattle.hermes.proofs.Store.{zeros}
use Rattle.hermes.proofs.Guards.{all_yes}

-- question 2: the store's bytes
pub sized : (count bytes : ℕ) → (question2 count bytes).yes ≡ true → bytes ≡ 192 * count
sized count bytes h = eqb-true bytes (192 * count) (and_parts (leb 1 count && leb count 4096) (eqb bytes (192 * count)) h).1

pub record Begun (k view : ℕ) (settings : Settings) (table : List Record) (store : List ℕ) (me : Replica) : Type 0 where
  pub identity : me ≡ newcomer k view settings
  pub table_after : (start k view settings table store).table ≡ replicate (length table) (fresh_record (lowest view))
  pub store_after : (start k view settings table store).store ≡ zeros (length store)
  pub asked : AllYes (start_questions (newcomer k view settings) (length table) (length store))

pub begun : (k view : ℕ) (settings : Settings) (table : List Record) (store : List ℕ) (me : Replica) → (start k view settings table store).admission ≡ Ok me → Begun k view settings table store me
unfolding start
begun k view settings table store me a = go (start_refusal k view settings (length table) (length store)) refl a
  where
    go : (z : ℕ) → start_refusal k view settings (length table) (length store) ≡ z → (begin z (newcomer k view settings) table store).admission ≡ Ok me
        → Begun k view settings table store me
    go zero e a = record {
      identity = cc;
      table_after = rw e;
      store_after = rw e;
      asked = all_yes (start_questions (newcomer k view settings) (length table) (length store)) refl e;
    }
    go (suc z) e a = absurd (grind arith)

-- the lowest number of a view is in it, and is at most any in it
lowest-at : (f k s m : ℕ) → Has s m → k ≤ m → m < k + f → Has s (lowest_from f k s) × (lowest_from f k s ≤ m)
lowest-at zero k s m h l u = absurd (omega arith)
lowest-at (suc f) k s m h l u = go (has s k) refl (λ (d : suc k ≤ m). lowest-at f (suc k) s m h d (omega arith))
  where
    go : (b : Bool) → has s k ≡ b → (suc k ≤ m → Has s (lowest_from f (suc k) s) × (lowest_from f (suc k) s ≤ m))
        → Has s (cond b k (lowest_from f (suc k) s)) × (cond b k (lowest_from f (suc k) s) ≤ m)
    go true e rest = (e, l)
    go false e rest = rest (next (ℕ_discrete k m))
      where
        next : Dec (k ≡ m) → suc k ≤ m
        next (yes q) = absurd (false≢true (sym (rw q at e) ∙ h))
        next (no d) = omega arith

lowest-of : (s m : ℕ) → Has s m → Has s (lowest s) × (lowest s ≤ m)
unfolding lowest
lowest-of s m h = lowest-at 16 0 s m h (omega arith) (omega (arith, has-small s m h))

pub lowest-small : (s m : ℕ) → Has s m → lowest s ≤ 15
lowest-small s m h = omega (arith, has-small s (lowest s) (lowest-of s m h).0)

pub lowest-lowest : (s m : ℕ) → Has s m → Lowest s (lowest s)
lowest-lowest s m h = record { member = (lowest-of s m h).0; least = λ k g. (lowest-of s k g).1 }
