-- A fresh start fills: laws of a list filled from its front, and what an admission comes to.
use mathlib.Core.Path.{◌≡◌, refl, ap, ◌∙◌}
use Prim.Native.Nat.{ℕ, zero, suc, ◌<◌}
use native.Mathlib.Nat.{not-suc-le-zero, le_of_suc-le-suc}
use native.Mathlib.Omega.{arith}
use mathlib.Core.List.{List, [], ◌∷◌, ◌++◌, append-nil}
use lib.ListN.{length, set, replicate, drop}
use lib.Seq.{drop-length}
use Rattle.hermes_record.specs.declared.record.Record.{Record}
use Rattle.hermes.specs.declared.event.Replica.{Replica}
use Rattle.hermes.specs.declared.event.Settings.{Settings}
use Rattle.hermes.specs.Answer.{no}
use Rattle.std.specs.Prelude.{Err}
use Rattle.hermes.specs.Node.{newcomer, admission_of, start_refusal, admit, begin, start}

-- the first i of a list are r, and the others are as they were
module _ {A : Type 0} where
  abbrev pub filled : A → List A → ℕ → List A
  filled r xs i = replicate i r ++ drop i xs

  pub filled-suc : (r : A) (xs : List A) (i : ℕ) → i < length xs → set (filled r xs i) i r ≡ filled r xs (suc i)
  filled-suc r [] i l = absurd (not-suc-le-zero l)
  filled-suc r (x ∷ xs) zero l = refl
  filled-suc r (x ∷ xs) (suc i) l = ap (λ (t : List A). r ∷ t) (filled-suc r xs i (le_of_suc-le-suc l))

  pub filled-all : (r : A) (xs : List A) → filled r xs (length xs) ≡ replicate (length xs) r
  filled-all r xs = ap (λ (l : List A). replicate (length xs) r ++ l) (drop-length xs) ∙ append-nil (replicate (length xs) r)

begins-admission : (k : ℕ) (me : Replica) (table : List Record) (store : List ℕ) → admission_of k me ≡ (begin k me table store).admission
begins-admission zero me table store = refl
begins-admission (suc k) me table store = refl

module _ (number view : ℕ) (settings : Settings) (table : List Record) (store : List ℕ) where
  abbrev first : ℕ
  first = start_refusal number view settings (length table) (length store)

  pub start-admission : admit number view settings (length table) (length store) ≡ (start number view settings table store).admission
  unfolding start
  start-admission = begins-admission first (newcomer number view settings) table store

  -- a refused start leaves the memory as found
  pub start-refused : (k : ℕ) → (start number view settings table store).admission ≡ Err (no k)
      → ((start number view settings table store).table ≡ table) × ((start number view settings table store).store ≡ store)
  unfolding start
  start-refused k a = go first a
    where
      go : (z : ℕ) → (begin z (newcomer number view settings) table store).admission ≡ Err (no k)
          → ((begin z (newcomer number view settings) table store).table ≡ table) × ((begin z (newcomer number view settings) table store).store ≡ store)
      go zero e = absurd (grind arith)
      go (suc z) e = (refl, refl)
