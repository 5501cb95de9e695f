-- The answer of a write from its two questions.
use mathlib.Core.Path.{◌≡◌, refl, ap, sym, ◌∙◌}
use mathlib.Core.Bool.{Bool, true, false, cond}
use mathlib.Core.Logic.{◌⊎◌}
use mathlib.Core.List.{List}
use Prim.Native.Nat.{ℕ, ◌≤◌, ◌<◌}
use borrow.Author.Tests.{eq-eqb, ne_eqb, le-leb, lt-leb}
use lib.ListN.{length}
use Rattle.packet_format.specs.declared.entry.Entry.{Entry}
use Rattle.hermes.specs.Answer.{no}
use Rattle.std.specs.Prelude.{Err, Ok, Option, Some, None}
use Rattle.packet_format.specs.Writing.{summed, total_of, all_good, question24, question25, write_refusal, packet_written}
use Rattle.packet_format.proofs.Writing.{accepted}
use Rattle.packet_contents.proofs.Tables.{crowded}
use Rattle.packet_question.specs.Asking.{asked}

-- what the first loop's answer tells
pub passed : (es : List Entry) (sum : ℕ) → Some sum ≡ asked es → (all_good es ≡ true) × (summed es ≡ sum)
unfolding asked
passed es sum h = go (all_good es) refl h
  where
    go : (b : Bool) → all_good es ≡ b → Some sum ≡ cond b (Some (summed es)) None → (all_good es ≡ true) × (summed es ≡ sum)
    go true e q = (e, cc)
    go false e q = cc

pub refused : (es : List Entry) → ◌≡◌ {A = Option ℕ} None (asked es) → all_good es ≡ false
unfolding asked
refused es h = go (all_good es) refl h
  where
    go : (b : Bool) → all_good es ≡ b → ◌≡◌ {A = Option ℕ} None (cond b (Some (summed es)) None) → all_good es ≡ false
    go true e q = cc
    go false e q = e

module _ (es : List Entry) (bodies : List ℕ) (room : ℕ) where
  refused-24 : (question24 es bodies).yes ≡ false → Err (no 24) ≡ packet_written es bodies room
  unfolding packet_written write_refusal
  refused-24 a = simp a

  pub empty : length es < 1 → Err (no 24) ≡ packet_written es bodies room
  empty h = refused-24 (simp (lt-leb 1 (length es) h))

  module _ (a : 1 ≤ length es) (b : length es ≤ 64) where
    pub bad : all_good es ≡ false → Err (no 24) ≡ packet_written es bodies room
    bad g = refused-24 (simp (le-leb _ _ a, le-leb _ _ b, g))

    module _ (g : all_good es ≡ true) where
      pub uneven : (summed es ≡ length bodies → ⊥) → Err (no 24) ≡ packet_written es bodies room
      uneven n = refused-24 (simp (le-leb _ _ a, le-leb _ _ b, g, ne_eqb _ _ n))

      module _ (e : summed es ≡ length bodies) (total : ℕ) (t : total ≡ total_of (length es) bodies) where
        refused-25 : (question25 (length es) bodies room).yes ≡ false → Err (no 25) ≡ packet_written es bodies room
        unfolding packet_written write_refusal
        refused-25 q = simp (le-leb _ _ a, le-leb _ _ b, g, eq-eqb _ _ e, q)

        pub unroomy : (1400 < total) ⊎ (room < total) → Err (no 25) ≡ packet_written es bodies room
        unroomy h = refused-25 (rw (← t) (crowded total room h))

        pub written-whole : total ≤ 1400 → total ≤ room → Ok total ≡ packet_written es bodies room
        written-whole s f =
            ap Ok t
            ∙ sym
            (accepted es bodies room
            (record { some = a; few = b; good = g; exact = e; short = rw t at s; fits = rw t at f }))
