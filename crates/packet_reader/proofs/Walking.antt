-- The walk of the contents table, turn by turn.
use mathlib.Core.Path.{◌≡◌, sym, ◌∙◌}
use mathlib.Core.Bool.{true, false, ◌&&◌}
use mathlib.Core.List.{List}
use Prim.Native.Nat.{ℕ, ◌+◌, ◌-◌, ◌≤◌, ◌<◌}
use native.Mathlib.Omega.{arith}
use lib.Dec.{eqb}
use lib.ListN.{length, take, drop}
use Rattle.std.proofs.lemmas.Bool.{and_parts}
use Rattle.packet_format.specs.declared.entry.Fields.{Fields}
use Rattle.packet_format.specs.Entry.{fields_of, good}
use Rattle.packet_format.specs.Reading.{count_of, entry_place, question20, question22}
use Rattle.hermes_record.specs.declared.timestamp.Rule.{Rule}
use Rattle.hermes.specs.Answer.{no}
use Rattle.packet_format.proofs.Reading.{header, turn, walk-done, fetch-22}
use Rattle.packet_format.proofs.Accepting.{accept-22}
use Rattle.packet_format.proofs.Entries.{good-parts}
use Rattle.packet_reader.specs.Opening.{Passed, Turned}
use Rattle.packet_reader.specs.Walking.{Table, Walked}

-- entry k, read from the part that begins at its place
module _ (p : List ℕ) (k at : ℕ) (w : Walked p k at) (more : k < count_of p) (f : Fields) (reads : f ≡ fields_of (take (length p - entry_place k) (drop (entry_place k) p))) where
  -- it is as question 22 asks
  pub walked_more : true ≡ (good f && eqb f.offset at) → Walked p (k + 1) (at + f.len)
  walked_more fits =
      let g = good-parts f (and_parts (good f) (eqb f.offset at) (sym fits)).0 in
      record {
        below = omega arith;
        small = omega (arith, w.small, g.len);
        rest = w.rest ∙ turn p (count_of p) k at (length p) f true more reads fits;
      }

  -- it is not
  pub walked-bad : false ≡ (good f && eqb f.offset at) → (question22 p).yes ≡ false
  walked-bad unfit = w.rest ∙ turn p (count_of p) k at (length p) f false more reads unfit

-- the same walk, where the code gives its numbers other names
pub walked_at : (p : List ℕ) (k at : ℕ) → Walked p k at → (k' at' : ℕ) → k' ≡ k → at' ≡ at → Walked p k' at'
walked_at p k at w k' at' e e' = rw (e, e') w

-- behind the last entry: the last body ends at the total, or not
pub walked_all : (p : List ℕ) (at : ℕ) → Walked p (count_of p) at → eqb at (length p) ≡ (question22 p).yes
walked_all p at w = sym (w.rest ∙ walk-done (count_of p - count_of p) (drop (entry_place (count_of p)) p) at (length p) (omega arith))

-- a packet that the first two questions let pass
pub table : (p : List ℕ) → (question20 p).yes ≡ true → entry_place (count_of p) ≤ length p → Table p
table p a b = record { few = (header p a).few; whole = b }

-- what a no of question 22 comes to
pub turned-22 : (p : List ℕ) → (question22 p).yes ≡ false → (rule : Rule) → Passed rule p → Turned rule p (no 22)
turned-22 p bad rule w = record { fetching = λ i. fetch-22 rule p i w.header w.own w.whole bad; accepting = accept-22 rule p w.header w.own w.whole bad }
