-- A script line by line: what is still to be printed after a line is what its rest prints.
use Rattle.std.proofs.Common.{◌≡◌, ℕ, zero, suc, ◌+◌, ◌-◌, ◌*◌, ◌≤◌, ◌<◌, true, false, leb, leb-true, List, [], ◌∷◌, ◌++◌, length, take, drop, append_assoc, append-nil, drop_of_length-le, refl, sym, ap, ◌∙◌, arith, Option, None, Some}
use native.Mathlib.Nat.{zero-add}
use lib.Seq.{sets, take-nil}
use Rattle.std.proofs.lemmas.Bool.{and_parts}
use Rattle.hermes.specs.Run.{Group}
use Rattle.play_script.specs.Text.{lines}
use Rattle.play_script.specs.Command.{size_of}
use Rattle.play_script.proofs.Words.{size-empty}
use Rattle.play_lines.specs.Print.{Prints}
use Rattle.play_lines.specs.declared.print.Printer.{Printer}
use Rattle.play_lines.proofs.Printing.{moved, prints_then}
use Rattle.play_bounds.specs.declared.bounds.Bounds.{Bounds}
use Rattle.play_bounds.specs.Bounds.{playable, LineAt, BoundsAt}
use Rattle.play_game.specs.declared.cluster.Cluster.{Cluster}
use Rattle.play_game.specs.Play.{turn, after, prints, begun, opened, printed, played_answer, output_of}
use Rattle.play_game.specs.Cluster.{group_of, Turned}

-- ---- one line after another

next-line : (n : ℕ) (g : Group) (input : List ℕ) (pos : ℕ) (b : Bounds) → LineAt input pos b
    → prints n g (lines (drop pos input))
    ≡ (turn n g (take (b.end - pos) (drop pos input))).text ++ prints n (after n g (take (b.end - pos) (drop pos input))) (lines (drop b.next input))
unfolding prints
next-line n g input pos b l = ap (prints n g) l.parts

no_line : (n : ℕ) (g : Group) (input : List ℕ) (pos : ℕ) → length input ≤ pos → prints n g (lines (drop pos input)) ≡ []
unfolding prints lines
no_line n g input pos h = ap (λ (l : List ℕ). prints n g (lines l)) (drop_of_length-le input h)

-- the cluster c and the printer p, at index `pos` of the input: p printed so much, and the lines from there on print the rest of the whole
pub record Halfway (whole input : List ℕ) (start : Printer) (pos : ℕ) (c : Cluster) (p : Printer) : Type 0 where
  pub room : p.at + 25 * (length input - pos) ≤ length p.out.now
  pub done : List ℕ
  pub printed : Prints done start p
  pub rest : whole ≡ done ++ prints c.count (group_of c) (lines (drop pos input))

pub at-start : (input : List ℕ) (pos : ℕ) (c : Cluster) (p : Printer) → p.at + 25 * length input ≤ length p.out.now
    → Halfway (prints c.count (group_of c) (lines (drop pos input))) input p pos c p
at-start input pos c p h = record {
  room = omega arith;
  done = [];
  printed = record { put = record { end = omega arith; text = refl }; same = refl };
  rest = refl;
}

module _ (whole input : List ℕ) (start : Printer) (pos : ℕ) (c : Cluster) (p : Printer) (so : Halfway whole input start pos c p) where
  pub at-line : pos < length input → p.at + 25 ≤ length p.out.now
  at-line h = omega (arith, so.room)

  pub after-line : (b : Bounds) → pos < length input → LineAt input pos b → (c' : Cluster) (q : Printer)
      → Turned (turn c.count (group_of c) (take (b.end - pos) (drop pos input))) c p c' q → Halfway whole input start b.next c' q
  after-line b h l c' q t =
      let text = (turn c.count (group_of c) (take (b.end - pos) (drop pos input))).text in
      record {
        room = omega (arith, so.room, moved t.text, t.brief, l.begins, l.onward);
        done = so.done ++ text;
        printed = prints_then so.printed t.text;
        rest =
            so.rest ∙ ap (λ (x : List ℕ). so.done ++ x) (next-line c.count (group_of c) input pos b l)
            ∙ ap (λ (x : List ℕ). so.done ++ (text ++ x)) (sym (λ i. prints (t.count i) (t.group i) (lines (drop b.next input))))
            ∙ sym (append_assoc so.done text _);
      }

  pub at-end : length input ≤ pos → Prints whole start p
  at-end h = rw (so.rest, no_line c.count (group_of c) input pos h, append-nil) so.printed

-- ---- line one, and the whole

no-first-line : (end next : ℕ) → opened (lines []) ≡ begun (size_of (take end [])) (lines (drop next []))
unfolding lines
no-first-line end zero = ap (λ (z : Option ℕ). begun z []) (sym (ap size_of (take-nil end) ∙ size-empty))
no-first-line end (suc next) = ap (λ (z : Option ℕ). begun z []) (sym (ap size_of (take-nil end) ∙ size-empty))

pub first-line : (input : List ℕ) (b : Bounds) → BoundsAt input 0 b → printed input ≡ begun (size_of (take b.end input)) (lines (drop b.next input))
unfolding printed
first-line [] b h = no-first-line b.end b.next
first-line (x ∷ input) b h =
    let e : b.end - 0 ≡ b.end = omega arith in
    ap opened (h.0 (omega arith)).parts ∙ ap (λ (k : ℕ). begun (size_of (take k (x ∷ input))) (lines (drop b.next (x ∷ input)))) e

-- line one ends inside
pub first-inside : (input : List ℕ) (b : Bounds) → BoundsAt input 0 b → b.end ≤ length input
first-inside [] b h = rw (ap (λ (x : Bounds). x.end) (h.1 (omega arith))) (omega arith)
first-inside (x ∷ input) b h = (h.0 (omega arith)).inside

-- what is refused, and what is played
pub roomy : (input : List ℕ) (room : ℕ) → playable input room ≡ true → (length input ≤ 65536) × (25 * length input + 2 ≤ room)
roomy input room h =
    let s = and_parts (leb (length input) 65536) (leb (25 * length input + 2) room) h in (leb-true _ _ s.0, leb-true _ _ s.1)

module _ (input out : List ℕ) where
  pub unplayed : playable input (length out) ≡ false → (None ≡ played_answer input (length out)) × (out ≡ output_of input out)
  unfolding played_answer output_of
  unplayed h = (rw h, rw h)

  pub all-played : playable input (length out) ≡ true → (text : List ℕ) (p q : Printer) → p.at ≡ 0 → p.out.now ≡ out → printed input ≡ text → Prints text p q
      → (Some q.at ≡ played_answer input (length out)) × (q.out.now ≡ output_of input out)
  unfolding played_answer output_of
  all-played h text p q ea eo e x =
      let to : q.at ≡ length (printed input) = x.put.end ∙ ap (λ (n : ℕ). n + length text) ea ∙ zero-add (length text) ∙ ap length (sym e) in
      (rw h (ap Some to), rw h (x.put.text ∙ (λ i. sets (eo i) (ea i) (sym e i))))
