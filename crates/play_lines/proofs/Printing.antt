-- One run of bytes after another is one run, and no answer line is longer than 25 bytes.
use mathlib.Core.Path.{◌≡◌, refl, sym, ap, ◌∙◌}
use mathlib.Core.Bool.{Bool, true, false}
use mathlib.Core.List.{List, [], ◌∷◌, ◌++◌}
use Prim.Native.Nat.{ℕ, suc, ◌+◌, ◌/◌, ◌≤◌, ◌<◌}
use native.Mathlib.Nat.{add-zero}
use native.Mathlib.Omega.{arith}
use borrow.Author.Tests.{ltb-true, ltb-false, le-leb}
use lib.Dec.{ltb, leb}
use lib.ListN.{length, set, length-append}
use lib.Seq.{sets, length-sets}
use Rattle.play_numbers.specs.Number.{decimal}
use Rattle.play_numbers.proofs.Numbers.{length-small, length-large, length-decimal}
use Rattle.hermes_record.specs.declared.record.Record.{Record}
use Rattle.std.specs.Prelude.{Option, None, Some}
use Rattle.play_lines.specs.Print.{Put, fitting, Prints, left_of, answer_line}
use Rattle.play_lines.specs.declared.print.Printer.{Printer}

pub sets-append-at : (d : List ℕ) (at n : ℕ) (a b : List ℕ) → n ≡ at + length a → sets (sets d at a) n b ≡ sets d at (a ++ b)
sets-append-at d at n [] b e = ap (λ (n : ℕ). sets d n b) (e ∙ add-zero at)
sets-append-at d at n (x ∷ a) b e = sets-append-at (set d at x) (suc at) n a b (omega arith)

-- the output keeps its length
pub put-length : {bytes out out' : List ℕ} {at to : ℕ} → Put bytes at out to out' → length out' ≡ length out
put-length {bytes} {out} {out'} {at} p = ap length p.text ∙ length-sets out at bytes

pub put_then : {a b out mid out' : List ℕ} {at n to : ℕ} → Put a at out n mid → Put b n mid to out' → Put (a ++ b) at out to out'
put_then {a} {b} {out} {mid} {out'} {at} {n} {to} p q = record {
  end = omega (arith, p.end, q.end, length-append a b);
  text = q.text ∙ ap (λ (o : List ℕ). sets o n b) p.text ∙ sets-append-at out at n a b p.end;
}

pub prints_then : {a b : List ℕ} {p q r : Printer} → Prints a p q → Prints b q r → Prints (a ++ b) p r
prints_then x y = record { put = put_then x.put y.put; same = y.same ∙ x.same }

-- what a printer printed moves it on, and its output keeps its length
pub moved : {a : List ℕ} {p q : Printer} → Prints a p q → (q.at ≡ p.at + length a) × (length q.out.now ≡ length p.out.now)
moved x = (x.put.end, put-length x.put)

-- ---- room for a line

module _ (need : ℕ) (p : Printer) (line : List ℕ) where
  -- with no room nothing is printed
  pub none-put : leb (p.at + need) (length p.out.now) ≡ false → Prints (fitting need p.at (length p.out.now) line) p p
  none-put e = rw e (record { put = record { end = sym (add-zero p.at); text = refl }; same = refl })

  -- with room the line is what is printed
  pub put-fitting : {q : Printer} → p.at + need ≤ length p.out.now → Prints line p q → Prints (fitting need p.at (length p.out.now) line) p q
  put-fitting h x = rw (le-leb (p.at + need) (length p.out.now) h) x

  pub put_all : {q : Printer} → p.at + need ≤ length p.out.now → Prints (fitting need p.at (length p.out.now) line) p q → Prints line p q
  put_all h x = rw (le-leb (p.at + need) (length p.out.now) h) at x

-- ---- room

-- a number below 1,000 has at most three digits
pub number_short : (n : ℕ) → n < 1000 → length (decimal n) ≤ 3
number_short n h = one (ltb n 10) refl
  where
    two : (t : Bool) → ltb (n / 10) 10 ≡ t → 10 ≤ n → length (decimal n) ≤ 3
    two true e l = omega (arith, length-large n l (omega arith), length-small (n / 10) (ltb-true (n / 10) 10 e))
    two false e l = omega (arith, length-large n l (omega arith), length-large (n / 10) (ltb-false (n / 10) 10 e) (omega arith), length-small (n / 10 / 10) (omega arith))

    one : (t : Bool) → ltb n 10 ≡ t → length (decimal n) ≤ 3
    one true e = omega (arith, length-small n (ltb-true n 10 e))
    one false e = two (ltb (n / 10) 10) refl (ltb-false n 10 e)

-- a log number is below 256
abbrev pub Low : Option ℕ → Type 0
Low (Some k) = k < 256
Low None = Unit

left-short : (l : Option ℕ) → Low l → length (left_of l ++ (10 ∷ [])) ≤ 4
left-short (Some k) h = omega (arith, length-append (decimal k) (10 ∷ []), number_short k (omega arith))
left-short None h = omega arith

pub answer-short : (number : ℕ) (r : Record) (l : Option ℕ) → number < 256 → r.timestamp.tie < 256 → Low l → length (answer_line number r l) ≤ 25
unfolding answer_line
answer-short number r l h t k =
    simp length-append
    (omega (arith, number_short number (omega arith), number_short r.timestamp.tie (omega arith), length-decimal r.timestamp.version, simp length-append at (left-short l k)))

-- the words of an answer line
pub whole : (number : ℕ) (r : Record) (l : Option ℕ)
    → length (answer_line number r l) ≡ length (decimal number) + 1 + 2 + (length (decimal r.timestamp.version) + 1) + (length (decimal r.timestamp.tie) + 1) + (length (left_of l) + 1)
unfolding answer_line
whole number r l = simp length-append (omega arith)
