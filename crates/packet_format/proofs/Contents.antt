-- The contents table there and back, and the bodies behind it.
use mathlib.Core.Path.{◌≡◌, refl, sym, ap, ◌∙◌}
use mathlib.Core.Bool.{true, ◌&&◌}
use mathlib.Core.List.{List, [], ◌∷◌, ◌++◌, append_assoc}
use Prim.Native.Nat.{ℕ, zero, suc, ◌+◌, ◌*◌, ◌≤◌, ◌<◌}
use native.Mathlib.Nat.{add-zero, add_assoc, not-suc-le-zero, le_of_suc-le-suc}
use native.Mathlib.Omega.{arith}
use borrow.Author.Tests.{eq-eqb, eqb-true}
use lib.Dec.{eqb}
use lib.ListN.{length, take, drop, get_or, length-drop, length-append}
use lib.Seq.{drop-drop, get_or-drop}
use Rattle.hermes.specs.Store.{Bytes}
use Rattle.packet_format.specs.declared.entry.Entry.{Entry}
use Rattle.packet_format.specs.declared.entry.Fields.{Fields}
use Rattle.packet_format.specs.Entry.{fields_of, entry_bytes, entry_of, fields_for, entries_of, good, no_entry}
use Rattle.packet_format.specs.Reading.{walk}
use Rattle.packet_format.specs.Writing.{summed, contents, all_good}
use Rattle.std.proofs.lemmas.Bool.{and_parts}
use Rattle.packet_format.proofs.Entries.{fields_back, drop-entry, length-entry, bytes_back, good-parts, good-offset, message-back}

pub length-contents : (es : List Entry) (at : ℕ) → length (contents at es) ≡ 16 * length es
unfolding contents
length-contents [] at = refl
length-contents (e ∷ es) at =
    let a = length-append (entry_bytes (fields_for e at)) (contents (at + e.len) es) in
    let b = length-entry (fields_for e at) in
    let h = length-contents es (at + e.len) in
    omega arith

pub length-entries : (n : ℕ) (q : List ℕ) → length (entries_of n q) ≡ n
unfolding entries_of
length-entries zero q = refl
length-entries (suc n) q = ap suc (length-entries n (drop 16 q))

pub bytes_drop : (n : ℕ) (q : List ℕ) → Bytes q → Bytes (drop n q)
bytes_drop n q b i = rw get_or-drop (b (n + i))

pub sixteen : (n : ℕ) (q : List ℕ) → drop (16 * suc n) q ≡ drop (16 * n) (drop 16 q)
sixteen n q = let e : 16 * suc n ≡ 16 + 16 * n = omega arith in ap (λ (k : ℕ). drop k q) e ∙ sym (drop-drop (16 * n) 16 q)

-- ---- what is written is read

-- the table's front: the first entry, then the rest
front : (e : Entry) (es : List Entry) (at : ℕ) (rest : List ℕ) → contents at (e ∷ es) ++ rest ≡ entry_bytes (fields_for e at) ++ (contents (at + e.len) es ++ rest)
unfolding contents
front e es at rest = append_assoc (entry_bytes (fields_for e at)) (contents (at + e.len) es) rest

-- a written table passes the walk
pub walk-contents : (es : List Entry) (at : ℕ) (rest : List ℕ) → all_good es ≡ true
    → walk (length es) (contents at es ++ rest) at (at + summed es) ≡ true
unfolding walk summed all_good
walk-contents [] at rest g = eq-eqb at (at + 0) (sym (add-zero at))
walk-contents (e ∷ es) at rest g =
    let gs = and_parts (good (fields_for e 0)) (all_good es) g in
    let f = fields_for e at in
    let tail = contents (at + e.len) es ++ rest in
    let total = at + (e.len + summed es) in
    ap (λ (q : List ℕ). walk (suc (length es)) q at total) (front e es at rest)
    ∙ ap (λ (x : Fields). good x && eqb x.offset at && walk (length es) (drop 16 (entry_bytes f ++ tail)) (at + x.len) total)
    (fields_back f tail)
    ∙ rw (good-offset e at 0, gs.0, eq-eqb at at refl, drop-entry f tail, ← add_assoc at e.len (summed es))
    (walk-contents es (at + e.len) rest gs.1)

-- entry i of a written table
pub contents-entry : (es : List Entry) (i at : ℕ) (rest : List ℕ) → i < length es
    → fields_of (drop (16 * i) (contents at es ++ rest)) ≡ fields_for (get_or es i no_entry) (at + summed (take i es))
unfolding summed
contents-entry [] i at rest l = absurd (not-suc-le-zero l)
contents-entry (e ∷ es) zero at rest l =
    ap fields_of (front e es at rest)
    ∙ fields_back (fields_for e at) (contents (at + e.len) es ++ rest)
    ∙ ap (fields_for e) (sym (add-zero at))
contents-entry (e ∷ es) (suc i) at rest l =
    ap fields_of
    (sixteen i (contents at (e ∷ es) ++ rest)
    ∙ ap (λ (q : List ℕ). drop (16 * i) (drop 16 q)) (front e es at rest)
    ∙ ap (drop (16 * i)) (drop-entry (fields_for e at) (contents (at + e.len) es ++ rest)))
    ∙ contents-entry es i (at + e.len) rest (le_of_suc-le-suc l)
    ∙ ap (fields_for (get_or es i no_entry)) (add_assoc at e.len (summed (take i es)))

-- ---- what is read is written

-- a table that passes the walk is the one written of its messages
pub contents-walk : (n : ℕ) (q : List ℕ) (at total : ℕ) → 16 * n ≤ length q → Bytes q → walk n q at total ≡ true
    → (contents at (entries_of n q) ++ drop (16 * n) q ≡ q) × (at + summed (entries_of n q) ≡ total) × (all_good (entries_of n q) ≡ true)
unfolding walk contents summed all_good entries_of
contents-walk zero q at total h b w = (refl, add-zero at ∙ eqb-true at total w, refl)
contents-walk (suc n) q at total h b w =
    let f = fields_of q in
    let e = entry_of f in
    let es = entries_of n (drop 16 q) in
    let s1 = and_parts (good f && eqb f.offset at) (walk n (drop 16 q) (at + f.len) total) w in
    let s2 = and_parts (good f) (eqb f.offset at) s1.0 in
    let g = good-parts f s2.0 in
    let same : fields_for e at ≡ f = message-back f at g.kind (eqb-true f.offset at s2.1) in
    let r = contents-walk n (drop 16 q) (at + f.len) total (simp length-drop (omega arith)) (bytes_drop 16 q b) s1.1 in (
      append_assoc (entry_bytes (fields_for e at)) (contents (at + f.len) es) (drop (16 * suc n) q)
          ∙ ap (λ (l : List ℕ). entry_bytes (fields_for e at) ++ l) (ap (λ (l : List ℕ). contents (at + f.len) es ++ l) (sixteen n q) ∙ r.0)
          ∙ ap (λ (x : Fields). entry_bytes x ++ drop 16 q) same
          ∙ bytes_back q (omega arith) b,
      sym (add_assoc at f.len (summed es)) ∙ r.1,
      rw (good-offset e 0 at ∙ ap good same ∙ s2.0) r.2,
    )
