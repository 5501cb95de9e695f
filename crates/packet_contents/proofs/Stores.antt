-- Runs of stores: one after another they are one run.
use mathlib.Core.Path.{◌≡◌, refl, sym, ap, ◌∙◌}
use mathlib.Core.List.{List, [], ◌∷◌, ◌++◌}
use Prim.Native.Nat.{ℕ, suc, ◌+◌, ◌/◌, ◌%◌, ◌<◌, ◌≤◌}
use native.Mathlib.Nat.{add-zero, add-suc, suc-add}
use native.Mathlib.Omega.{arith}
use lib.ListN.{length, take, drop, set}
use lib.Seq.{sets}
use borrow.Rule.Slice.PartMut.{put_mid}
use Rattle.std.proofs.lemmas.List.{append_assoc}
use Rattle.std.proofs.lemmas.List.Edits.{sets-eq, paste_all}
use Rattle.std.proofs.lemmas.Slice.{put_mid-paste}
use Rattle.packet_format.specs.declared.entry.Fields.{Fields}
use Rattle.packet_format.specs.Bytes.{be}
use Rattle.packet_format.specs.Entry.{entry_bytes}
use Rattle.std.specs.Int.{w16, w32, to_be_bytes}

sets-append : (d : List ℕ) (at : ℕ) (a b : List ℕ) → sets (sets d at a) (at + length a) b ≡ sets d at (a ++ b)
sets-append d at [] b = ap (λ (n : ℕ). sets d n b) (add-zero at)
sets-append d at (x ∷ a) b =
    ap (λ (n : ℕ). sets (sets (set d at x) (suc at) a) n b) (add-suc at (length a) ∙ sym (suc-add at (length a)))
    ∙ sets-append (set d at x) (suc at) a b

-- o holds a from `at` on: with b behind it, a and then b
pub sets_then : (d o : List ℕ) (at n : ℕ) (a b : List ℕ) → o ≡ sets d at a → n ≡ at + length a → sets o n b ≡ sets d at (a ++ b)
sets_then d o at n a b eo en = (λ i. sets (eo i) (en i) b) ∙ sets-append d at a b

-- bytes copied into a part of the output
pub copied : (out part bytes : List ℕ) (at k : ℕ) → part ≡ bytes → k ≡ length bytes → at + k ≤ length out → put_mid at k out part ≡ sets out at bytes
copied out part bytes at k e n h =
    put_mid-paste at k out part bytes (length bytes) e (sym n) (omega arith)
    ∙ paste_all out at bytes (length bytes) (omega arith)
    ∙ sym (append_assoc (take at out) bytes (drop (at + length bytes) out))
    ∙ sym (sets-eq bytes out at (omega arith))

-- the library's bytes of a number are document 01's
pub bytes-2 : (n : ℕ) → n < 65536 → to_be_bytes w16 n ≡ be 2 n
bytes-2 n h =
    let e0 : n / 256 % 256 ≡ n / 256 = omega arith in
    let e1 : n % 256 ≡ n % 256 / 1 = omega arith in
    λ i. e0 i ∷ e1 i ∷ []

pub bytes-4 : (n : ℕ) → n < 4294967296 → to_be_bytes w32 n ≡ be 4 n
bytes-4 n h =
    let e0 : n / 16777216 % 256 ≡ n / 16777216 = omega arith in
    let e1 : n / 65536 % 256 ≡ n % 16777216 / 65536 = omega arith in
    let e2 : n / 256 % 256 ≡ n % 16777216 % 65536 / 256 = omega arith in
    let e3 : n % 256 ≡ n % 16777216 % 65536 % 256 / 1 = omega arith in
    λ i. e0 i ∷ e1 i ∷ e2 i ∷ e3 i ∷ []

-- the eight runs of stores of an entry
pub entry-stores : (d d4 d6 d8 d13 : List ℕ) (at : ℕ) (f : Fields)
    → d4 ≡ sets (set (set d at f.kind) (at + 1) f.sender) (at + 2) (be 4 f.epoch)
    → d6 ≡ sets d4 (at + 6) (be 2 f.index)
    → d8 ≡ sets d6 (at + 8) (be 4 f.version)
    → d13 ≡ sets (set d8 (at + 12) f.tie) (at + 13) (be 2 f.offset)
    → set d13 (at + 15) f.len ≡ sets d at (entry_bytes f)
unfolding entry_bytes
entry-stores d d4 d6 d8 d13 at f e4 e6 e8 e13 =
    let k : List ℕ = f.kind ∷ [] in
    let s : List ℕ = k ++ f.sender ∷ [] in
    let p = s ++ be 4 f.epoch in
    let x = p ++ be 2 f.index in
    let v = x ++ be 4 f.version in
    let t = v ++ f.tie ∷ [] in
    let o = t ++ be 2 f.offset in
    let s2 = sets_then d (set d at f.kind) at (at + 1) k (f.sender ∷ []) refl refl in
    let s4 = e4 ∙ sets_then d (set (set d at f.kind) (at + 1) f.sender) at (at + 2) s (be 4 f.epoch) s2 refl in
    let s6 = e6 ∙ sets_then d d4 at (at + 6) p (be 2 f.index) s4 refl in
    let s8 = e8 ∙ sets_then d d6 at (at + 8) x (be 4 f.version) s6 refl in
    let s12 = sets_then d d8 at (at + 12) v (f.tie ∷ []) s8 refl in
    let s13 = e13 ∙ sets_then d (set d8 (at + 12) f.tie) at (at + 13) t (be 2 f.offset) s12 refl in
    sets_then d d13 at (at + 15) o (f.len ∷ []) s13 refl
