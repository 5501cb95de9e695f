-- Bytes taken as a record and put back are the same bytes.
use Prim.Native.Nat.{ℕ, zero, suc, ◌+◌, ◌*◌, ◌/◌, ◌%◌, ◌<◌, ◌≤◌}
use mathlib.Core.Path.{◌≡◌, refl, sym, ap, ◌∙◌}
use mathlib.Core.Bool.{Bool, true, false}
use mathlib.Core.List.{List, [], ◌∷◌, ◌++◌}
use native.Mathlib.Nat.{add-suc}
use native.Mathlib.Omega.{arith}
use lib.Dec.{ltb}
use lib.ListN.{length, get_or}
use lib.Seq.{sets, set-get_or}
use borrow.Author.Tests.{le-ltb, ltb-false}
use Rattle.hermes_record.specs.declared.record.Record.{Record}
use Rattle.hermes_record.specs.Record.{code}
use Rattle.hermes.specs.Store.{Bytes}
use Rattle.hermes.specs.Event.{Step, moved_by}
use Rattle.hermes.specs.Node.{record_at}
use Rattle.export_decoding.specs.Decoding.{two, four, state_of, or_unsound, decode, decode_at}
use Rattle.export_records.specs.Layout.{count_of, table_of}
use Rattle.export_storing.specs.Storing.{in_two, in_four, record_bytes, put, bytes_after}
use Rattle.export_storing.specs.Back.{PutBack}
use Rattle.export_records.proofs.Lent.{record-in}
use Rattle.export_storing.proofs.Stores.{settled-in}

code-back : (k : ℕ) → k ≤ 4 → code (state_of k) ≡ k
code-back zero h = refl
code-back (suc zero) h = refl
code-back (suc (suc zero)) h = refl
code-back (suc (suc (suc zero))) h = refl
code-back (suc (suc (suc (suc zero)))) h = refl
code-back (suc (suc (suc (suc (suc k))))) h = absurd (omega arith)

-- the numbers of a record whose length question 5 finds sound come back from it: they have a state
state-known : (s t w ot v ov a l : ℕ) → (decode s t w ot v ov a l).len ≤ 192 → s ≤ 4
unfolding decode
state-known s t w ot v ov a l h = go (ltb 4 s) refl _ h
  where
    go : (b : Bool) → ltb 4 s ≡ b → (r : Record) → (or_unsound b r).len ≤ 192 → s ≤ 4
    go true e r g = absurd (omega arith)
    go false e r g = ltb-false 4 s e

encode-decode : (s t w ot v ov a l : ℕ) → s ≤ 4
    → record_bytes (decode s t w ot v ov a l) ≡ s ∷ t ∷ w ∷ ot ∷ (in_four v ++ (in_four ov ++ (in_two a ++ (l ∷ []))))
unfolding decode
encode-decode s t w ot v ov a l h = simp (le-ltb 4 s h, code-back s h)

-- bytes come back from the number that they spell
in_two-two : (a b : ℕ) → a < 256 → in_two (two a b) ≡ a ∷ b ∷ []
in_two-two a b ha =
    let e0 : two a b % 256 ≡ a = omega arith in
    let e1 : two a b / 256 ≡ b = omega arith in
    λ i. e0 i ∷ e1 i ∷ []

in_four-four : (a b c d : ℕ) → a < 256 → b < 256 → c < 256 → in_four (four a b c d) ≡ a ∷ b ∷ c ∷ d ∷ []
in_four-four a b c d ha hb hc =
    let e0 : four a b c d % 256 ≡ a = omega arith in
    let q1 : four a b c d / 256 ≡ b + c * 256 + d * 65536 = omega arith in
    let q2 : four a b c d / 65536 ≡ c + d * 256 = omega arith in
    let m1 : (b + c * 256 + d * 65536) % 256 ≡ b = omega arith in
    let m2 : (c + d * 256) % 256 ≡ c = omega arith in
    let e1 : four a b c d / 256 % 256 ≡ b = ap (λ (q : ℕ). q % 256) q1 ∙ m1 in
    let e2 : four a b c d / 65536 % 256 ≡ c = ap (λ (q : ℕ). q % 256) q2 ∙ m2 in
    let e3 : four a b c d / 16777216 ≡ d = omega arith in
    λ i. e0 i ∷ e1 i ∷ e2 i ∷ e3 i ∷ []

-- ---- the bytes of a record of the table

-- the n bytes from j behind a place on
abbrev run : List ℕ → ℕ → ℕ → ℕ → List ℕ
run bytes at j zero = []
run bytes at j (suc n) = get_or bytes (at + j) 0 ∷ run bytes at (suc j) n

-- stored again where they stand, they change nothing
again : (bytes : List ℕ) (at j n : ℕ) → sets bytes (at + j) (run bytes at j n) ≡ bytes
again bytes at j zero = refl
again bytes at j (suc n) =
    (λ i. sets (set-get_or bytes (at + j) 0 i) (sym (add-suc at j) i) (run bytes at (suc j) n)) ∙ again bytes at (suc j) n

-- the bytes of the record that they are
spelt : (bytes : List ℕ) (at : ℕ) → Bytes bytes → (decode_at bytes at).len ≤ 192 → record_bytes (decode_at bytes at) ≡ get_or bytes at 0 ∷ run bytes at 1 14
spelt bytes at b h =
    let v = in_four-four _ _ _ (get_or bytes (at + 7) 0) (b (at + 4)) (b (at + 5)) (b (at + 6)) in
    let o = in_four-four _ _ _ (get_or bytes (at + 11) 0) (b (at + 8)) (b (at + 9)) (b (at + 10)) in
    let a = in_two-two _ (get_or bytes (at + 13) 0) (b (at + 12)) in
    encode-decode _ _ _ _ _ _ _ _ (state-known _ _ _ _ _ _ _ _ h)
    ∙ (λ i. get_or bytes at 0 ∷ get_or bytes (at + 1) 0 ∷ get_or bytes (at + 2) 0 ∷ get_or bytes (at + 3) 0 ∷ (v i ++ (o i ++ (a i ++ (get_or bytes (at + 14) 0 ∷ [])))))

stored_back : (bytes : List ℕ) (at : ℕ) → Bytes bytes → (decode_at bytes at).len ≤ 192 → sets bytes at (record_bytes (decode_at bytes at)) ≡ bytes
stored_back bytes at b h =
    let here : at ≡ at + 0 = omega arith in
    ap (sets bytes at) (spelt bytes at b h) ∙ (λ i. sets bytes (here i) (get_or bytes (here i) 0 ∷ run bytes at 1 14)) ∙ again bytes at 0 15

pub put_back : PutBack
put_back bytes i b l h = rw (record-in bytes i l) (stored_back bytes (16 * i) b (rw (record-in bytes i l) at h))

-- so an event that leaves its record as found leaves every byte as found: refused, or accepted of a record that question 5 found sound
pub settled_back : (k : ℕ) (bytes : List ℕ) (i : ℕ) (s : Step) → Bytes bytes → (k ≡ 0 → (i < count_of (length bytes)) × ((record_at (table_of bytes) i).len ≤ 192))
    → (moved_by k (record_at (table_of bytes) i) s).after ≡ record_at (table_of bytes) i
    → bytes_after (moved_by k (record_at (table_of bytes) i) s) bytes i ≡ bytes
settled_back zero bytes i s b y e =
    let (l, h) = y refl in
    settled-in (moved_by 0 (record_at (table_of bytes) i) s) s.sent bytes i refl l ∙ ap (put bytes i) e ∙ put_back bytes i b l h
settled_back (suc k) bytes i s b y e = refl
