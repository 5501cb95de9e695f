-- Laws of records as bytes: the record at a number.
use Prim.Native.Nat.{ℕ, zero, suc, ◌+◌, ◌*◌, ◌/◌, ◌%◌, ◌<◌, ◌≤◌}
use mathlib.Core.Path.{◌≡◌, refl, sym, ap, ◌∙◌}
use mathlib.Core.Bool.{Bool, true, false, cond}
use mathlib.Core.List.{List}
use native.Mathlib.Nat.{add-zero}
use native.Mathlib.Omega.{arith}
use borrow.Author.Tests.{lt-ltb}
use lib.Dec.{eqb, lit<}
use lib.ListN.{length, get_or, get_or-eq_default, take, drop}
use Rattle.std.specs.Prelude.{Option, Some, None, MatchOption}
use Rattle.std.specs.Slice.{IsItemAt}
use Rattle.std.specs.Simd.{first_chunks}
use denote.Ref.{Bor}
use Rattle.std.proofs.lemmas.List.{get_or-take, get_or-drop, drop-drop}
use Rattle.hermes_record.specs.declared.record.Record.{Record}
use Rattle.hermes_record.specs.Record.{fresh_record}
use Rattle.hermes.specs.Node.{record_at}
use Rattle.export_decoding.specs.Decoding.{two, four, decode, decode_at, found_in}
use Rattle.export_records.specs.Layout.{count_of, records, table_of, found_at}

length-records : (n at : ℕ) (bytes : List ℕ) → length (records n at bytes) ≡ n
length-records zero at bytes = refl
length-records (suc n) at bytes = ap suc (length-records n (at + 16) bytes)

get_d-records : (n at : ℕ) (bytes : List ℕ) (i : ℕ) (d : Record) → i < n → get_or (records n at bytes) i d ≡ decode_at bytes (at + 16 * i)
get_d-records zero at bytes i d l = absurd (omega arith)
get_d-records (suc n) at bytes zero d l = let e : at ≡ at + 16 * 0 = omega arith in ap (decode_at bytes) e
get_d-records (suc n) at bytes (suc i) d l =
    let e : at + 16 + 16 * i ≡ at + 16 * suc i = omega arith in get_d-records n (at + 16) bytes i d (omega arith) ∙ ap (decode_at bytes) e

pub length-table : (bytes : List ℕ) → length (table_of bytes) ≡ count_of (length bytes)
unfolding table_of
length-table bytes = length-records (count_of (length bytes)) 0 bytes

-- a record of the table is its bytes
pub record-in : (bytes : List ℕ) (i : ℕ) → i < count_of (length bytes) → record_at (table_of bytes) i ≡ decode_at bytes (16 * i)
unfolding table_of
record-in bytes i l = let e : 0 + 16 * i ≡ 16 * i = omega arith in get_d-records (count_of (length bytes)) 0 bytes i (fresh_record 0) l ∙ ap (decode_at bytes) e

-- past the table's end stands a fresh one
pub record-out : (bytes : List ℕ) (i : ℕ) → count_of (length bytes) ≤ i → record_at (table_of bytes) i ≡ fresh_record 0
record-out bytes i l = get_or-eq_default (table_of bytes) (fresh_record 0) (rw length-table l)

-- the bytes of a record lie inside
pub inside : (n i : ℕ) → i < count_of n → 16 * i + 16 ≤ n
inside n i l = go (eqb (n % 16) 0) l
  where
    go : (b : Bool) → i < cond b (n / 16) 0 → 16 * i + 16 ≤ n
    go true h = omega arith
    go false h = absurd (omega arith)

-- the same bytes are the same record
pub same_bytes : (xs ys : List ℕ) (a b : ℕ) → ((k : ℕ) → k < 15 → get_or xs (a + k) 0 ≡ get_or ys (b + k) 0) → decode_at xs a ≡ decode_at ys b
same_bytes xs ys a b h =
    let ea : a ≡ a + 0 = omega arith in
    let eb : b + 0 ≡ b = omega arith in
    let h0 : get_or xs a 0 ≡ get_or ys b 0 = ap (λ (p : ℕ). get_or xs p 0) ea ∙ h 0 (lit< tt) ∙ ap (λ (p : ℕ). get_or ys p 0) eb in
    λ i. decode (h0 i) (h 1 (lit< tt) i) (h 2 (lit< tt) i) (h 3 (lit< tt) i)
    (four (h 4 (lit< tt) i) (h 5 (lit< tt) i) (h 6 (lit< tt) i) (h 7 (lit< tt) i))
    (four (h 8 (lit< tt) i) (h 9 (lit< tt) i) (h 10 (lit< tt) i) (h 11 (lit< tt) i))
    (two (h 12 (lit< tt) i) (h 13 (lit< tt) i))
    (h 14 (lit< tt) i)

-- ---- the table as arrays of sixteen

pub chunk : (n i : ℕ) (xs d : List ℕ) → i < n → get_or (first_chunks 16 n xs) i d ≡ take 16 (drop (16 * i) xs)
chunk zero i xs d l = absurd (omega arith)
chunk (suc n) zero xs d l = refl
chunk (suc n) (suc i) xs d l =
    let e : 16 + 16 * i ≡ 16 * suc i = omega arith in
    chunk n i (drop 16 xs) d (omega arith) ∙ ap (take 16) (drop-drop (16 * i) 16 xs ∙ ap (λ (k : ℕ). drop k xs) e)

-- record i's array is lent, if the table has record i
pub lent_chunk : (table : List ℕ) (i : ℕ) (chunks : List (List ℕ)) (r : Option (Bor (List ℕ)))
    → chunks ≡ first_chunks 16 (length table / 16) table → length chunks ≡ length table / 16 → length table % 16 < 1 → IsItemAt chunks i r
    → MatchOption r (count_of (length table) ≤ i) (λ b. (i < count_of (length table)) × (b.now ≡ take 16 (drop (16 * i) table)))
lent_chunk table i chunks r e n whole h = rw counted (go r h)
  where
    counted : count_of (length table) ≡ length chunks
    counted = let z : length table % 16 ≡ 0 = omega arith in rw z (sym n)

    go : (r : Option (Bor (List ℕ))) → IsItemAt chunks i r → MatchOption r (length chunks ≤ i) (λ b. (i < length chunks) × (b.now ≡ take 16 (drop (16 * i) table)))
    go None g = g.3
    go (Some b) g =
        let l : i < length chunks = g.3.0 in
        (l, g.1 ∙ ap (λ (xs : List (List ℕ)). get_or xs i b.now) e ∙ chunk (length table / 16) i table b.now (rw n at l))

-- the record of the array
pub in-chunk : (bytes : List ℕ) (at : ℕ) → decode_at (take 16 (drop at bytes)) 0 ≡ decode_at bytes at
in-chunk bytes at = same_bytes (take 16 (drop at bytes)) bytes 0 at here
  where
    here : (k : ℕ) → k < 15 → get_or (take 16 (drop at bytes)) (0 + k) 0 ≡ get_or bytes (at + k) 0
    here k h = let z : 0 + k ≡ k = omega arith in rw z (get_or-take 16 (drop at bytes) k 0 (omega arith) ∙ get_or-drop at bytes k 0)

pub record_lent : (bytes : List ℕ) (i : ℕ) (b : List ℕ) → b ≡ take 16 (drop (16 * i) bytes) → i < count_of (length bytes) → decode_at b 0 ≡ record_at (table_of bytes) i
record_lent bytes i b e l = ap (λ (xs : List ℕ). decode_at xs 0) e ∙ in-chunk bytes (16 * i) ∙ sym (record-in bytes i l)

pub found_lent : (bytes : List ℕ) (i : ℕ) (b : List ℕ) → b ≡ take 16 (drop (16 * i) bytes) → i < count_of (length bytes) → found_in b ≡ found_at bytes i
found_lent bytes i b e l =
    let state : get_or b 0 0 ≡ get_or bytes (16 * i) 0 =
    ap (λ (xs : List ℕ). get_or xs 0 0) e ∙ get_or-take 16 (drop (16 * i) bytes) 0 0 (omega arith) ∙ get_or-drop (16 * i) bytes 0 0 ∙ ap (λ (p : ℕ). get_or bytes p 0) (add-zero (16 * i)) in
    rw (lt-ltb i (count_of (length bytes)) l, record_lent bytes i b e l, state)

-- what the functions that read a record answer
pub ruleset reads = (record_lent, found_lent, record-out)
