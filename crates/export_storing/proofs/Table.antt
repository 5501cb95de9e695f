-- The table that bytes hold after a record is put into them, and after they are filled.
use Prim.Native.Nat.{ℕ, zero, suc, ◌+◌, ◌*◌, ◌<◌, ◌≤◌}
use mathlib.Core.Path.{◌≡◌, refl, sym, ap, ◌∙◌}
use mathlib.Core.Logic.{◌≢◌}
use mathlib.Core.List.{List, [], ◌∷◌}
use native.Mathlib.Omega.{arith}
use native.Mathlib.Decide.{ℕ_discrete, dec_lt}
use borrow.Author.Tests.{lt-ltb, le-ltb}
use lib.ListN.{length, get_or, set, replicate, length-set}
use lib.Seq.{sets, length-sets, get_or-set_same, get_or-set_other, ext_get_or, set-get_or, set_out}
use Rattle.hermes_record.specs.declared.record.Record.{Record}
use Rattle.hermes.specs.Answer.{Answer, Outgoing}
use Rattle.std.specs.Prelude.{Ok, Err}
use Rattle.hermes.specs.declared.event.Moved.{Moved}
use Rattle.hermes_record.specs.Record.{fresh_record}
use Rattle.hermes.specs.Event.{Step, moved_by}
use Rattle.hermes.specs.Node.{record_at}
use Rattle.hermes.proofs.Filling.{filled, filled-suc, filled-all}
use Rattle.export_decoding.specs.Decoding.{decode_at}
use Rattle.export_records.specs.Layout.{count_of, table_of}
use Rattle.export_storing.specs.Storing.{record_bytes, put, fill, bytes_by, bytes_after, table_by, table_after}
use Rattle.export_records.proofs.Lent.{length-table, record-in, inside, same_bytes}
use Rattle.export_storing.proofs.RoundTrip.{decode-encode}

-- ---- a run of stores: the places inside it, before it, after it

sets-before : (vs l : List ℕ) (at p : ℕ) → p < at → get_or (sets l at vs) p 0 ≡ get_or l p 0
sets-before [] l at p h = refl
sets-before (v ∷ vs) l at p h =
    let d : p ≢ at = λ e. absurd (omega arith) in
    sets-before vs (set l at v) (suc at) p (omega arith) ∙ get_or-set_other l at p v 0 d

sets-after : (vs l : List ℕ) (at p : ℕ) → at + length vs ≤ p → get_or (sets l at vs) p 0 ≡ get_or l p 0
sets-after [] l at p h = refl
sets-after (v ∷ vs) l at p h =
    let d : p ≢ at = λ e. absurd (omega arith) in
    sets-after vs (set l at v) (suc at) p (omega arith) ∙ get_or-set_other l at p v 0 d

sets-inside : (vs l : List ℕ) (at k : ℕ) → k < length vs → at + length vs ≤ length l → get_or (sets l at vs) (at + k) 0 ≡ get_or vs k 0
sets-inside [] l at k h g = absurd (omega arith)
sets-inside (v ∷ vs) l at zero h g =
    let e : at + 0 ≡ at = omega arith in
    ap (λ (p : ℕ). get_or (sets (set l at v) (suc at) vs) p 0) e ∙ sets-before vs (set l at v) (suc at) at (omega arith) ∙ get_or-set_same l at v 0 (omega arith)
sets-inside (v ∷ vs) l at (suc k) h g =
    let e : at + suc k ≡ suc at + k = omega arith in
    ap (λ (p : ℕ). get_or (sets (set l at v) (suc at) vs) p 0) e ∙ sets-inside vs (set l at v) (suc at) k (omega arith) (omega (arith, length-set l at v))

-- ---- a record put

module _ (bytes : List ℕ) (i : ℕ) (r : Record) (l : i < count_of (length bytes)) where
  count-put : count_of (length (put bytes i r)) ≡ count_of (length bytes)
  count-put = ap count_of (length-sets bytes (16 * i) (record_bytes r))

  there : decode_at (put bytes i r) (16 * i) ≡ r
  there =
      let room : 16 * i + 15 ≤ length bytes = omega (arith, inside (length bytes) i l) in
      same_bytes (put bytes i r) (record_bytes r) (16 * i) 0 (λ k h. sets-inside (record_bytes r) bytes (16 * i) k h room ∙ ap (λ (p : ℕ). get_or (record_bytes r) p 0) (z k)) ∙ decode-encode r
    where
      z : (k : ℕ) → k ≡ 0 + k
      z k = omega arith

  elsewhere : (j : ℕ) → j ≢ i → decode_at (put bytes i r) (16 * j) ≡ decode_at bytes (16 * j)
  elsewhere j d = same_bytes (put bytes i r) bytes (16 * j) (16 * j) (go (dec_lt j i))
    where
      go : Dec (j < i) → (k : ℕ) → k < 15 → get_or (put bytes i r) (16 * j + k) 0 ≡ get_or bytes (16 * j + k) 0
      go (yes b) k h = sets-before (record_bytes r) bytes (16 * i) (16 * j + k) (omega arith)
      go (no b) k h = sets-after (record_bytes r) bytes (16 * i) (16 * j + k) (omega arith)

  pub table-put : table_of (put bytes i r) ≡ set (table_of bytes) i r
  table-put = ext_get_or (fresh_record 0) (table_of (put bytes i r)) (set (table_of bytes) i r) lengths at
    where
      lengths : length (table_of (put bytes i r)) ≡ length (set (table_of bytes) i r)
      lengths = length-table (put bytes i r) ∙ count-put ∙ sym (length-set (table_of bytes) i r ∙ length-table bytes)

      at : (j : ℕ) → j < length (table_of (put bytes i r)) → record_at (table_of (put bytes i r)) j ≡ record_at (set (table_of bytes) i r) j
      at j h = go (ℕ_discrete j i)
        where
          low : j < count_of (length bytes)
          low = rw (length-table (put bytes i r), count-put) at h

          go : Dec (j ≡ i) → record_at (table_of (put bytes i r)) j ≡ record_at (set (table_of bytes) i r) j
          go (yes e) = rw e (record-in (put bytes i r) i (rw count-put l) ∙ there ∙ sym (get_or-set_same (table_of bytes) i r (fresh_record 0) (rw (length-table bytes) l)))
          go (no d) = record-in (put bytes i r) j (rw count-put low) ∙ elsewhere j d ∙ sym (get_or-set_other (table_of bytes) i j r (fresh_record 0) d ∙ record-in bytes j low)

-- ---- the records filled

length-fill : (k : ℕ) (bytes : List ℕ) (r : Record) → length (fill k bytes r) ≡ length bytes
length-fill zero bytes r = refl
length-fill (suc k) bytes r = length-sets (fill k bytes r) (16 * k) (record_bytes r) ∙ length-fill k bytes r

module _ (bytes : List ℕ) (r : Record) where
  -- the first k
  fills : (k : ℕ) → k ≤ count_of (length bytes) → table_of (fill k bytes r) ≡ filled r (table_of bytes) k
  fills zero h = refl
  fills (suc k) h =
      let low : k < count_of (length (fill k bytes r)) = rw (length-fill k bytes r) h in
      let below : k < length (table_of bytes) = rw (length-table bytes) h in
      table-put (fill k bytes r) k r low ∙ ap (λ (t : List Record). set t k r) (fills k (omega arith)) ∙ filled-suc r (table_of bytes) k below

  -- all of them
  pub filled_table : (new : List ℕ) → new ≡ fill (count_of (length bytes)) bytes r → table_of new ≡ replicate (length (table_of bytes)) r
  filled_table new e =
      ap table_of e ∙ fills (count_of (length bytes)) (omega arith) ∙ ap (filled r (table_of bytes)) (sym (length-table bytes)) ∙ filled-all r (table_of bytes)

-- ---- an event settled

-- an accepted event sets its record in the table, and past the table's end nothing
pub settled-table : (m : Moved) (o : Outgoing) (bytes : List ℕ) (i : ℕ) → m.answer ≡ Ok o → i < count_of (length bytes)
    → table_of (put bytes i m.after) ≡ table_after m (table_of bytes) i
settled-table m o bytes i e l = rw e (table-put bytes i m.after l)

pub settled-nowhere : (m : Moved) (o : Outgoing) (bytes : List ℕ) (i : ℕ) → m.answer ≡ Ok o → count_of (length bytes) ≤ i
    → table_of bytes ≡ table_after m (table_of bytes) i
settled-nowhere m o bytes i e l = rw e (sym (set_out (table_of bytes) i m.after (rw (length-table bytes) l)))

-- of either answer
pub table_settled : (m : Moved) (bytes new : List ℕ) (i : ℕ) → new ≡ bytes_after m bytes i → table_of new ≡ table_after m (table_of bytes) i
table_settled m bytes new i e = ap table_of e ∙ go m.answer (dec_lt i (count_of (length bytes)))
  where
    go : (a : Answer) → Dec (i < count_of (length bytes)) → table_of (bytes_by a bytes i m.after) ≡ table_by a (table_of bytes) i m.after
    go (Ok o) (yes l) = rw (lt-ltb i (count_of (length bytes)) l) (table-put bytes i m.after l)
    go (Ok o) (no n) =
        let l : count_of (length bytes) ≤ i = omega arith in rw (le-ltb i (count_of (length bytes)) l) (sym (set_out (table_of bytes) i m.after (rw (length-table bytes) l)))
    go (Err k) d = refl

-- a refused one leaves its record, so that the table is the one with the record put back in either case
pub settled-step : (k : ℕ) (table : List Record) (i : ℕ) (s : Step)
    → table_after (moved_by k (record_at table i) s) table i ≡ set table i (moved_by k (record_at table i) s).after
settled-step zero table i s = refl
settled-step (suc k) table i s = sym (set-get_or table i (fresh_record 0))
