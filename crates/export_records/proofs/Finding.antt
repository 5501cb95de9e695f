-- What is found at a number: the table's record, or none, and then question 4 or question 5 says no.
use Prim.Native.Nat.{ℕ, ◌*◌, ◌<◌, ◌≤◌}
use mathlib.Core.Path.{◌≡◌, refl, ◌∙◌}
use mathlib.Core.Bool.{Bool, true, false, cond}
use mathlib.Core.List.{List}
use mathlib.Core.Logic.{◌⊎◌, inl, inr}
use lib.Dec.{ltb}
use lib.ListN.{length, get_or}
use borrow.Author.Tests.{ltb-true, ltb-false}
use Rattle.std.specs.Prelude.{Some, None}
use Rattle.hermes_record.specs.declared.record.Record.{Record}
use Rattle.hermes.specs.Node.{record_at}
use Rattle.export_decoding.specs.Decoding.{unsound, decode, decode_at}
use Rattle.export_records.specs.Layout.{count_of, table_of, found_at}
use Rattle.export_records.proofs.Lent.{record-in}

pub found_here : (bytes : List ℕ) (i : ℕ) (r : Record) → found_at bytes i ≡ Some r → r ≡ record_at (table_of bytes) i
found_here bytes i r e = go (ltb i (count_of (length bytes))) (ltb 4 (get_or bytes (16 * i) 0)) e
  where
    go : (a b : Bool) → cond a (cond b None (Some (record_at (table_of bytes) i))) None ≡ Some r → r ≡ record_at (table_of bytes) i
    go true true h = cc
    go true false h = cc
    go false b h = cc

pub found_below : (bytes : List ℕ) (i : ℕ) (r : Record) → found_at bytes i ≡ Some r → i < count_of (length bytes)
found_below bytes i r e = go (ltb i (count_of (length bytes))) refl e
  where
    go : (a : Bool) → ltb i (count_of (length bytes)) ≡ a → cond a (cond (ltb 4 (get_or bytes (16 * i) 0)) None (Some (record_at (table_of bytes) i))) None ≡ Some r → i < count_of (length bytes)
    go true ha h = ltb-true i (count_of (length bytes)) ha
    go false ha h = cc

no-state : (bytes : List ℕ) (at : ℕ) → ltb 4 (get_or bytes at 0) ≡ true → decode_at bytes at ≡ unsound
unfolding decode
no-state bytes at e = rw e

pub found-missing : (bytes : List ℕ) (i : ℕ) → found_at bytes i ≡ None → (count_of (length bytes) ≤ i) ⊎ (record_at (table_of bytes) i ≡ unsound)
found-missing bytes i e = go (ltb i (count_of (length bytes))) (ltb 4 (get_or bytes (16 * i) 0)) refl refl e
  where
    go : (a b : Bool) → ltb i (count_of (length bytes)) ≡ a → ltb 4 (get_or bytes (16 * i) 0) ≡ b
        → cond a (cond b None (Some (record_at (table_of bytes) i))) None ≡ None → (count_of (length bytes) ≤ i) ⊎ (record_at (table_of bytes) i ≡ unsound)
    go true true ha hb h = inr (record-in bytes i (ltb-true i (count_of (length bytes)) ha) ∙ no-state bytes (16 * i) hb)
    go true false ha hb h = cc
    go false b ha hb h = inl (ltb-false i (count_of (length bytes)) ha)
