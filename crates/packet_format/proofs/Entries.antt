-- One entry there and back: its 16 bytes and its fields, its fields and its message.
use mathlib.Core.Path.{◌≡◌, refl, sym, ◌∙◌}
use mathlib.Core.Bool.{true, false, ◌&&◌, and-true}
use mathlib.Core.List.{List, [], ◌∷◌, ◌++◌}
use Prim.Native.Nat.{ℕ, ◌≤◌}
use native.Mathlib.Omega.{arith}
use borrow.Author.Tests.{leb-true, eq-eqb, ne_eqb, le-leb}
use lib.Dec.{leb, eqb}
use lib.ListN.{length, drop, get_or}
use Rattle.hermes_record.specs.declared.timestamp.Timestamp.{Timestamp}
use Rattle.hermes.specs.Kind.{inv, val, known}
use Rattle.hermes.specs.Store.{Bytes}
use Rattle.hermes.proofs.Kind as kind
use Rattle.packet_format.specs.declared.entry.Entry.{Entry}
use Rattle.packet_format.specs.declared.entry.Fields.{Fields}
use Rattle.packet_format.specs.Bytes.{window}
use Rattle.packet_format.specs.Entry.{fields_of, entry_bytes, entry_of, fields_for, bodied, good}
use Rattle.std.proofs.lemmas.Bool.{and_parts, false_from_ne_true}
use Rattle.packet_format.proofs.Width.{num-be, window-drop, be-window}

-- fields written are read
pub fields_back : (f : Fields) (rest : List ℕ) → fields_of (entry_bytes f ++ rest) ≡ f
unfolding entry_bytes
fields_back f rest =
    λ i.
    record {
      kind = f.kind;
      sender = f.sender;
      epoch = num-be 3 f.epoch i;
      index = num-be 1 f.index i;
      version = num-be 3 f.version i;
      tie = f.tie;
      offset = num-be 1 f.offset i;
      len = f.len;
    }

pub drop-entry : (f : Fields) (rest : List ℕ) → drop 16 (entry_bytes f ++ rest) ≡ rest
unfolding entry_bytes
drop-entry f rest = refl

pub length-entry : (f : Fields) → length (entry_bytes f) ≡ 16
unfolding entry_bytes
length-entry f = refl

-- 16 bytes from the four numbers among them, and what follows
glue : List ℕ → List ℕ → List ℕ → List ℕ → List ℕ → List ℕ
glue q a b c d = (get_or q 0 0 ∷ get_or q 1 0 ∷ a ++ b ++ c ++ get_or q 12 0 ∷ d ++ get_or q 15 0 ∷ []) ++ drop 16 q

-- bytes read are written
pub bytes_back : (q : List ℕ) → 16 ≤ length q → Bytes q → entry_bytes (fields_of q) ++ drop 16 q ≡ q
unfolding entry_bytes glue
bytes_back q h b =
    let e : entry_bytes (fields_of q) ++ drop 16 q ≡ window q 0 16 ++ drop 16 q =
    λ i. glue q (be-window q 2 4 b i) (be-window q 6 2 b i) (be-window q 8 4 b i) (be-window q 13 2 b i) in
    e ∙ sym (window-drop q 0 16 h)

-- a message made into fields is read from them
pub entry-back : (e : Entry) (at : ℕ) → entry_of (fields_for e at) ≡ e
entry-back e at = λ i. record { header = e.header; message = kind.message-back e.message i; len = e.len }

-- what `good` tells that the laws use
pub record Good (f : Fields) : Type 0 where
  pub kind : known f.kind ≡ true
  pub last : f.kind ≤ val
  pub sender : f.sender ≤ 15
  pub tie : f.tie ≤ 15
  pub index : f.index ≤ 4095
  pub len : f.len ≤ 192

pub good-parts : (f : Fields) → good f ≡ true → Good f
unfolding good
good-parts f h =
    let s6 = and_parts _ (bodied f) h in
    let s5 = and_parts _ (leb f.len 192) s6.0 in
    let s4 = and_parts _ (leb f.index 4095) s5.0 in
    let s3 = and_parts _ (leb f.tie 15) s4.0 in
    let s2 = and_parts (known f.kind) (leb f.sender 15) s3.0 in
    record {
      kind = s2.0;
      last = leb-true _ _ (and_parts (leb inv f.kind) (leb f.kind val) s2.0).1;
      sender = leb-true _ _ s2.1;
      tie = leb-true _ _ s3.1;
      index = leb-true _ _ s4.1;
      len = leb-true _ _ s5.1;
    }

pub not_good : (f : Fields) → (Good f → ⊥) → false ≡ good f
not_good f n = sym (false_from_ne_true (good f) (λ h. n (good-parts f h)))

-- fields whose sender, tie-breaker, record and length are within their limits
module _ (f : Fields) (sender : f.sender ≤ 15) (tie : f.tie ≤ 15) (index : f.index ≤ 4095) (len : f.len ≤ 192) where
  pub of_inv : f.kind ≡ 1 → true ≡ good f
  unfolding good
  of_inv k = simp (le-leb 1 f.kind (omega arith), le-leb f.kind 3 (omega arith), le-leb _ _ sender, le-leb _ _ tie, le-leb _ _ index, le-leb _ _ len, eq-eqb _ _ k)

  pub of_other : (f.kind ≡ 1 → ⊥) → (leb 1 f.kind && leb f.kind 3 && eqb f.len 0) ≡ good f
  unfolding good
  of_other k = simp (le-leb _ _ sender, le-leb _ _ tie, le-leb _ _ index, le-leb _ _ len, ne_eqb _ _ k, and-true)

-- an offset is no part of `good`
pub good-offset : (e : Entry) (a b : ℕ) → good (fields_for e a) ≡ good (fields_for e b)
unfolding good
good-offset e a b = refl

-- fields of a known kind that a message is read from are its fields
pub message-back : (f : Fields) (at : ℕ) → known f.kind ≡ true → f.offset ≡ at → fields_for (entry_of f) at ≡ f
message-back f at k o =
    let t : Timestamp = record { version = f.version; tie = f.tie } in
    λ i.
    record {
      kind = kind.kind-back f.kind t k i;
      sender = f.sender;
      epoch = f.epoch;
      index = f.index;
      version = (kind.stamp-back f.kind t i).version;
      tie = (kind.stamp-back f.kind t i).tie;
      offset = sym o i;
      len = f.len;
    }
