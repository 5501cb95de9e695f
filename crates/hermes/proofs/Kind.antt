-- A message there and back: its kind and timestamp, and the message of these.
use Prim.Native.Nat.{ℕ}
use mathlib.Core.Path.{◌≡◌, refl, sym}
use mathlib.Core.Bool.{Bool, true, false, cond}
use native.Mathlib.Omega.{arith}
use borrow.Author.Tests.{leb-true, eqb-true, eqb-false}
use lib.Dec.{leb, eqb}
use Rattle.hermes_record.specs.declared.timestamp.Timestamp.{Timestamp}
use Rattle.hermes.specs.declared.message.Message.{Message}
use Rattle.hermes.specs.declared.message.Message.TheVariants.{Inv, Ack, Val}
use Rattle.hermes.specs.Kind.{inv, ack, val, kind_of, timestamp_of, known, message_of}
use Rattle.std.proofs.lemmas.Bool.{and_parts}

pub message-back : (m : Message) → message_of (kind_of m) (timestamp_of m) ≡ m
message-back (Inv t) = refl
message-back (Ack t) = refl
message-back (Val t) = refl

pub stamp-back : (k : ℕ) (t : Timestamp) → timestamp_of (message_of k t) ≡ t
stamp-back k t = go (eqb k inv) (eqb k ack)
  where
    go : (x y : Bool) → timestamp_of (cond x (Inv t) (cond y (Ack t) (Val t))) ≡ t
    go true y = refl
    go false true = refl
    go false false = refl

pub kind-back : (k : ℕ) (t : Timestamp) → known k ≡ true → kind_of (message_of k t) ≡ k
kind-back k t h = go (eqb k inv) refl (eqb k ack) refl (and_parts (leb inv k) (leb k val) h)
  where
    go : (x : Bool) → eqb k inv ≡ x → (y : Bool) → eqb k ack ≡ y → (leb inv k ≡ true) × (leb k val ≡ true)
        → kind_of (cond x (Inv t) (cond y (Ack t) (Val t))) ≡ k
    go true e y f h = sym (eqb-true k inv e)
    go false e true f h = sym (eqb-true k ack f)
    go false e false f h = omega (arith, leb-true inv k h.0, leb-true k val h.1, eqb-false k inv e, eqb-false k ack f)
