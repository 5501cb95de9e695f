-- Question 22 may be asked of the words themselves: where it says yes they are the fields of the message that they stand for.
use Prim.Native.Nat.{ℕ, ◌*◌, ◌<◌}
use mathlib.Core.Path.{◌≡◌, refl, sym, ap, ◌∙◌}
use mathlib.Core.Bool.{Bool, true, false, not, false≢true}
use mathlib.Core.List.{List}
use native.Mathlib.Omega.{arith}
use borrow.Author.Tests.{le-ltb, ltb-true}
use lib.Dec.{ltb}
use lib.ListN.{get_or}
use Rattle.hermes.specs.Kind.{known}
use Rattle.packet_format.specs.declared.entry.Entry.{Entry}
use Rattle.packet_format.specs.declared.entry.Fields.{Fields}
use Rattle.packet_format.specs.Entry.{entry_of, fields_for, good, no_entry}
use Rattle.packet_format.proofs.Entries.{good-parts, not_good, message-back}
use Rattle.packet_words.specs.Words.{or_unfit, entry_in, fields_at, entry_at, entries_from}
use Rattle.packet_words.proofs.Places.{message-at}

-- question 22 says the same of the words and of their message
pub good-fit : (f : Fields) → good (fields_for (entry_in f) 0) ≡ good f
unfolding entry_in good
good-fit f = go (known f.kind) (ltb 255 f.sender) (ltb 255 f.tie) (ltb 255 f.len) refl refl refl refl
  where
    go : (a b c d : Bool) → known f.kind ≡ a → ltb 255 f.sender ≡ b → ltb 255 f.tie ≡ c → ltb 255 f.len ≡ d
        → good (fields_for (or_unfit (not a) (or_unfit b (or_unfit c (or_unfit d (entry_of f))))) 0) ≡ good f
    go false b c d p q r s = not_good f (λ g. false≢true (sym p ∙ g.kind))
    go true true c d p q r s = not_good f (λ g. omega (arith, ltb-true 255 f.sender q))
    go true false true d p q r s = not_good f (λ g. omega (arith, ltb-true 255 f.tie r))
    go true false false true p q r s = not_good f (λ g. omega (arith, ltb-true 255 f.len s))
    go true false false false p q r s = ap good (message-back f f.offset p refl)

-- where it says yes, fields stand for the message that they would be in a packet
pub entry-fit : (f : Fields) → good f ≡ true → entry_in f ≡ entry_of f
unfolding entry_in
entry-fit f h =
    let g = good-parts f h in
    rw (g.kind, le-ltb 255 f.sender (omega arith), le-ltb 255 f.tie (omega arith), le-ltb 255 f.len (omega arith))

-- and words are the fields of their message
pub fields_fit : (words : List ℕ) (w at : ℕ) → good (fields_at words w 0) ≡ true → fields_for (entry_at words w) at ≡ fields_at words w at
fields_fit words w at h =
    let g = good-parts (fields_at words w 0) h in
    ap (λ (e : Entry). fields_for e at) (entry-fit (fields_at words w 0) h) ∙ message-back (fields_at words w at) at g.kind refl

-- the same of message k of n, at its words
module _ (n : ℕ) (words : List ℕ) (k : ℕ) (more : k < n) where
  pub good-message : good (fields_for (get_or (entries_from n 0 words) k no_entry) 0) ≡ good (fields_at words (7 * k) 0)
  good-message = rw (message-at n words k more) (good-fit (fields_at words (7 * k) 0))

  pub fields-message : (at : ℕ) → good (fields_at words (7 * k) 0) ≡ true → fields_for (get_or (entries_from n 0 words) k no_entry) at ≡ fields_at words (7 * k) at
  fields-message at g = rw (message-at n words k more) (fields_fit words (7 * k) at g)
