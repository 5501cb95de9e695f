-- What an event comes to, by what its questions answered.
use Prim.Native.Nat.{ℕ, zero, suc, ◌<◌}
use Rattle.std.specs.Prelude.{Ok, Err}
use mathlib.Core.Path.{◌≡◌, refl, sym, ap, ◌∙◌}
use mathlib.Core.List.{List, []}
use native.Mathlib.Omega.{arith}
use lib.ListN.{length}
use Rattle.hermes_record.specs.declared.timestamp.Timestamp.{Timestamp}
use Rattle.hermes_record.specs.declared.record.Record.{Record}
use Rattle.hermes_record.specs.Order.{Orders}
use Rattle.hermes.specs.declared.event.Replica.{Replica}
use Rattle.hermes.specs.declared.event.Event.{Event}
use Rattle.hermes.specs.declared.event.Event.TheVariants.{Read, Ask, Write, Commit, Replay, Deliver, Validate, Resend}
use Rattle.hermes.specs.Guards.{Question}
use Rattle.hermes.specs.Event.{Step, kept, part_of, stamp_handed, common, own, refusal, moved_by, stored_by, storing, decide, moved, effect, read_step, replay_step, validate_step, resend_step}
use Rattle.hermes.proofs.Guards.{positive-own}
use Rattle.hermes.specs.declared.event.Refused.{Refused}
use Rattle.replica_asking.specs.Cascade.{Asked, asked, stopped_by}
use Rattle.replica_asking.proofs.Cascade.{passed_none, passed-same, refused-first}

module _ (me : Replica) (count bytes i : ℕ) (r : Record) (e : Event) (n : ℕ) where
  abbrev questions : List Question
  questions = common me count bytes i r (own me r e n)

  pub accepted : (s : Record) → asked questions r ≡ Ok s → refusal me count bytes i r e n ≡ 0
  unfolding refusal
  accepted s h = passed_none questions r s h

  pub same-record : (s : Record) → asked questions r ≡ Ok s → r ≡ s
  same-record s h = passed-same questions r s h

  pub refused : (k : Refused) → asked questions r ≡ Err k → (refusal me count bytes i r e n ≡ k.0) × (0 < k.0)
  unfolding refusal
  refused k h = refused-first questions r k (positive-own me r e n) h

  -- a refused event: its number, the record as it was, the store as it was
  pub refused-moved : (k : Refused) (s : Step) → asked questions r ≡ Err k → moved_by (refusal me count bytes i r e n) r s ≡ stopped_by (Err k) r
  refused-moved k s h = let (f, p) = refused k h in rw f (go k.0 p)
    where
      go : (n : ℕ) → 0 < n → moved_by n r s ≡ stopped_by (Err (record { 0 = n })) r
      go zero l = absurd (omega arith)
      go (suc n) l = refl

  pub refused-store : (k : Refused) (store : List ℕ) (s : Step) → asked questions r ≡ Err k → stored_by (refusal me count bytes i r e n) i store s ≡ store
  refused-store k store s h = let (f, p) = refused k h in rw f (go k.0 p)
    where
      go : (n : ℕ) → 0 < n → stored_by n i store s ≡ store
      go zero l = absurd (omega arith)
      go (suc n) l = refl

  -- the same, of an answer a that the questions gave
  pub stops : (a : Asked) (k : Refused) (s : Step) → a ≡ asked questions r → a ≡ Err k → stopped_by a r ≡ moved_by (refusal me count bytes i r e n) r s
  stops a k s h g = ap (λ (x : Asked). stopped_by x r) g ∙ sym (refused-moved k s (sym h ∙ g))

  pub stops-store : (a : Asked) (k : Refused) (store : List ℕ) (s : Step) → a ≡ asked questions r → a ≡ Err k
      → store ≡ stored_by (refusal me count bytes i r e n) i store s
  stops-store a k store s h g = sym (refused-store k store s (sym h ∙ g))

  -- an accepted event does its step on the record that was passed on
  pub goes : (a : Asked) (x : Record) (s : Record → Step) → a ≡ asked questions r → a ≡ Ok x
      → moved_by 0 x (s x) ≡ moved_by (refusal me count bytes i r e n) r (s r)
  goes a x s h g = rw (accepted x (sym h ∙ g), same-record x (sym h ∙ g))

  pub goes-store : (a : Asked) (x : Record) (store : List ℕ) (s : Record → Step) → a ≡ asked questions r → a ≡ Ok x
      → storing i (s x).stored store ≡ stored_by (refusal me count bytes i r e n) i store (s r)
  goes-store a x store s h g = rw (accepted x (sym h ∙ g), same-record x (sym h ∙ g))

-- the events that store nothing
abbrev pub Quiet : Event → Type 0
Quiet Read = Unit
Quiet Ask = Unit
Quiet Write = ⊥
Quiet (Commit t) = ⊥
Quiet Replay = Unit
Quiet (Deliver m) = ⊥
Quiet Validate = Unit
Quiet Resend = Unit

still : (k i : ℕ) (r : Record) (store : List ℕ) (s : Step) → s.stored ≡ kept → decide k i r store s ≡ record { moved = moved_by k r s; store = store }
still zero i r store s e = rw e
still (suc k) i r store s e = refl

-- such an event leaves the store, accepted or not, and looks at no value
pub quiet : (wins : Orders) (me : Replica) (count i : ℕ) (r : Record) (store : List ℕ) (e : Event) (v : List ℕ) → Quiet e
    → effect wins me count i r store e v ≡ record { moved = moved wins me count (length store) i r e []; store = store }
unfolding effect moved refusal
quiet wins me count i r store Read v q = still (refusal me count (length store) i r Read 0) i r store (read_step r) refl
quiet wins me count i r store Ask v q = still (refusal me count (length store) i r Ask 0) i r store (read_step r) refl
quiet wins me count i r store Write v q = absurd q
quiet wins me count i r store (Commit t) v q = absurd q
quiet wins me count i r store Replay v q = still (refusal me count (length store) i r Replay 0) i r store (replay_step me i r) refl
quiet wins me count i r store (Deliver m) v q = absurd q
quiet wins me count i r store Validate v q = still (refusal me count (length store) i r Validate 0) i r store (validate_step me i r) refl
quiet wins me count i r store Resend v q = still (refusal me count (length store) i r Resend 0) i r store (resend_step me i r) refl

-- a refused read has the empty part
pub no_part : (k : ℕ) (v : List ℕ) → 0 < k → [] ≡ part_of k v
no_part zero v l = absurd (omega arith)
no_part (suc k) v l = refl

-- and a refused ask no timestamp
pub no-stamp : (k : ℕ) (t : Timestamp) → 0 < k → record { version = 0; tie = 0 } ≡ stamp_handed k t
no-stamp zero t l = absurd (omega arith)
no-stamp (suc k) t l = refl
