-- A save asks, beside all else, that the value fits; so record and store, each by itself, are those of the event's effect.
use Rattle.std.proofs.Common.{ℕ, ◌≡◌, ◌≤◌, true, List, [], ◌∷◌, length, refl, ap, ◌∙◌}
use Rattle.std.specs.Prelude.{Option, None, Some}
use Rattle.hermes_record.specs.declared.timestamp.Timestamp.{Timestamp}
use Rattle.hermes_record.specs.declared.record.Record.{Record}
use Rattle.hermes.specs.declared.event.Replica.{Replica}
use Rattle.hermes.specs.declared.event.Event.{Event}
use Rattle.hermes.specs.declared.event.Event.TheVariants.{Read, Ask, Write, Commit, Replay, Deliver, Validate, Resend}
use Rattle.hermes.specs.declared.event.Moved.{Moved}
use Rattle.hermes_record.specs.Order.{ties}
use Rattle.hermes.specs.Guards.{AllYes, question8, question9}
use Rattle.hermes.specs.Event.{common, own, refusal, step, moved, effect, write_step}
use Rattle.hermes.proofs.Guards.{event-passed, own-passed, write-own, commit-own}
use Rattle.replica_asking.specs.Cascade.{Asked, asked}
use Rattle.replica_outcome.specs.Placing.{room, stored_for}
use Rattle.replica_outcome.proofs.Bytes.{room-passed, stored-for}
use Rattle.replica_saving.specs.Saving.{save_of, first_of}

-- the events that save their value
abbrev pub Saves : Event → Type 0
Saves Read = ⊥
Saves Ask = ⊥
Saves Write = Unit
Saves (Commit t) = Unit
Saves Replay = ⊥
Saves (Deliver m) = ⊥
Saves Validate = ⊥
Saves Resend = ⊥

-- each of them is a write or a commit
pub saves_as : (e : Event) → Saves e → (opened : Option Timestamp) × (save_of opened ≡ e)
saves_as Write s = (None, refl)
saves_as (Commit t) s = (Some t, refl)
saves_as Read s = absurd s
saves_as Ask s = absurd s
saves_as Replay s = absurd s
saves_as (Deliver m) s = absurd s
saves_as Validate s = absurd s
saves_as Resend s = absurd s

module _ (me : Replica) (i : ℕ) (r : Record) where
  -- the questions of a write and of a commit differ in the first
  pub saves-own : (opened : Option Timestamp) (n : ℕ) → own me r (save_of opened) n ≡ first_of opened r ∷ question8 n ∷ question9 r ∷ []
  saves-own None n = refl
  saves-own (Some t) n = refl

  -- the same questions, where the code gives the number of bytes another name
  pub as_asked : (opened : Option Timestamp) (count bytes n : ℕ) {a : Asked} → a ≡ asked (common me count bytes i r (own me r (save_of opened) n)) r
      → (n' : ℕ) → n ≡ n' → a ≡ asked (common me count bytes i r (own me r (save_of opened) n')) r
  as_asked opened count bytes n e n' is = e ∙ ap (λ (k : ℕ). asked (common me count bytes i r (own me r (save_of opened) k)) r) is

  fits-own : (opened : Option Timestamp) (n : ℕ) → AllYes (own me r (save_of opened) n) → n ≤ 192
  fits-own None n y = (write-own me r n y).fits
  fits-own (Some t) n y = (commit-own me r t n y).fits

  -- question 8
  pub saves-fit : (opened : Option Timestamp) (count bytes n : ℕ) → refusal me count bytes i r (save_of opened) n ≡ 0 → n ≤ 192
  saves-fit opened count bytes n z = fits-own opened n (own-passed me count bytes i r (save_of opened) n z)

  -- their step is that of a write
  pub saves-step : (opened : Option Timestamp) (v : List ℕ) → step ties me i r (save_of opened) v ≡ write_step me i r v
  saves-step None v = refl
  saves-step (Some t) v = refl

module _ (me : Replica) (count i : ℕ) (r : Record) (store v : List ℕ) (opened : Option Timestamp) where
  abbrev no : ℕ
  no = refusal me count (length store) i r (save_of opened) (length v)

  fits : no ≡ 0 → room count (length store) i (length v) ≡ true
  fits z = room-passed (event-passed me count (length store) i r (save_of opened) (length v) z) (length v) (saves-fit me i r opened count (length store) (length v) z)

  pub save-moved : moved ties me count (length store) i r (save_of opened) v ≡ (effect ties me count i r store (save_of opened) v).moved
  unfolding moved effect
  save-moved = refl

  pub save-stored : (d : Moved) → d ≡ moved ties me count (length store) i r (save_of opened) v
      → stored_for d.answer count i v store ≡ (effect ties me count i r store (save_of opened) v).store
  unfolding moved effect
  save-stored d h =
      ap (λ (x : Moved). stored_for x.answer count i v store) h
      ∙ stored-for no count i r (step ties me i r (save_of opened) v) v store (rw (saves-step me i r opened v)) fits

-- `save` is proved by these: a proof that names its operands would refuse a right edit of one too
pub ruleset saves = (save-moved, save-stored)
