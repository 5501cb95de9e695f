-- What an accepted acknowledgement comes to, by what question 15 says of the record with its sender counted.
use Rattle.std.specs.Prelude.{ℕ, ◌≡◌, Bool, true, false, [], ◌∷◌, None, Ok, Err}
use Rattle.std.proofs.Common.{sym, refl, ◌∙◌}
use Rattle.hermes_record.specs.declared.record.Record.{Record}
use Rattle.hermes_record.specs.Record.{acknowledged}
use Rattle.hermes.specs.declared.event.Refused.{Refused}
use Rattle.hermes.specs.declared.event.Replica.{Replica}
use Rattle.hermes.specs.declared.event.Moved.{Moved}
use Rattle.hermes.specs.Guards.{question15}
use Rattle.hermes.specs.Event.{moved_by, completes, ack_step, validate_step}
use Rattle.replica_asking.specs.Cascade.{Asked, asked, next}

module _ (me : Replica) (i : ℕ) (r : Record) (sender : ℕ) (counted : Record) (a : Asked)
    (counts : counted ≡ acknowledged r sender) (asks : a ≡ asked (question15 me counted ∷ []) counted) where
  abbrev step : Moved
  step = moved_by 0 r (ack_step (completes me r sender) me i r sender)

  -- somebody is missing: counted, and no more
  pub waits : (k : Refused) → a ≡ Err k → record { answer = Ok None; after = counted } ≡ step
  waits k e = rw counts (go (completes me r sender) (rw counts at (sym asks ∙ e)))
    where
      go : (b : Bool) → next b (Ok (acknowledged r sender)) 15 ≡ Err k
          → record { answer = Ok None; after = acknowledged r sender } ≡ moved_by 0 r (ack_step b me i r sender)
      go true z = absurd (cc)
      go false z = refl

  -- it was the last
  pub settles : (x : Record) → a ≡ Ok x → moved_by 0 x (validate_step me i x) ≡ step
  settles x e = go (completes me r sender) (rw counts at (sym asks ∙ e))
    where
      go : (b : Bool) → next b (Ok (acknowledged r sender)) 15 ≡ Ok x → moved_by 0 x (validate_step me i x) ≡ moved_by 0 r (ack_step b me i r sender)
      go true z = let q : x ≡ acknowledged r sender = cc in rw q
      go false z = absurd (cc)
