-- The receipt of a packet's message by the event that its fetch comes to, or by its no.
use Rattle.std.proofs.Common.{◌≡◌, ℕ, List, Result, Ok, Err, refl, ap, ◌∙◌}
use Rattle.hermes_record.specs.Order.{Orders}
use Rattle.hermes.specs.declared.event.Refused.{Refused}
use Rattle.hermes.specs.Node.{Node, Outcome, apply}
use Rattle.packet_format.specs.Answer.{Fetched}
use Rattle.packet_format.specs.Reading.{body_of}
use Rattle.packet_event.specs.declared.arriving.Arriving.{Arriving}
use Rattle.packet_event.specs.Arrival.{receipt_of}
use Rattle.packet_event.specs.Arriving.{delivery_of}

module _ (wins : Orders) (n : Node) (p : List ℕ) where
  -- the outcome of what a fetch comes to
  abbrev outcome_of : Result Arriving Refused → Outcome
  outcome_of (Ok a) = apply wins n a.index a.event (body_of p a.fetched)
  outcome_of (Err r) = record { answer = Err r; node = n }

  same : (f : Fetched) → outcome_of (delivery_of f) ≡ receipt_of wins n p f
  same (Ok (e, at)) = refl
  same (Err r) = refl

  pub met : (f : Fetched) (a : Result Arriving Refused) → a ≡ delivery_of f → outcome_of a ≡ receipt_of wins n p f
  met f a e = ap outcome_of e ∙ same f
