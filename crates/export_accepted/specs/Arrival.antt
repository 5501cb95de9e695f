-- 02, Wish 4: what an exported delivery from an accepted packet does.
use Rattle.std.specs.Prelude.{◌≡◌, List, ℕ, Err, Ok}
use Rattle.hermes.specs.declared.event.Event.TheVariants.{Deliver}
use Rattle.packet_format.specs.Answer.{Taken}
use Rattle.hermes_record.specs.Order.{ties}
use Rattle.hermes.specs.Node.{Node, Outcome, apply}
use Rattle.packet_format.specs.Reading.{body_of}
use Rattle.packet_format.specs.Accepting.{fetched_of}
use Rattle.export_numbers.specs.declared.numbers.CetskobiAnswer.{CetskobiAnswer}
use Rattle.export_numbers.specs.Crossing.{answer_out, received_in}
use Rattle.export_calls.specs.Calls.{Done}
use Rattle.export_arrival.specs.Arrival.{numbers_of}
use Rattle.export_accepted.specs.declared.accepted.CetskobiArrival.{CetskobiArrival}

-- which message came, with the answer to its delivery; zeros where there was none
abbrev pub arrival_of : Taken → CetskobiAnswer → CetskobiArrival
arrival_of (Ok f) a = record { answer = a; epoch = f.epoch; sender = f.sender; index = f.index }
arrival_of (Err e) a = record { answer = a; epoch = 0; sender = 0; index = 0 }

-- the delivery of an entry with its bytes, as of a message from elsewhere; a refused taking gives its number and changes nothing
abbrev pub Delivered : Node → List ℕ → List ℕ → Taken → CetskobiAnswer → List ℕ → List ℕ → Type 0
Delivered n before p (Ok f) a bytes' store' = Done n before f.index (Deliver (received_in (numbers_of f))) (body_of p (fetched_of (Ok f))) a bytes' store'
Delivered n before p (Err e) a bytes' store' = (a ≡ answer_out (Err e)) × (bytes' ≡ before) × (store' ≡ n.store)

-- the same as an event: what it comes to
abbrev pub taken_receipt : Node → List ℕ → Taken → Outcome
taken_receipt n p (Ok f) = apply ties n f.index (Deliver (received_in (numbers_of f))) (body_of p (fetched_of (Ok f)))
taken_receipt n p (Err e) = record { answer = Err e; node = n }

-- the delivery, and which message it was
pub record Came (n : Node) (before p : List ℕ) (t : Taken) (r : CetskobiArrival) (bytes' store' : List ℕ) : Type 0 where
  pub message : r ≡ arrival_of t r.answer
  pub done : Delivered n before p t r.answer bytes' store'
