-- Delivery from a packet: questions 20, 27 and 21 to 23 first, then the delivery's (01, "Packets" and Deliver; 02, Wish 6).
use Rattle.std.specs.Prelude.{ℕ, List, Err, Ok}
use Rattle.hermes_record.specs.Order.{Orders}
use Rattle.hermes.specs.declared.message.Received.{Received}
use Rattle.hermes.specs.declared.event.Event.TheVariants.{Deliver}
use Rattle.packet_format.specs.Answer.{Fetched}
use Rattle.hermes.specs.Node.{Node, Outcome, apply}
use Rattle.packet_format.specs.declared.entry.Entry.{Entry}
use Rattle.packet_format.specs.Reading.{fetched, body_of}

-- a packet's message as it is delivered
abbrev pub received_of : Entry → Received
received_of e = record { sender = e.header.sender; epoch = e.header.epoch; message = e.message }

-- 01, Deliver, by what the fetch answered; a broken packet gives its number and changes nothing
abbrev pub receipt_of : Orders → Node → List ℕ → Fetched → Outcome
receipt_of wins n p (Ok (e, at)) = apply wins n e.header.index (Deliver (received_of e)) (body_of p (Ok (e, at)))
receipt_of wins n p (Err r) = record { answer = Err r; node = n }

-- message i of the packet p, read by the rule of the laptop's group
unfoldable pub receipt : Orders → Node → List ℕ → ℕ → Outcome
receipt wins n p i = receipt_of wins n p (fetched n.me.settings.rule p i)
