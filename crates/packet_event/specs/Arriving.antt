-- A fetch as an event on a record of the lent table.
-- Of the public contracts only those of `delivery_in`, which serves `packet_table`, and `event_in` name these.
use Rattle.std.specs.Prelude.{Result, Err, Ok}
use Rattle.hermes.specs.declared.event.Event.TheVariants.{Deliver, Read}
use Rattle.hermes.specs.declared.event.Refused.{Refused}
use Rattle.packet_format.specs.Answer.{Fetched}
use Rattle.packet_event.specs.declared.arriving.Arriving.{Arriving}
use Rattle.packet_event.specs.Arrival.{received_of}

-- a delivery; of a refused packet the no
abbrev pub delivery_of : Fetched → Result Arriving Refused
delivery_of (Ok (e, at)) = Ok (record { fetched = Ok (e, at); index = e.header.index; event = Deliver (received_of e) })
delivery_of (Err r) = Err r

-- a delivery; of a refused packet a read of record 4096, which question 4 refuses, or one before it
abbrev pub arriving_of : Fetched → Arriving
arriving_of (Ok (e, at)) = record { fetched = Ok (e, at); index = e.header.index; event = Deliver (received_of e) }
arriving_of (Err r) = record { fetched = Err r; index = 4096; event = Read }
