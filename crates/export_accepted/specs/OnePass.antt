-- 02, Wish 4: the delivery of a whole packet in one pass is that of each of its messages by itself.
use Rattle.std.specs.Prelude.{◌≡◌, List, ℕ, Err, Ok}
use Rattle.packet_format.specs.Answer.{Fetched}
use Rattle.packet_format.specs.Reading.{fetched}
use Rattle.packet_format.specs.Accepting.{accepted, taken}
use Rattle.export_numbers.specs.declared.numbers.CetskobiReplica.{CetskobiReplica}
use Rattle.export_numbers.specs.declared.numbers.CetskobiAnswer.{CetskobiAnswer}
use Rattle.export_numbers.specs.Crossing.{group_rule}
use Rattle.export_calls.specs.Calls.{node_of}
use Rattle.export_arrival.specs.Arrival.{Arrived}
use Rattle.export_accepted.specs.declared.accepted.CetskobiArrival.{CetskobiArrival}
use Rattle.export_accepted.specs.Arrival.{Came}

-- which message a fetch found: whose it is, of which epoch, and about which record; also where its delivery is refused
abbrev pub arrival_for : Fetched → CetskobiAnswer → CetskobiArrival
arrival_for (Ok (e, at)) a = record { answer = a; epoch = e.header.epoch; sender = e.header.sender; index = e.header.index }
arrival_for (Err e) a = record { answer = a; epoch = 0; sender = 0; index = 0 }

-- a delivery that did what `cetskobi_deliver_packet` does of message i, to answer, table and store, and that tells which message it was
pub record AsFetched (me : CetskobiReplica) (table store packet : List ℕ) (i : ℕ) (r : CetskobiArrival) (table' store' : List ℕ) : Type 0 where
  pub arrived : Arrived (node_of me table store) table packet (fetched (group_rule me) packet i) r.answer table' store'
  pub message : r ≡ arrival_for (fetched (group_rule me) packet i) r.answer

-- Whatever `cetskobi_deliver_accepted` does of message i by the packet's own facts, those of the laptop's own group, `cetskobi_deliver_packet` does of message i. `proofs/OnePass` proves it.
abbrev pub DeliversAll : Type 0
DeliversAll = (me : CetskobiReplica) (table store packet : List ℕ) (i : ℕ) (r : CetskobiArrival) (table' store' : List ℕ)
    → Came (node_of me table store) table packet (taken packet (accepted (group_rule me) packet) i) r table' store'
    → AsFetched me table store packet i r table' store'
