-- What an exported delivery from a packet does.
use Rattle.std.specs.Prelude.{ℕ, ◌≡◌, List, Err, Ok}
use Rattle.hermes.specs.declared.event.Event.TheVariants.{Deliver}
use Rattle.hermes_record.specs.Order.{ties}
use Rattle.hermes.specs.Node.{Node, effect_of}
use Rattle.packet_format.specs.declared.entry.Fields.{Fields}
use Rattle.packet_format.specs.Answer.{Fetched}
use Rattle.packet_format.specs.Reading.{body_of}
use Rattle.packet_event.specs.Arrival.{received_of, receipt_of}
use Rattle.export_records.specs.Layout.{table_of}
use Rattle.export_storing.specs.Storing.{bytes_after}
use Rattle.export_numbers.specs.declared.numbers.CetskobiAnswer.{CetskobiAnswer}
use Rattle.export_numbers.specs.declared.numbers.CetskobiMessage.{CetskobiMessage}
use Rattle.export_numbers.specs.Crossing.{answer_out}

-- a packet's message as `cetskobi_deliver` takes it
abbrev pub numbers_of : Fields → CetskobiMessage
numbers_of f = record { kind = f.kind; sender = f.sender; tie = f.tie; epoch = f.epoch; version = f.version }

-- the bytes after the delivery of what a fetch from the packet p answered
abbrev pub bytes_arrived : Node → List ℕ → List ℕ → Fetched → List ℕ
bytes_arrived n before p (Ok (e, at)) =
    bytes_after (effect_of ties n e.header.index (Deliver (received_of e)) (body_of p (Ok (e, at)))).moved before e.header.index
bytes_arrived n before p (Err e) = before

-- the answer, the bytes, the table that they hold, and the store after it
pub record Arrived (n : Node) (before p : List ℕ) (f : Fetched) (a : CetskobiAnswer) (bytes' store' : List ℕ) : Type 0 where
  pub answer : a ≡ answer_out (receipt_of ties n p f).answer
  pub bytes : bytes' ≡ bytes_arrived n before p f
  pub table : table_of bytes' ≡ (receipt_of ties n p f).node.table
  pub store : store' ≡ (receipt_of ties n p f).node.store
