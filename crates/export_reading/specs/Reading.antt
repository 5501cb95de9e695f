-- What an exported read and an exported ask give. The other events are `Done` of export_calls.
use Rattle.std.specs.Prelude.{ℕ, ◌≡◌, Result, Ok, Err, []}
use Rattle.hermes_record.specs.declared.timestamp.Timestamp.{Timestamp}
use Rattle.hermes_record.specs.declared.record.Record.{Record}
use Rattle.hermes.specs.declared.event.Refused.{Refused}
use Rattle.hermes.specs.declared.event.Subject.{Subject}
use Rattle.hermes.specs.declared.event.Event.TheVariants.{Read, Ask}
use Rattle.hermes_record.specs.Order.{ties}
use Rattle.hermes.specs.Event.{number_of}
use Rattle.hermes.specs.Node.{Node, apply, read, asked}
use Rattle.export_numbers.specs.declared.numbers.CetskobiReading.{CetskobiReading}
use Rattle.export_numbers.specs.declared.numbers.CetskobiAsked.{CetskobiAsked}
use Rattle.export_calls.specs.Part.{PartAt}

-- 01, Read: its number, and the value as that part of the store that begins at 192 times the record's number; of a refused read the empty part
pub record ReadDone (n : Node) (i : ℕ) (p : CetskobiReading) : Type 0 where
  pub number : p.number ≡ number_of (apply ties n i Read []).answer
  pub part : PartAt n.store i (read n i) p.len

-- 02, Wish 5, Ask: the same, and the stamp; of a refused ask the empty part and (0, 0)
pub record AskDone (n : Node) (i : ℕ) (p : CetskobiAsked) : Type 0 where
  pub number : p.number ≡ number_of (apply ties n i Ask []).answer
  pub part : PartAt n.store i (asked n i).part p.len
  pub version : p.version ≡ (asked n i).timestamp.version
  pub tie : p.tie ≡ (asked n i).timestamp.tie

-- ---- the same of what the code hands out, or of the question that said no

abbrev pub found_by : Result Subject Refused → Result Record Refused
found_by (Ok s) = Ok s.found
found_by (Err e) = Err e

abbrev pub reading_of : Result Record Refused → CetskobiReading
reading_of (Ok r) = record { number = 0; len = r.len }
reading_of (Err e) = record { number = e.0; len = 0 }

abbrev pub asked_of : Result (Record × Timestamp) Refused → CetskobiAsked
asked_of (Ok p) = record { number = 0; tie = p.1.tie; version = p.1.version; len = p.0.len }
asked_of (Err e) = record { number = e.0; tie = 0; version = 0; len = 0 }
