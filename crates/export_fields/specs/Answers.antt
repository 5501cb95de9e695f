-- How the answers of the packet's reader and writer cross as numbers.
use Rattle.std.specs.Prelude.{ℕ, Err, Ok}
use Rattle.packet_format.specs.declared.entry.Fields.{Fields}
use Rattle.packet_format.specs.Answer.{Fetched, Taken, Written}
use Rattle.packet_format.specs.declared.answer.Accepted.{Accepted}
use Rattle.packet_format.specs.Entry.{fields_for}
use Rattle.export_fields.specs.declared.answers.CetskobiAccepted.{CetskobiAccepted}
use Rattle.export_fields.specs.declared.answers.CetskobiFetched.{CetskobiFetched}
use Rattle.export_fields.specs.declared.answers.CetskobiWritten.{CetskobiWritten}

-- ---- reading

-- an answer with these fields, whose body begins at the offset
abbrev pub fields_out : ℕ → Fields → CetskobiFetched
fields_out number f = record {
  number = number;
  kind = f.kind;
  sender = f.sender;
  tie = f.tie;
  epoch = f.epoch;
  version = f.version;
  index = f.index;
  at = f.offset;
  len = f.len;
}

-- no field: what goes with a refusal
abbrev pub no_fields : Fields
no_fields = record { kind = 0; sender = 0; epoch = 0; index = 0; version = 0; tie = 0; offset = 0; len = 0 }

-- 01, "Reading fetches message i": 0 with the message and where its body begins, or the number of the question that said no
abbrev pub fetched_out : Fetched → CetskobiFetched
fetched_out (Ok (e, at)) = fields_out 0 (fields_for e at)
fetched_out (Err e) = fields_out e.0 no_fields

-- 02, Wish 4: the same of a message taken; its entry's fields cross as they stand there
abbrev pub taken_out : Taken → CetskobiFetched
taken_out (Ok f) = fields_out 0 f
taken_out (Err e) = fields_out e.0 no_fields

-- the facts of a packet, there and back
abbrev pub accepted_out : Accepted → CetskobiAccepted
accepted_out a = record { number = a.number; count = a.count }

abbrev pub accepted_in : CetskobiAccepted → Accepted
accepted_in a = record { number = a.number; count = a.count }

-- ---- writing

-- 0 with the packet's total length, or the number of the question that said no
abbrev pub written_out : Written → CetskobiWritten
written_out (Ok n) = record { number = 0; len = n }
written_out (Err e) = record { number = e.0; len = 0 }
