-- What the reader and the writer answer, as the code has it: antt has no name for an alias, so each stands here once more.
use Rattle.std.specs.Prelude.{ℕ, Result}
use Rattle.hermes.specs.declared.event.Refused.{Refused}
use Rattle.packet_format.specs.declared.entry.Entry.{Entry}
use Rattle.packet_format.specs.declared.entry.Fields.{Fields}

-- the answer to a fetch: the message and the offset of its body, or the no
abbrev pub Fetched : Type 0
Fetched = Result (Entry × ℕ) Refused

-- the answer to a taking: the entry's fields as they stand there, or the no
abbrev pub Taken : Type 0
Taken = Result Fields Refused

-- the answer to a write: the packet's total length, or the no
abbrev pub Written : Type 0
Written = Result ℕ Refused
