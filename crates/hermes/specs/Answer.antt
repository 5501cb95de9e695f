-- What an event, a fresh start and a view answer (01, "The answer is one of these numbers, or 0 with the message"), as the code has it: antt has no name
-- for an alias, so each stands here once more.
use Rattle.std.specs.Prelude.{ℕ, Option, Result}
use Rattle.hermes.specs.declared.message.Message.{Message}
use Rattle.hermes.specs.declared.message.Header.{Header}
use Rattle.hermes.specs.declared.event.Refused.{Refused}
use Rattle.hermes.specs.declared.event.Replica.{Replica}

-- 01, "is none, or one of three kinds with its own stamp": what leaves, a message with its header
abbrev pub Outgoing : Type 0
Outgoing = Option (Message × Header)

-- what leaves, or the no
abbrev pub Answer : Type 0
Answer = Result Outgoing Refused

-- the identity from then on, or the no
abbrev pub Admission : Type 0
Admission = Result Replica Refused

-- the no of a question
abbrev pub no : ℕ → Refused
no k = record { 0 = k }
