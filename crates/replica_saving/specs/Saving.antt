-- A write and a commit as one event: a commit brings the timestamp that an ask handed out, a write none.
use Rattle.std.specs.Prelude.{Option, None, Some}
use Rattle.hermes_record.specs.declared.timestamp.Timestamp.{Timestamp}
use Rattle.hermes_record.specs.declared.record.Record.{Record}
use Rattle.hermes.specs.declared.event.Event.{Event}
use Rattle.hermes.specs.declared.event.Event.TheVariants.{Write, Commit}
use Rattle.hermes.specs.Guards.{Question, question7, question26}

-- the event
abbrev pub save_of : Option Timestamp → Event
save_of None = Write
save_of (Some t) = Commit t

-- its own first question: 02, Wish 5, of a commit 26 stands "in place of 7"
abbrev pub first_of : Option Timestamp → Record → Question
first_of None r = question7 r
first_of (Some t) r = question26 t r
