-- What an ask hands out, by its answer (02, Wish 5).
use Rattle.std.specs.Prelude.{Result, Ok, Err}
use Rattle.hermes_record.specs.declared.timestamp.Timestamp.{Timestamp}
use Rattle.hermes.specs.declared.event.Refused.{Refused}
use Rattle.hermes.specs.Answer.{Answer}

-- "hands out value and stamp"; "refused as a read is"
abbrev pub handed_by : Answer → Timestamp → Result Timestamp Refused
handed_by (Ok o) t = Ok t
handed_by (Err e) t = Err e
