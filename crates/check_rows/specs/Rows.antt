-- The one table: the rows of document 01, "From the ringing table", marked P, and those that pin its numbers and limits.
-- What a row about an event says stands in `hermes/specs/Worked`, its data in `hermes/specs/Rows` and `Limits`; of packets both in
-- `packet_format/specs/Rows`, and of messages that cross as words in `packet_words/specs/Rows`.
use Rattle.std.specs.Prelude.{List, map, ◌++◌}
use Rattle.hermes.specs.Worked as event
use Rattle.hermes.specs.Rows as events
use Rattle.packet_format.specs.Rows as packets
use Rattle.packet_words.specs.Rows as words

pub data Row : Type 0 where
  of_event : event.Row → Row
  of_packet : packets.Row → Row
  of_words : words.Row → Row

-- what a row says; an event's is of the one laptop that all of these rows are about
abbrev pub Holds : Row → Type 0
Holds (of_event r) = event.Holds events.unstarted r
Holds (of_packet r) = packets.Holds r
Holds (of_words r) = words.Holds r

unfoldable pub rows : List Row
rows = map of_event events.rows ++ (map of_packet packets.rows ++ map of_words words.rows)
