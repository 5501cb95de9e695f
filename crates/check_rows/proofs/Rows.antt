-- Every row of the table holds: each is one about an event, one about a packet or one about words, and those hold where their definitions stand.
use mathlib.Core.Path.{sym}
use mathlib.Core.List.Memᴰ
use mathlib.Core.List.{map, ◌++◌, Memᴰ}
use mathlib.Core.Logic.{◌⊎◌, inl, inr}
use Rattle.hermes.specs.Rows as events
use Rattle.packet_format.specs.Rows as packets
use Rattle.packet_words.specs.Rows as words
use Rattle.hermes.proofs.Rows.{events-worked}
use Rattle.packet_format.proofs.Rows.{packets-worked}
use Rattle.packet_words.proofs.Rows.{words-worked}
use Rattle.check_rows.specs.Rows.{Row, of_event, of_packet, of_words, Holds, rows}

-- Every row of the table holds.
pub worked : (r : Row) → Memᴰ r rows → Holds r
unfolding rows
worked r m = go (Memᴰ.append_cases (map of_event events.rows) m)
  where
    packed : Memᴰ r (map of_packet packets.rows) ⊎ Memᴰ r (map of_words words.rows) → Holds r
    packed (inl h) = let (p, k, q) = Memᴰ.of_map of_packet packets.rows h in rw (sym q) (packets-worked p k)
    packed (inr h) = let (w, k, q) = Memᴰ.of_map of_words words.rows h in rw (sym q) (words-worked w k)

    go : Memᴰ r (map of_event events.rows) ⊎ Memᴰ r (map of_packet packets.rows ++ map of_words words.rows) → Holds r
    go (inl h) = let (e, k, q) = Memᴰ.of_map of_event events.rows h in rw (sym q) (events-worked e k)
    go (inr h) = packed (Memᴰ.append_cases (map of_packet packets.rows) h)
