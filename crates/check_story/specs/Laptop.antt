-- A laptop of the story as a replica with its memory.
use Rattle.std.specs.Prelude.{Result, Ok, Err}
use Rattle.hermes.specs.declared.event.Refused.{Refused}
use Rattle.hermes.specs.Node.{Node, lent, Start}
use Rattle.check_story.specs.declared.laptop.Laptop.{Laptop}

abbrev pub node_of : Laptop → Node
node_of l = lent l.me l.records l.bytes

-- what a fresh start came to: the laptop with its memory, or the no
abbrev pub started : Start → Result Laptop Refused
started s = elim s.admission [ Ok me ↦ Ok (record { me = me; records = s.table; bytes = s.store }) | Err e ↦ Err e ]
