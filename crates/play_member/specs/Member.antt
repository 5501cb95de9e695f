-- How a member that the code holds by value is read as a replica of the run, what an event on it came to, and the room of the log.
use Rattle.std.specs.Prelude.{ℕ, Bool, true, [], ◌∷◌, replicate, ltb, Option, None, Some}
use Rattle.hermes.specs.Answer.{Outgoing, Answer}
use Rattle.hermes_record.specs.Record.{fresh_record}
use Rattle.hermes.specs.Settings.{old_settings}
use Rattle.hermes.specs.Node.{Node, Start, newcomer, identity, record_at, start}
use Rattle.hermes.specs.Run.{Result, nothing, event}
use Rattle.play_member.specs.declared.member.Member.{Member}

-- a replica of one record
abbrev pub node_of : Member → Node
node_of m = record { me = m.me; table = m.held ∷ []; store = m.store }

-- a fresh start on the memory that is lent to a member, one record and its 192 bytes. 02, Wish 6: the "playing program keep[s] the old rule"
abbrev pub start_in : ℕ → ℕ → Start
start_in view k = start k view old_settings (fresh_record 0 ∷ []) (replicate 192 0)

-- replica k of a group whose first view is this set, as its fresh start leaves it
unfoldable pub fresh_in : ℕ → ℕ → Member
fresh_in view k = record {
  me = identity (start_in view k).admission (newcomer k view old_settings);
  held = record_at (start_in view k).table 0;
  store = (start_in view k).store;
}

-- what an entry came to, with the member after it; no answer where there was no event
abbrev pub result_of : Option Answer → Member → Result
result_of (Some a) m = event (record { answer = a; node = node_of m })
result_of None m = nothing

-- 01, "the log holds 256"
abbrev pub has_room : ℕ → Outgoing → Bool
has_room sent None = true
has_room sent (Some (m, h)) = ltb sent 256
