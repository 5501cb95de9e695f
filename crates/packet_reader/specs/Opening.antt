-- What the first questions come to, for a fetch and an acceptance alike. No public contract names these; they serve the reader.
use Rattle.std.specs.Prelude.{ℕ, ◌≤◌, ◌≡◌, true, List, length, Result, Ok, Err}
use Rattle.hermes_record.specs.declared.timestamp.Rule.{Rule}
use Rattle.hermes_record.specs.Order.{rule_number}
use Rattle.hermes.specs.declared.event.Refused.{Refused}
use Rattle.packet_format.specs.declared.answer.Accepted.{Accepted}
use Rattle.packet_format.specs.Reading.{rule_in, count_of, entry_place, question20, fetched}
use Rattle.packet_format.specs.Accepting.{accepted}

-- questions 20, 27 and 21 let the packet p pass in a group of this rule
pub record Passed (rule : Rule) (p : List ℕ) : Type 0 where
  pub header : (question20 p).yes ≡ true
  pub own : rule_in p ≡ rule_number rule
  pub whole : entry_place (count_of p) ≤ length p

-- every fetch and the acceptance answer this no
pub record Turned (rule : Rule) (p : List ℕ) (r : Refused) : Type 0 where
  pub fetching : (i : ℕ) → Err r ≡ fetched rule p i
  pub accepting : ◌≡◌ {A = Accepted} (record { number = r.0; count = 0 }) (accepted rule p)

-- 20, 27 and 21, with the count of messages
abbrev pub Opened : Rule → List ℕ → Result ℕ Refused → Type 0
Opened rule p (Ok count) = Passed rule p × (count ≡ count_of p)
Opened rule p (Err r) = Turned rule p r

-- and 22
abbrev pub Judged : Rule → List ℕ → Result ℕ Refused → Type 0
Judged rule p (Ok count) = ◌≡◌ {A = Accepted} (record { number = 0; count = count }) (accepted rule p)
Judged rule p (Err r) = ◌≡◌ {A = Accepted} (record { number = r.0; count = 0 }) (accepted rule p)
