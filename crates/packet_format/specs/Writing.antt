-- Writing: the packet of messages, questions 24 and 25, the answer and the output (01, "Writing takes messages and their bodies end to end").
use Rattle.std.specs.Prelude.{ℕ, zero, suc, ◌+◌, Bool, true, ◌&&◌, List, [], ◌∷◌, ◌++◌, leb, eqb, length, drop, Err, Ok}
use Rattle.hermes_record.specs.declared.timestamp.Rule.{Rule}
use Rattle.hermes_record.specs.Order.{rule_number}
use Rattle.hermes.specs.Guards.{Question, ask, first_no}
use Rattle.packet_format.specs.declared.entry.Entry.{Entry}
use Rattle.hermes.specs.Answer.{no}
use Rattle.packet_format.specs.Answer.{Written}
use Rattle.packet_format.specs.Bytes.{be}
use Rattle.packet_format.specs.Entry.{fields_for, entry_bytes, good}
use Rattle.packet_format.specs.Reading.{entry_place}

-- the summed length of the bodies
unfoldable pub summed : List Entry → ℕ
summed [] = 0
summed (e ∷ es) = e.len + summed es

-- the contents table of messages, the first of whose bodies begins at `at`: each next one begins where the one before it ends
unfoldable pub contents : ℕ → List Entry → List ℕ
contents at [] = []
contents at (e ∷ es) = entry_bytes (fields_for e at) ++ contents (at + e.len) es

-- the total length of a packet of so many messages
abbrev pub total_of : ℕ → List ℕ → ℕ
total_of count bodies = entry_place count + length bodies

-- 01, "contents first": byte 0, the count, the total, the contents table, the bodies. Byte 0 is the number of the group's rule (02, Wish 6)
unfoldable pub packet_bytes : Rule → List Entry → List ℕ → List ℕ
packet_bytes rule es bodies =
    rule_number rule ∷ length es ∷ be 2 (total_of (length es) bodies) ++ contents (entry_place (length es)) es ++ bodies

-- fields as in 22, of every message; an offset is none of them
unfoldable pub all_good : List Entry → Bool
all_good [] = true
all_good (e ∷ es) = good (fields_for e 0) && all_good es

-- 24: count 1 to 64, fields as in 22, bodies of exactly the summed length?
abbrev pub question24 : List Entry → List ℕ → Question
question24 es bodies = ask 24 (leb 1 (length es) && leb (length es) 64 && all_good es && eqb (summed es) (length bodies))

-- 25: total at most 1,400 and within the lent output?
abbrev pub question25 : ℕ → List ℕ → ℕ → Question
question25 count bodies room = ask 25 (leb (total_of count bodies) 1400 && leb (total_of count bodies) room)

-- the number that a write answers, of these messages and an output of `room` bytes
unfoldable pub write_refusal : List Entry → List ℕ → ℕ → ℕ
write_refusal es bodies room = first_no (question24 es bodies ∷ question25 (length es) bodies room ∷ [])

-- each case of an answer, by its number: 0 with the packet's total length, or the number of the question that said no
abbrev pub written_as : ℕ → ℕ → Written
written_as zero total = Ok total
written_as (suc k) total = Err (no (suc k))

unfoldable pub packet_written : List Entry → List ℕ → ℕ → Written
packet_written es bodies room = written_as (write_refusal es bodies room) (total_of (length es) bodies)

-- the number of an answer
abbrev pub written_number : Written → ℕ
written_number (Ok n) = 0
written_number (Err r) = r.0

-- the output after a write of a group of this rule: 01, "Output past the total is untouched"; a "no" leaves every lent byte as found
unfoldable pub output_of : Rule → Written → List Entry → List ℕ → List ℕ → List ℕ
output_of rule (Ok n) es bodies out = packet_bytes rule es bodies ++ drop n out
output_of rule (Err r) es bodies out = out
