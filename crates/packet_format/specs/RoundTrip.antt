-- Demand 2 of packets, in a group of either rule of ties: "A packet written reads back as the same messages, and an accepted packet is the one the
-- writer makes of its messages."
use Rattle.std.specs.Prelude.{ℕ, ◌+◌, ◌≤◌, ◌<◌, ◌≡◌, List, ◌++◌, ◌≢◌, length, take, drop, get_or, Err, Ok}
use Rattle.hermes_record.specs.declared.timestamp.Rule.{Rule}
use Rattle.hermes.specs.Store.{Bytes}
use Rattle.packet_format.specs.declared.entry.Entry.{Entry}
use Rattle.hermes.specs.Answer.{no}
use Rattle.packet_format.specs.Entry.{no_entry}
use Rattle.packet_format.specs.Reading.{entry_place, packet_messages, bodies_in, fetched, body_of}
use Rattle.packet_format.specs.Accepting.{Refuses}
use Rattle.packet_format.specs.Writing.{summed, packet_written, output_of}

-- In a group of this rule a packet p reads back as the messages es with these bodies end to end: at every i below their number the message, with
-- its body; past it a 23.
pub record ReadsBack (rule : Rule) (p : List ℕ) (es : List Entry) (bodies : List ℕ) : Type 0 where
  pub message : (i : ℕ) → i < length es → fetched rule p i ≡ Ok (get_or es i no_entry, entry_place (length es) + summed (take i es))
  pub body : (i : ℕ) → i < length es → body_of p (fetched rule p i) ≡ take (get_or es i no_entry).len (drop (summed (take i es)) bodies)
  pub beyond : (i : ℕ) → length es ≤ i → fetched rule p i ≡ Err (no 23)

-- A packet written reads back as the same messages: whatever the writer accepts, the first n bytes of its output read back as what was handed to it.
abbrev pub WrittenReadsBack : Type 0
WrittenReadsBack = (rule : Rule) (es : List Entry) (bodies out : List ℕ) (n : ℕ) → packet_written es bodies (length out) ≡ Ok n
    → ReadsBack rule (take n (output_of rule (Ok n) es bodies out)) es bodies

-- 02, Wish 6: what a group of one rule writes, a group of the other refuses with 27, and hands on the empty part.
abbrev pub WrittenOtherRule : Type 0
WrittenOtherRule = (rule other : Rule) (es : List Entry) (bodies out : List ℕ) (n : ℕ) → rule ≢ other → packet_written es bodies (length out) ≡ Ok n
    → Refuses other (take n (output_of rule (Ok n) es bodies out)) 27

-- The writer of a group of this rule, handed the messages of the packet p and their bodies, accepts them and makes exactly p;
-- and those messages are the ones that p reads as.
pub record Rewritten (rule : Rule) (p : List ℕ) (out : List ℕ) : Type 0 where
  pub answer : packet_written (packet_messages p) (bodies_in p) (length out) ≡ Ok (length p)
  pub output : output_of rule (Ok (length p)) (packet_messages p) (bodies_in p) out ≡ p ++ drop (length p) out
  pub reads : ReadsBack rule p (packet_messages p) (bodies_in p)

-- A packet accepted in a group is the one that the group's writer makes of its messages, wherever the output has room for it.
abbrev pub AcceptedIsWritten : Type 0
AcceptedIsWritten = (rule : Rule) (p : List ℕ) (i : ℕ) (e : Entry) (at : ℕ) (out : List ℕ) → Bytes p → fetched rule p i ≡ Ok (e, at) → length p ≤ length out
    → Rewritten rule p out
