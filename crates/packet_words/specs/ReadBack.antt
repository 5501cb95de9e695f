-- Demand 2 of packets, over the words that a caller passes and in a group of either rule of ties: "A packet written reads back as the same
-- messages, and an accepted packet is the one the writer makes of its messages."
-- Here every word is named by its place, and no definition of the writer's stands between.
use Rattle.std.specs.Prelude.{ℕ, zero, suc, ◌+◌, ◌*◌, ◌/◌, ◌≤◌, ◌<◌, ◌≡◌, List, [], ◌∷◌, ◌++◌, ◌≢◌, length, take, drop, get_or, Err, Ok}
use Rattle.hermes_record.specs.declared.timestamp.Rule.{Rule}
use Rattle.hermes.specs.Store.{Bytes}
use Rattle.hermes.specs.Kind.{kind_of, timestamp_of, message_of}
use Rattle.packet_format.specs.declared.entry.Entry.{Entry}
use Rattle.hermes.specs.Answer.{no}
use Rattle.packet_format.specs.Reading.{entry_place, packet_messages, bodies_in, fetched, body_of}
use Rattle.packet_format.specs.Accepting.{Refuses}
use Rattle.packet_format.specs.Writing.{output_of}
use Rattle.packet_words.specs.Words.{word_messages, packed}

-- ---- what words say

-- how many messages, seven words for each
abbrev pub many_in : List ℕ → ℕ
many_in words = length words / 7

-- word j of message k: 0 its kind, 1 the sender, 2 the epoch, 3 the record, 4 the version, 5 the tie-breaker, 6 the length of its body
abbrev pub word : List ℕ → ℕ → ℕ → ℕ
word words k j = get_or words (7 * k + j) 0

-- message k
abbrev pub said_by : List ℕ → ℕ → Entry
said_by words k = record {
  header = record { sender = word words k 1; epoch = word words k 2; index = word words k 3 };
  message = message_of (word words k 0) (record { version = word words k 4; tie = word words k 5 });
  len = word words k 6;
}

-- where its body begins among the bodies: behind those of the messages before it
abbrev pub body_from : List ℕ → ℕ → ℕ
body_from words zero = 0
body_from words (suc k) = body_from words k + word words k 6

-- ---- messages packed read back as their words say

-- In a group of this rule a packet p reads back as words and bodies say: at every k below their number the message, of the kind that its word
-- says, with its body; past it a 23.
pub record ReadsAs (rule : Rule) (p words bodies : List ℕ) : Type 0 where
  pub seven : length words ≡ 7 * many_in words
  pub message : (k : ℕ) → k < many_in words → fetched rule p k ≡ Ok (said_by words k, entry_place (many_in words) + body_from words k)
  pub kind : (k : ℕ) → k < many_in words → kind_of (said_by words k).message ≡ word words k 0
  pub body : (k : ℕ) → k < many_in words → body_of p (fetched rule p k) ≡ take (word words k 6) (drop (body_from words k) bodies)
  pub beyond : (k : ℕ) → many_in words ≤ k → fetched rule p k ≡ Err (no 23)

-- Whatever the writer accepts, the first n bytes of its output read back as the words that it was handed.
abbrev pub WordsReadBack : Type 0
WordsReadBack = (rule : Rule) (words bodies out : List ℕ) (n : ℕ) → packed words bodies (length out) ≡ Ok n
    → ReadsAs rule (take n (output_of rule (Ok n) (word_messages words) bodies out)) words bodies

-- 02, Wish 6: and a group of the other rule refuses them with 27, and hands on the empty part.
abbrev pub WordsOtherRule : Type 0
WordsOtherRule = (rule other : Rule) (words bodies out : List ℕ) (n : ℕ) → rule ≢ other → packed words bodies (length out) ≡ Ok n
    → Refuses other (take n (output_of rule (Ok n) (word_messages words) bodies out)) 27

-- ---- an accepted packet is packed again from its messages' words

-- the words of messages
abbrev pub words_of : List Entry → List ℕ
words_of [] = []
words_of (e ∷ es) =
    kind_of e.message
    ∷ e.header.sender
    ∷ e.header.epoch
    ∷ e.header.index
    ∷ (timestamp_of e.message).version
    ∷ (timestamp_of e.message).tie
    ∷ e.len
    ∷ words_of es

-- The writer of a group of this rule, handed the words of the messages of the packet p and their bodies, accepts them and makes exactly p.
pub record Repacked (rule : Rule) (p out : List ℕ) : Type 0 where
  pub answer : packed (words_of (packet_messages p)) (bodies_in p) (length out) ≡ Ok (length p)
  pub output : output_of rule (Ok (length p)) (word_messages (words_of (packet_messages p))) (bodies_in p) out ≡ p ++ drop (length p) out

-- A packet accepted in a group is the one that the group's writer makes of its messages' words, wherever the output has room for it.
abbrev pub AcceptedIsPacked : Type 0
AcceptedIsPacked = (rule : Rule) (p : List ℕ) (i : ℕ) (e : Entry) (at : ℕ) (out : List ℕ) → Bytes p → fetched rule p i ≡ Ok (e, at) → length p ≤ length out
    → Repacked rule p out
