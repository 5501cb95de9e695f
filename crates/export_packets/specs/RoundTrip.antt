-- Demand 2 of packets, as C has it: "A packet written reads back as the same messages, and an accepted packet is the one the writer makes of its messages."
use Rattle.std.specs.Prelude.{ℕ, zero, suc, ◌+◌, ◌≤◌, ◌<◌, ◌≡◌, List, [], ◌∷◌, ◌++◌, length, take, drop}
use Rattle.hermes_record.specs.declared.timestamp.Rule.{Rule}
use Rattle.hermes.specs.Store.{Bytes}
use Rattle.packet_format.specs.Reading.{count_of, entry_place, bodies_in}
use Rattle.packet_words.specs.ReadBack.{many_in, word, body_from}
use Rattle.export_fields.specs.declared.answers.CetskobiFetched.{CetskobiFetched}
use Rattle.export_packets.specs.Calls.{fetch_answer, pack_answer, pack_output}

-- ---- what `cetskobi_pack` wrote, `cetskobi_fetch` reads

-- every field of message k is the word that was passed for it, its body the bytes that were; past the last message a 23
pub record Fetches (rule : Rule) (packet messages bodies : List ℕ) : Type 0 where
  pub message : (k : ℕ) → k < many_in messages
      → fetch_answer rule packet k
      ≡ record {
        number = 0;
        kind = word messages k 0;
        sender = word messages k 1;
        tie = word messages k 5;
        epoch = word messages k 2;
        version = word messages k 4;
        index = word messages k 3;
        at = entry_place (many_in messages) + body_from messages k;
        len = word messages k 6;
      }
  pub body : (k : ℕ) → k < many_in messages
      → take (fetch_answer rule packet k).len (drop (fetch_answer rule packet k).at packet) ≡ take (word messages k 6) (drop (body_from messages k) bodies)
  pub beyond : (k : ℕ) → many_in messages ≤ k → (fetch_answer rule packet k).number ≡ 23

-- "A packet written reads back as the same messages": whatever `cetskobi_pack` accepts, `cetskobi_fetch` gives again
abbrev pub PackedIsFetched : Type 0
PackedIsFetched = (rule : Rule) (messages bodies out : List ℕ) → (pack_answer messages bodies out).number ≡ 0
    → Fetches rule (take (pack_answer messages bodies out).len (pack_output rule messages bodies out)) messages bodies

-- ---- what `cetskobi_fetch` reads, `cetskobi_pack` writes

-- the words of a message that was fetched
abbrev pub words_out : CetskobiFetched → List ℕ
words_out f = f.kind ∷ f.sender ∷ f.epoch ∷ f.index ∷ f.version ∷ f.tie ∷ f.len ∷ []

-- those of n messages of a packet, from message i on
abbrev pub words_from : Rule → ℕ → ℕ → List ℕ → List ℕ
words_from rule zero i packet = []
words_from rule (suc n) i packet = words_out (fetch_answer rule packet i) ++ words_from rule n (suc i) packet

-- a packet that is read is written again, of the words of all its messages and their bodies, and what stood behind it in the output stays
pub record Repacks (rule : Rule) (packet out : List ℕ) : Type 0 where
  pub answer : pack_answer (words_from rule (count_of packet) 0 packet) (bodies_in packet) out ≡ record { number = 0; len = length packet }
  pub output : pack_output rule (words_from rule (count_of packet) 0 packet) (bodies_in packet) out ≡ packet ++ drop (length packet) out

-- "an accepted packet is the one the writer makes of its messages": of any packet that `cetskobi_fetch` takes a message from
abbrev pub FetchedIsPacked : Type 0
FetchedIsPacked = (rule : Rule) (packet : List ℕ) (i : ℕ) (out : List ℕ) → Bytes packet → (fetch_answer rule packet i).number ≡ 0 → length packet ≤ length out
    → Repacks rule packet out
