-- 02, Wish 4, of what C and Rust call: "for every input the answer, message and body stay the same". `proofs/OnePass` proves what stands here.
use Rattle.std.specs.Prelude.{ℕ, suc, ◌+◌, ◌≤◌, ◌<◌, ◌≡◌, ◌≢◌, List, [], ◌∷◌, length, take, drop}
use Rattle.hermes_record.specs.declared.timestamp.Rule.{Rule}
use Rattle.hermes_record.specs.declared.timestamp.Rule.TheVariants.{Higher}
use Rattle.packet_format.specs.Reading.{entry_place}
use Rattle.packet_words.specs.ReadBack.{many_in, word, body_from}
use Rattle.export_fields.specs.declared.answers.CetskobiAccepted.{CetskobiAccepted}
use Rattle.export_fields.specs.declared.answers.CetskobiFetched.{CetskobiFetched}
use Rattle.export_fields.specs.Answers.{fields_out, no_fields}
use Rattle.export_packets.specs.Calls.{fetch_answer, accept_answer, take_answer, pack_answer, pack_output}

-- Of every packet and every i `cetskobi_fetch_accepted`, by what `cetskobi_accept` gave of that packet, answers what `cetskobi_fetch` answers:
-- the number, the message, and where its bytes begin and how many they are.
abbrev pub OnePass : Type 0
OnePass = (rule : Rule) (packet : List ℕ) (i : ℕ) → take_answer packet (accept_answer rule packet) i ≡ fetch_answer rule packet i

-- What `cetskobi_accept` tells at once: a refused packet's number, which every fetch answers; or that the messages up to the count are fetched, and no others.
pub record Told (rule : Rule) (packet : List ℕ) : Type 0 where
  pub refused : (k i : ℕ) → (accept_answer rule packet).number ≡ suc k → (fetch_answer rule packet i).number ≡ suc k
  pub found : (i : ℕ) → (accept_answer rule packet).number ≡ 0 → i < (accept_answer rule packet).count → (fetch_answer rule packet i).number ≡ 0
  pub beyond : (i : ℕ) → (accept_answer rule packet).number ≡ 0 → (accept_answer rule packet).count ≤ i → (fetch_answer rule packet i).number ≡ 23

abbrev pub ToldAtOnce : Type 0
ToldAtOnce = (rule : Rule) (packet : List ℕ) → Told rule packet

-- By whatever facts, also those of another packet: the bytes of a message that `cetskobi_fetch_accepted` hands out lie within this one.
abbrev pub NothingOutside : Type 0
NothingOutside = (packet : List ℕ) (facts : CetskobiAccepted) (i : ℕ) → (take_answer packet facts i).number ≡ 0
    → (take_answer packet facts i).at + (take_answer packet facts i).len ≤ length packet

-- 02, Wish 6: 27, and no message. So answers every function that reads, of this packet in a group with this rule.
pub record OfOthers (rule : Rule) (packet : List ℕ) : Type 0 where
  pub fetch : (i : ℕ) → fetch_answer rule packet i ≡ fields_out 27 no_fields
  pub accept : accept_answer rule packet ≡ record { number = 27; count = 0 }
  pub take : (i : ℕ) → take_answer packet (accept_answer rule packet) i ≡ fields_out 27 no_fields

-- "27 when byte 0 names the rule that the group does not have": what `cetskobi_pack` made in a group with one rule, and any packet that such a
-- group accepts, is nothing to a group with the other
pub record OtherRule : Type 0 where
  pub packed : (rule other : Rule) (messages bodies out : List ℕ) → rule ≢ other → (pack_answer messages bodies out).number ≡ 0
      → OfOthers other (take (pack_answer messages bodies out).len (pack_output rule messages bodies out))
  pub accepted : (rule other : Rule) (packet : List ℕ) → rule ≢ other → (accept_answer rule packet).number ≡ 0 → OfOthers other packet

-- ---- what follows, and that the premises can be met

-- what was passed to `cetskobi_pack` for message k
abbrev pub as_passed : List ℕ → ℕ → CetskobiFetched
as_passed messages k = record {
  number = 0;
  kind = word messages k 0;
  sender = word messages k 1;
  tie = word messages k 5;
  epoch = word messages k 2;
  version = word messages k 4;
  index = word messages k 3;
  at = entry_place (many_in messages) + body_from messages k;
  len = word messages k 6;
}

-- A loop over all messages of a packet that was made of these has each of them as it was passed, and no more.
pub record Takes (rule : Rule) (packet messages bodies : List ℕ) : Type 0 where
  pub reaches : (k : ℕ) → k < many_in messages → ((accept_answer rule packet).number ≡ 0) × (k < (accept_answer rule packet).count)
  pub ends : (k : ℕ) → many_in messages ≤ k → (accept_answer rule packet).number ≡ 0 → (accept_answer rule packet).count ≤ k
  pub message : (k : ℕ) → k < many_in messages → take_answer packet (accept_answer rule packet) k ≡ as_passed messages k
  pub body : (k : ℕ) → k < many_in messages
      → take (take_answer packet (accept_answer rule packet) k).len (drop (take_answer packet (accept_answer rule packet) k).at packet) ≡ take (word messages k 6) (drop (body_from messages k) bodies)

abbrev pub PackedIsTaken : Type 0
PackedIsTaken = (rule : Rule) (messages bodies out : List ℕ) → (pack_answer messages bodies out).number ≡ 0
    → Takes rule (take (pack_answer messages bodies out).len (pack_output rule messages bodies out)) messages bodies

-- a packet with a message of no kind, whose body begins before its place
abbrev pub odd : List ℕ
odd = 1 ∷ 1 ∷ 0 ∷ 22 ∷ 9 ∷ 16 ∷ 0 ∷ 0 ∷ 0 ∷ 0 ∷ 0 ∷ 7 ∷ 0 ∷ 0 ∷ 0 ∷ 1 ∷ 16 ∷ 0 ∷ 19 ∷ 2 ∷ 65 ∷ 65 ∷ []

-- facts of another
abbrev pub others : CetskobiAccepted
others = record { number = 0; count = 1 }

-- it is refused; by those facts its message is taken all the same, and lies within
pub record Foreign : Type 0 where
  pub refused : accept_answer Higher odd ≡ record { number = 22; count = 0 }
  pub taken : (take_answer odd others 0).number ≡ 0
  pub within : (take_answer odd others 0).at + (take_answer odd others 0).len ≤ length odd
