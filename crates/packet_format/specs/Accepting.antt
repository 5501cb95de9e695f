-- 02, Wish 4, "Packets read in one pass": a packet is accepted once, and each of its messages is then taken at its place.
use Rattle.std.specs.Prelude.{ℕ, zero, suc, ◌+◌, ◌≤◌, ◌<◌, ◌≡◌, true, cond, List, [], ◌∷◌, ◌≢◌, ltb, leb, eqb, length, drop, Err, Ok}
use Rattle.hermes_record.specs.declared.timestamp.Rule.{Rule}
use Rattle.hermes.specs.Guards.{Question, ask, first_no}
use Rattle.packet_format.specs.declared.entry.Fields.{Fields}
use Rattle.packet_format.specs.declared.answer.Accepted.{Accepted}
use Rattle.hermes.specs.Answer.{no}
use Rattle.packet_format.specs.Answer.{Fetched, Taken}
use Rattle.packet_format.specs.Entry.{fields_of, entry_of, good}
use Rattle.packet_format.specs.Reading.{count_of, entry_place, question20, question27, question21, question22, fetched, body_of}

-- ---- the packet as a whole

-- 20, 27, 21 and 22, which ask about no message in particular
unfoldable pub accept_refusal : Rule → List ℕ → ℕ
accept_refusal rule p = first_no (question20 p ∷ question27 rule p ∷ question21 p ∷ question22 p ∷ [])

-- each case by its number: 0 with the count of messages, or the number of the question that said no, and no messages
abbrev pub accepted_as : ℕ → ℕ → Accepted
accepted_as zero count = record { number = 0; count = count }
accepted_as (suc k) count = record { number = suc k; count = 0 }

-- the facts of the packet p, in a group of this rule
unfoldable pub accepted : Rule → List ℕ → Accepted
accepted rule p = accepted_as (accept_refusal rule p) (count_of p)

-- ---- a message of it

-- 23 of an accepted packet: i below the count? Of a refused one it gives the packet's own number
abbrev pub question_count : Accepted → ℕ → Question
question_count a i = ask (cond (eqb a.number 0) 23 a.number) (ltb i a.count)

-- the facts may be of another packet, so two more: does entry i lie within this one, and does its body? A packet's own facts have both answered.
abbrev pub question_entry : List ℕ → ℕ → Question
question_entry p i = ask 21 (leb (entry_place (suc i)) (length p))

abbrev pub question_body : List ℕ → Fields → Question
question_body p f = ask 22 (leb (f.offset + f.len) (length p))

-- the number that a taking answers
unfoldable pub take_refusal : List ℕ → Accepted → ℕ → ℕ
take_refusal p a i = first_no (question_count a i ∷ question_entry p i ∷ question_body p (fields_of (drop (entry_place i) p)) ∷ [])

-- each case of an answer, by its number: 0 with the entry, or the number of the question that said no
abbrev pub taken_as : ℕ → Fields → Taken
taken_as zero f = Ok f
taken_as (suc k) f = Err (no (suc k))

-- message i of the packet p, by the facts a: its entry as it stands there
unfoldable pub taken : List ℕ → Accepted → ℕ → Taken
taken p a i = taken_as (take_refusal p a i) (fields_of (drop (entry_place i) p))

-- the number of an answer
abbrev pub taken_number : Taken → ℕ
taken_number (Ok f) = 0
taken_number (Err r) = r.0

-- the same as a fetch answers it, and with it the body that is handed on (`body_of`)
abbrev pub fetched_of : Taken → Fetched
fetched_of (Ok f) = Ok (entry_of f, f.offset)
fetched_of (Err r) = Err r

-- ---- what is claimed

-- "for every input the answer, message and body stay the same": in every group, of every packet every message taken by its own facts is the one
-- fetched, and so is its body, which `body_of` has from it. `proofs/Accepting` proves this and what follows.
abbrev pub TakenIsFetched : Type 0
TakenIsFetched = (rule : Rule) (p : List ℕ) (i : ℕ) → fetched_of (taken p (accepted rule p) i) ≡ fetched rule p i

-- What is taken by a packet's own facts is the fields of an entry that question 22 lets pass: they are those of its message, every one.
abbrev pub TakenIsGood : Type 0
TakenIsGood = (rule : Rule) (p : List ℕ) (i : ℕ) (f : Fields) → taken p (accepted rule p) i ≡ Ok f → good f ≡ true

-- The facts tell at once what every fetch will answer: a refused packet its number, whatever is fetched; an accepted one a message up to the count, and 23 from there on.
pub record Tells (rule : Rule) (p : List ℕ) (a : Accepted) : Type 0 where
  pub refused : (k i : ℕ) → a.number ≡ suc k → fetched rule p i ≡ Err (no (suc k))
  pub found : (i : ℕ) → a.number ≡ 0 → i < a.count → (f : Fields) × (fetched rule p i ≡ Ok (entry_of f, f.offset))
  pub beyond : (i : ℕ) → a.number ≡ 0 → a.count ≤ i → fetched rule p i ≡ Err (no 23)

abbrev pub AcceptedTells : Type 0
AcceptedTells = (rule : Rule) (p : List ℕ) → Tells rule p (accepted rule p)

-- Whatever the facts, also those of another packet: the body of a message taken lies within this one.
abbrev pub TakenLiesWithin : Type 0
TakenLiesWithin = (p : List ℕ) (a : Accepted) (i : ℕ) (f : Fields) → taken p a i ≡ Ok f → f.offset + f.len ≤ length p

-- ---- a packet of the other rule

-- A group of this rule refuses the packet p as a whole: every fetch answers k and hands on the empty part; no message of it is accepted; every
-- taking by those facts answers k and hands on the empty part.
pub record Refuses (rule : Rule) (p : List ℕ) (k : ℕ) : Type 0 where
  pub fetching : (i : ℕ) → fetched rule p i ≡ Err (no k)
  pub fetched_body : (i : ℕ) → body_of p (fetched rule p i) ≡ []
  pub accepting : accepted rule p ≡ record { number = k; count = 0 }
  pub taking : (i : ℕ) → taken p (accepted rule p) i ≡ Err (no k)
  pub taken_body : (i : ℕ) → body_of p (fetched_of (taken p (accepted rule p) i)) ≡ []

-- 02, Wish 6: a packet of one rule, which question 20 lets pass and whose byte 0 is that rule's number, is refused with 27 by a group of the other;
-- whatever 21 and 22 would say of it
abbrev pub OtherRuleRefused : Type 0
OtherRuleRefused = (rule other : Rule) (p : List ℕ) → rule ≢ other → (question20 p).yes ≡ true → (question27 rule p).yes ≡ true → Refuses other p 27

-- so no packet is accepted by groups of both rules
abbrev pub AcceptedByOne : Type 0
AcceptedByOne = (rule other : Rule) (p : List ℕ) → rule ≢ other → (accepted rule p).number ≡ 0 → Refuses other p 27
