-- Demand 2 of packets, over words and the rule: the laws over messages of crate `packet_format`, and that good words and their messages say the same.
use Prim.Native.Nat.{ℕ, zero, suc, ◌+◌, ◌*◌, ◌/◌, ◌%◌, ◌≤◌, ◌<◌}
use mathlib.Core.Path.{◌≡◌, refl, sym, ap, ap₂, ◌∙◌}
use mathlib.Core.Bool.{true}
use mathlib.Core.List.{List, [], ◌∷◌}
use native.Mathlib.Nat.{add-zero, zero-add, add_assoc, not-suc-le-zero, le_of_suc-le-suc}
use native.Mathlib.Omega.{arith}
use borrow.Author.Tests.{eq-eqb, le-leb}
use lib.ListN.{length, take, drop, get_or}
use lib.Seq.{get_or-drop}
use Rattle.std.proofs.lemmas.Bool.{and_parts}
use Rattle.hermes_record.specs.declared.timestamp.Rule.{Rule}
use Rattle.packet_format.specs.declared.entry.Entry.{Entry}
use Rattle.std.specs.Prelude.{Ok}
use Rattle.hermes.specs.Kind.{kind_of, message_of}
use Rattle.hermes.proofs.Kind.{kind-back}
use Rattle.packet_format.specs.Entry.{entry_of, fields_for, good, no_entry}
use Rattle.packet_format.specs.Reading.{entry_place, packet_messages, bodies_in}
use Rattle.packet_format.specs.Writing.{summed, all_good, output_of}
use Rattle.packet_format.specs.RoundTrip.{ReadsBack}
use Rattle.packet_format.proofs.Writing.{Accepts, accepts, total-yes}
use Rattle.packet_format.proofs.Entries.{entry-back, good-parts}
use Rattle.packet_format.proofs.RoundTrip.{written-reads-back, written-other-rule, accepted-is-written}
use Rattle.packet_words.specs.Words.{entry_in, count_in, fields_at, entry_at, entries_from, word_messages, packed}
use Rattle.packet_words.specs.ReadBack.{many_in, word, said_by, body_from, WordsReadBack, WordsOtherRule, words_of, AcceptedIsPacked}
use Rattle.packet_words.proofs.Places.{sevens, Counted, counted, message-at}
use Rattle.packet_words.proofs.Fit.{good-fit, entry-fit}

-- ---- lists of messages

-- each of good messages is good
pub good-one : (es : List Entry) (k : ℕ) → k < length es → all_good es ≡ true → good (fields_for (get_or es k no_entry) 0) ≡ true
unfolding all_good
good-one [] k l h = absurd (not-suc-le-zero l)
good-one (e ∷ es) zero l h = (and_parts (good (fields_for e 0)) (all_good es) h).0
good-one (e ∷ es) (suc k) l h = good-one es k (le_of_suc-le-suc l) (and_parts (good (fields_for e 0)) (all_good es) h).1

-- the bodies' length with one message more
pub summed-more : (ms : List Entry) (k : ℕ) → k < length ms → summed (take (suc k) ms) ≡ summed (take k ms) + (get_or ms k no_entry).len
unfolding summed
summed-more [] k h = absurd (not-suc-le-zero h)
summed-more (m ∷ ms) zero h = add-zero m.len ∙ sym (zero-add m.len)
summed-more (m ∷ ms) (suc k) h =
    ap (λ (n : ℕ). m.len + n) (summed-more ms k (le_of_suc-le-suc h)) ∙ sym (add_assoc m.len (summed (take k ms)) (get_or ms k no_entry).len)

-- ---- messages packed read back as their words say

-- the fields of a message are its words
spelled : (words : List ℕ) (k : ℕ) → entry_of (fields_at words (7 * k) 0) ≡ said_by words k
spelled words k =
    λ i.
    record {
      header = record { sender = word words k 1; epoch = word words k 2; index = word words k 3 };
      message = message_of (get_or words (sym (add-zero (7 * k)) i) 0) (record { version = word words k 4; tie = word words k 5 });
      len = word words k 6;
    }

module _ (words bodies out : List ℕ) (n : ℕ) (e : packed words bodies (length out) ≡ Ok n) where
  takes : Accepts (word_messages words) bodies (length out)
  takes = accepts (word_messages words) bodies (length out) (total-yes (word_messages words) bodies (length out) n e).0

  held : Counted words (count_in (length words))
  held = counted words (count_in (length words)) refl

  seven : (count_in (length words) ≡ many_in words) × (length words ≡ 7 * many_in words)
  seven = sevens (length words) (omega (arith, takes.some, held.size))

  size : length (word_messages words) ≡ many_in words
  size = held.size ∙ seven.0

  -- message k is what its words say, and they are good
  stands : (k : ℕ) → k < many_in words → get_or (word_messages words) k no_entry ≡ entry_at words (7 * k)
  stands k l = ap (λ (es : List Entry). get_or es k no_entry) (sym held.whole) ∙ message-at (count_in (length words)) words k (omega (arith, seven.0))

  fine : (k : ℕ) → k < many_in words → good (fields_at words (7 * k) 0) ≡ true
  fine k l =
      sym (good-fit (fields_at words (7 * k) 0))
      ∙ ap (λ (m : Entry). good (fields_for m 0)) (sym (stands k l))
      ∙ good-one (word_messages words) k (omega (arith, size)) takes.good

  says : (k : ℕ) → k < many_in words → get_or (word_messages words) k no_entry ≡ said_by words k
  says k l = stands k l ∙ entry-fit (fields_at words (7 * k) 0) (fine k l) ∙ spelled words k

  kinds : (k : ℕ) → k < many_in words → kind_of (said_by words k).message ≡ word words k 0
  kinds k l =
      let g = good-parts (fields_at words (7 * k) 0) (fine k l) in
      let z = add-zero (7 * k) in
      kind-back (word words k 0) (record { version = word words k 4; tie = word words k 5 }) (rw z g.kind)

  -- where its body begins
  begins : (k : ℕ) → k ≤ many_in words → summed (take k (word_messages words)) ≡ body_from words k
  unfolding summed
  begins zero l = refl
  begins (suc k) l = summed-more (word_messages words) k (omega (arith, size)) ∙ (λ i. begins k (omega arith) i + (says k l i).len)

  reads : (rule : Rule) → ReadsBack rule (take n (output_of rule (Ok n) (word_messages words) bodies out)) (word_messages words) bodies
  reads rule = written-reads-back rule (word_messages words) bodies out n e

pub words-read-back : WordsReadBack
words-read-back rule words bodies out n e =
    let r = reads words bodies out n e rule in
    let s = size words bodies out n e in
    let says = says words bodies out n e in
    let begins = begins words bodies out n e in
    record {
      seven = (seven words bodies out n e).1;
      message = λ k l. r.message k (omega (arith, s)) ∙ (λ i. Ok (says k l i, entry_place (s i) + begins k (omega arith) i));
      kind = kinds words bodies out n e;
      body = λ k l. r.body k (omega (arith, s)) ∙ (λ i. take (says k l i).len (drop (begins k (omega arith) i) bodies));
      beyond = λ k l. r.beyond k (omega (arith, s));
    }

pub words-other-rule : WordsOtherRule
words-other-rule rule other words bodies out n different e = written-other-rule rule other (word_messages words) bodies out n different e

-- ---- an accepted packet is packed again from its messages' words

-- seven words further on
shift : (words : List ℕ) (at : ℕ) → fields_at words (at + 7) 0 ≡ fields_at (drop 7 words) at 0
shift words at = λ i. record { kind = first i; sender = next 1 i; epoch = next 2 i; index = next 3 i; version = next 4 i; tie = next 5 i; offset = 0; len = next 6 i }
  where
    first : get_or words (at + 7) 0 ≡ get_or (drop 7 words) at 0
    first = let q : at + 7 ≡ 7 + at = omega arith in ap (λ (j : ℕ). get_or words j 0) q ∙ sym (get_or-drop 7 words at 0)

    next : (k : ℕ) → get_or words (at + 7 + k) 0 ≡ get_or (drop 7 words) (at + k) 0
    next k = let q : at + 7 + k ≡ 7 + (at + k) = omega arith in ap (λ (j : ℕ). get_or words j 0) q ∙ sym (get_or-drop 7 words (at + k) 0)

shifted : (n at : ℕ) (words : List ℕ) → entries_from n (at + 7) words ≡ entries_from n at (drop 7 words)
shifted zero at words = refl
shifted (suc n) at words = ap₂ ◌∷◌ (ap entry_in (shift words at)) (shifted n (at + 7) words)

-- the messages of the words of good messages are those messages
all_back : (es : List Entry) → all_good es ≡ true → entries_from (length es) 0 (words_of es) ≡ es
unfolding all_good
all_back [] h = refl
all_back (e ∷ es) h =
    let s = and_parts (good (fields_for e 0)) (all_good es) h in
    ap₂ ◌∷◌ (entry-fit (fields_for e 0) s.0 ∙ entry-back e 0) (shifted (length es) 0 (words_of (e ∷ es)) ∙ all_back es s.1)

length-words : (es : List Entry) → length (words_of es) ≡ 7 * length es
length-words [] = refl
length-words (e ∷ es) = omega (arith, length-words es)

messages-back : (es : List Entry) → length es ≤ 64 → all_good es ≡ true → word_messages (words_of es) ≡ es
unfolding word_messages
messages-back es few h =
    let r : (7 * length es) % 7 ≡ 0 = omega arith in
    let d : (7 * length es) / 7 ≡ length es = omega arith in
    let count : count_in (length (words_of es)) ≡ length es = rw (length-words es, d, eq-eqb ((7 * length es) % 7) 0 r, le-leb (length es) 64 few) in
    ap (λ (n : ℕ). entries_from n 0 (words_of es)) count ∙ all_back es h

pub accepted-is-packed : AcceptedIsPacked
accepted-is-packed rule p i e at out b h l =
    let es = packet_messages p in
    let w = accepted-is-written rule p i e at out b h l in
    let a = accepts es (bodies_in p) (length out) (total-yes es (bodies_in p) (length out) (length p) w.answer).0 in
    let back = messages-back es a.few a.good in
    record { answer = rw back w.answer; output = rw back w.output }
