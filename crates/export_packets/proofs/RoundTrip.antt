-- Demand 2 of packets, as C has it: the laws over words of crate `packet_words`, and that an answer of number 0 is one that has a message, or a length.
use Prim.Native.Nat.{ℕ, zero, suc, ◌+◌, ◌<◌}
use mathlib.Core.Path.{◌≡◌, refl, sym, ap, ap₂, ◌∙◌}
use mathlib.Core.Logic.{◌≢◌}
use mathlib.Core.List.{List, [], ◌∷◌, ◌++◌}
use native.Mathlib.Nat.{add-zero, zero-add}
use native.Mathlib.Omega.{arith}
use lib.ListN.{length, take, drop, get_or}
use Rattle.hermes_record.specs.declared.timestamp.Rule.{Rule}
use Rattle.packet_format.specs.declared.entry.Entry.{Entry}
use Rattle.packet_format.specs.declared.entry.Fields.{Fields}
use Rattle.packet_format.specs.Answer.{Fetched}
use Rattle.std.specs.Prelude.{Ok}
use Rattle.packet_format.specs.Entry.{fields_of, entry_of, no_entry}
use Rattle.packet_format.specs.Reading.{count_of, entry_place, packet_messages, fetch_refusal, fetched_as, fetched}
use Rattle.packet_format.specs.Accepting.{Refuses}
use Rattle.packet_format.specs.Writing.{total_of, write_refusal, written_as, packet_written}
use Rattle.hermes.proofs.Kind.{stamp-back}
use Rattle.packet_format.proofs.Contents.{length-entries}
use Rattle.packet_format.proofs.RoundTrip.{accepted-is-written}
use Rattle.packet_words.specs.Words.{word_messages, packed}
use Rattle.packet_words.specs.ReadBack.{many_in, word, body_from, ReadsAs, words_of}
use Rattle.packet_words.proofs.ReadBack.{words-read-back, words-other-rule, accepted-is-packed}
use Rattle.export_fields.specs.Answers.{fetched_out, written_out}
use Rattle.export_packets.specs.Calls.{fetch_answer, pack_answer, pack_output}
use Rattle.export_packets.specs.RoundTrip.{PackedIsFetched, words_out, words_from, FetchedIsPacked}

-- ---- what `cetskobi_pack` wrote, `cetskobi_fetch` reads

-- number 0: a packet was written
packed-total : (messages bodies out : List ℕ) → (pack_answer messages bodies out).number ≡ 0 → packed messages bodies (length out) ≡ Ok (pack_answer messages bodies out).len
unfolding packet_written
packed-total messages bodies out = go (write_refusal (word_messages messages) bodies (length out)) (total_of (length (word_messages messages)) bodies)
  where
    go : (k n : ℕ) → (written_out (written_as k n)).number ≡ 0 → written_as k n ≡ Ok (written_out (written_as k n)).len
    go zero n h = refl
    go (suc k) n h = absurd (omega arith)

-- and it reads back as its words say
pub packed-reads : (rule : Rule) (messages bodies out : List ℕ) → (pack_answer messages bodies out).number ≡ 0
    → ReadsAs rule (take (pack_answer messages bodies out).len (pack_output rule messages bodies out)) messages bodies
packed-reads rule messages bodies out h =
    let e = packed-total messages bodies out h in
    rw e (words-read-back rule messages bodies out (pack_answer messages bodies out).len e)

-- and to a group with the other rule it is nothing
pub packed-for-others : (rule other : Rule) (messages bodies out : List ℕ) → rule ≢ other → (pack_answer messages bodies out).number ≡ 0
    → Refuses other (take (pack_answer messages bodies out).len (pack_output rule messages bodies out)) 27
packed-for-others rule other messages bodies out different h =
    let e = packed-total messages bodies out h in
    rw e (words-other-rule rule other messages bodies out (pack_answer messages bodies out).len different e)

pub packed-is-fetched : PackedIsFetched
packed-is-fetched rule messages bodies out h =
    let r = packed-reads rule messages bodies out h in
    record {
      message = λ k l. ap fetched_out (r.message k l)
          ∙ (λ i.
          record {
            number = 0;
            kind = r.kind k l i;
            sender = word messages k 1;
            tie = (stamp-back (word messages k 0) (record { version = word messages k 4; tie = word messages k 5 }) i).tie;
            epoch = word messages k 2;
            version = (stamp-back (word messages k 0) (record { version = word messages k 4; tie = word messages k 5 }) i).version;
            index = word messages k 3;
            at = entry_place (many_in messages) + body_from messages k;
            len = word messages k 6;
          });
      body = λ k l. rw (r.message k l) (rw (r.message k l) at (r.body k l));
      beyond = λ k l. rw (r.beyond k l);
    }

-- ---- what `cetskobi_fetch` reads, `cetskobi_pack` writes

-- number 0: a message was found
fetched-found : (rule : Rule) (packet : List ℕ) (i : ℕ) → (fetch_answer rule packet i).number ≡ 0
    → fetched rule packet i ≡ Ok (entry_of (fields_of (drop (entry_place i) packet)), (fields_of (drop (entry_place i) packet)).offset)
unfolding fetched
fetched-found rule packet i = go (fetch_refusal rule packet i) (fields_of (drop (entry_place i) packet))
  where
    go : (k : ℕ) (f : Fields) → (fetched_out (fetched_as k f)).number ≡ 0 → fetched_as k f ≡ Ok (entry_of f, f.offset)
    go zero f h = refl
    go (suc k) f h = absurd (omega arith)

-- the words of messages, fetched one by one
words-from : (rule : Rule) (es : List Entry) (i : ℕ) (packet : List ℕ) → ((k : ℕ) → k < length es → words_out (fetch_answer rule packet (i + k)) ≡ words_of (get_or es k no_entry ∷ []))
    → words_from rule (length es) i packet ≡ words_of es
words-from rule [] i packet h = refl
words-from rule (e ∷ es) i packet h =
    ap₂ ◌++◌ (ap (λ (j : ℕ). words_out (fetch_answer rule packet j)) (sym (add-zero i)) ∙ h 0 (omega arith)) (words-from rule es (suc i) packet (λ k l. step k ∙ h (suc k) (omega arith)))
  where
    step : (k : ℕ) → words_out (fetch_answer rule packet (suc i + k)) ≡ words_out (fetch_answer rule packet (i + suc k))
    step k = let q : suc i + k ≡ i + suc k = omega arith in ap (λ (j : ℕ). words_out (fetch_answer rule packet j)) q

pub fetched-is-packed : FetchedIsPacked
fetched-is-packed rule packet i out b h l =
    let es = packet_messages packet in
    let f = fields_of (drop (entry_place i) packet) in
    let found = fetched-found rule packet i h in
    let r = (accepted-is-written rule packet i (entry_of f) f.offset out b found l).reads in
    let p = accepted-is-packed rule packet i (entry_of f) f.offset out b found l in
    let each : (k : ℕ) → k < length es → words_out (fetch_answer rule packet (0 + k)) ≡ words_of (get_or es k no_entry ∷ []) =
    λ k m. ap (λ (j : ℕ). words_out (fetch_answer rule packet j)) (zero-add k) ∙ ap (λ (x : Fetched). words_out (fetched_out x)) (r.message k m) in
    let words : words_from rule (count_of packet) 0 packet ≡ words_of es =
    ap (λ (n : ℕ). words_from rule n 0 packet) (sym (length-entries (count_of packet) (drop 4 packet))) ∙ words-from rule es 0 packet each in
    record { answer = rw words (ap written_out p.answer); output = rw (words, p.answer) p.output }
