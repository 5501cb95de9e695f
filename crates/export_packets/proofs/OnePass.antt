-- A message taken crosses as the one fetched: its entry is good, so that its fields are those of its message.
use Prim.Native.Nat.{ℕ, zero, suc, ◌+◌, ◌≤◌, ◌<◌}
use mathlib.Core.Path.{◌≡◌, refl, sym, ap, ◌∙◌}
use mathlib.Core.List.{List}
use mathlib.Core.Logic.{⊎_elim}
use native.Mathlib.Omega.{arith}
use lib.ListN.{length, take, drop}
use Rattle.hermes_record.specs.declared.timestamp.Rule.{Rule}
use Rattle.packet_format.specs.Answer.{Fetched, Taken}
use Rattle.std.specs.Prelude.{Err, Ok}
use Rattle.packet_format.specs.Entry.{good}
use Rattle.packet_format.specs.Reading.{walk}
use Rattle.packet_format.specs.Accepting.{accept_refusal, accepted, take_refusal, taken, fetched_of, Refuses}
use Rattle.packet_words.specs.ReadBack.{many_in}
use Rattle.packet_format.proofs.Entries.{good-parts, message-back}
use Rattle.packet_format.proofs.Accepting.{split, taken-is-fetched, taken-is-good, accepted-tells, accepted-by-one, taken-lies-within}
use Rattle.export_fields.specs.Answers.{fields_out, fetched_out, taken_out, accepted_out, accepted_in}
use Rattle.export_fields.specs.declared.answers.CetskobiFetched.{CetskobiFetched}
use Rattle.export_packets.specs.Calls.{fetch_answer, accept_answer}
use Rattle.export_packets.specs.RoundTrip.{Fetches}
use Rattle.export_packets.specs.OnePass.{OnePass, ToldAtOnce, NothingOutside, OfOthers, OtherRule, Takes, PackedIsTaken, odd, others, Foreign}
use Rattle.export_packets.proofs.RoundTrip.{packed-is-fetched, packed-for-others}

module _ (rule : Rule) (packet : List ℕ) (i : ℕ) where
  crosses : (t : Taken) → taken packet (accepted rule packet) i ≡ t → taken_out t ≡ fetched_out (fetched_of t)
  crosses (Ok f) e = ap (fields_out 0) (sym (message-back f f.offset (good-parts f (taken-is-good rule packet i f e)).kind refl))
  crosses (Err k) e = refl

pub one-pass : OnePass
one-pass rule packet i = crosses rule packet i (taken packet (accepted rule packet) i) refl ∙ ap fetched_out (taken-is-fetched rule packet i)

pub told-at-once : ToldAtOnce
told-at-once rule packet =
    let t = accepted-tells rule packet in
    record {
      refused = λ k i n. ap (λ (f : Fetched). (fetched_out f).number) (t.refused k i n);
      found = λ i n l. ap (λ (f : Fetched). (fetched_out f).number) (t.found i n l).1;
      beyond = λ i n l. ap (λ (f : Fetched). (fetched_out f).number) (t.beyond i n l);
    }

pub nothing-outside : NothingOutside
nothing-outside packet facts i z = within (taken packet (accepted_in facts) i) refl z
  where
    within : (t : Taken) → taken packet (accepted_in facts) i ≡ t → (taken_out t).number ≡ 0 → (taken_out t).at + (taken_out t).len ≤ length packet
    within (Ok f) e z = taken-lies-within packet (accepted_in facts) i f e
    within (Err k) e z = omega arith

-- what was packed: every message is within the count, and there are no others
module _ (rule : Rule) (packet messages bodies : List ℕ) (f : Fetches rule packet messages bodies) where
  -- message k is fetched
  there : (k : ℕ) → k < many_in messages → (fetch_answer rule packet k).number ≡ 0
  there k l = ap (λ (x : CetskobiFetched). x.number) (f.message k l)

  reached : (k : ℕ) → k < many_in messages → (n : ℕ) → (accept_answer rule packet).number ≡ n → ((accept_answer rule packet).number ≡ 0) × (k < (accept_answer rule packet).count)
  reached k l zero e = (e, ⊎_elim (λ h. h) (λ h. absurd (omega (arith, there k l, (told-at-once rule packet).beyond k e h))) (split k (accept_answer rule packet).count))
  reached k l (suc j) e = absurd (omega (arith, there k l, (told-at-once rule packet).refused j k e))

  ended : (k : ℕ) → many_in messages ≤ k → (accept_answer rule packet).number ≡ 0 → (accept_answer rule packet).count ≤ k
  ended k l e = ⊎_elim (λ h. absurd (omega (arith, f.beyond k l, (told-at-once rule packet).found k e h))) (λ h. h) (split k (accept_answer rule packet).count)

  takes : Takes rule packet messages bodies
  takes = record {
    reaches = λ k l. reached k l (accept_answer rule packet).number refl;
    ends = ended;
    message = λ k l. one-pass rule packet k ∙ f.message k l;
    body = λ k l. ap (λ (x : CetskobiFetched). take x.len (drop x.at packet)) (one-pass rule packet k) ∙ f.body k l;
  }

pub packed-is-taken : PackedIsTaken
packed-is-taken rule messages bodies out h = takes rule _ messages bodies (packed-is-fetched rule messages bodies out h)

-- 27 crosses as it is
of_others : (rule : Rule) (packet : List ℕ) → Refuses rule packet 27 → OfOthers rule packet
of_others rule packet r = record {
  fetch = λ i. ap fetched_out (r.fetching i);
  accept = ap accepted_out r.accepting;
  take = λ i. ap taken_out (r.taking i);
}

pub other-rule : OtherRule
other-rule = record {
  packed = λ rule other messages bodies out different h. of_others other _ (packed-for-others rule other messages bodies out different h);
  accepted = λ rule other packet different h. of_others other packet (accepted-by-one rule other packet different h);
}

pub foreign : Foreign
unfolding good walk accept_refusal accepted take_refusal taken
foreign = record { refused = refl; taken = refl; within = nothing-outside odd others 0 refl }
