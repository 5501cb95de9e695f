-- A write, question by question.
use mathlib.Core.List.{◌++◌}
use mathlib.Core.Path.{◌≡◌, refl, sym, ap, ◌∙◌}
use Prim.Native.Nat.{ℕ, ◌+◌, ◌-◌, ◌<◌}
use native.Mathlib.Omega.{arith}
use lib.ListN.{length, drop}
use Rattle.packet_format.specs.Reading.{entry_place}
use Rattle.packet_format.specs.Writing.{total_of, packet_bytes, output_of}
use Rattle.packet_words.specs.Words.{word_messages}
use Rattle.packet_words.proofs.Places.{counted}
use mathlib.Core.Logic.{◌⊎◌, inl, inr}
use Rattle.packet_contents.proofs.Stores.{copied}
use Rattle.packet_writer.proofs.Messages.{packet-stored}
use Rattle.packet_writer.proofs.Answers.{passed, refused, empty, bad, uneven, unroomy, written-whole}
use Rattle.packet_writer.proofs.writer.write.Goals as goal
use Rattle.packet_writer.proofs.writer.write.Goals.{then-total-gt-TOTAL_MAX-via-then-total-gt-TOTAL_MAX, then-total-gt-TOTAL_MAX-via-else-total-gt-TOTAL_MAX+then-out-total}

pub returns-then-count-lt1 : goal.returns-then-count-lt1
unfolding output_of
returns-then-count-lt1 c =
    let words = c.args.words.now in
    let es = word_messages words in
    let n = counted words c.count_in-count.result c.count_in-count.ensures in
    record { answer = empty es _ _ (omega arith); output = refl }

pub returns-in_default : goal.returns-in_default
unfolding output_of
returns-in_default c =
    let words = c.args.words.now in
    let es = word_messages words in
    let n = counted words c.count_in-count.result c.count_in-count.ensures in
    record { answer = bad es _ _ (omega arith) (omega arith) (refused es c.in_default.ensures); output = refl }

pub returns-then-sum-bodies : goal.returns-then-sum-bodies
unfolding output_of
returns-then-sum-bodies c =
    let words = c.args.words.now in
    let es = word_messages words in
    let n = counted words c.count_in-count.result c.count_in-count.ensures in
    let sum = c.in-Some.sum in
    let p = passed es sum c.in-Some.ensures in
    record { answer = uneven es _ _ (omega arith) (omega arith) p.0 (λ e. c.if-sum-bodies.true (sym p.1 ∙ e)); output = refl }

pub returns-then-total-gt-TOTAL_MAX : goal.returns-then-total-gt-TOTAL_MAX
unfolding output_of
returns-then-total-gt-TOTAL_MAX c =
    let words = c.args.words.now in
    let es = word_messages words in
    let n = counted words c.count_in-count.result c.count_in-count.ensures in
    let sum = c.in-Some.sum in
    let p = passed es sum c.in-Some.ensures in
    let t : entry_place c.count_in-count.result + sum ≡ total_of (length es) c.args.bodies.now = omega arith in
    let h : (1400 < entry_place c.count_in-count.result + sum) ⊎ (length c.args.out.now < entry_place c.count_in-count.result + sum) = elim c.then-total-gt-TOTAL_MAX.branch [ then-total-gt-TOTAL_MAX-via-then-total-gt-TOTAL_MAX w ↦ inl w.if-total-gt-TOTAL_MAX.true | then-total-gt-TOTAL_MAX-via-else-total-gt-TOTAL_MAX+then-out-total w ↦ inr w.if-out-total.true ] in
    record { answer = unroomy es _ _ (omega arith) (omega arith) p.0 (p.1 ∙ c.if-sum-bodies.false) _ t h; output = refl }

pub returns : goal.returns
unfolding output_of
returns c =
    let words = c.args.words.now in
    let bodies = c.args.bodies.now in
    let es = word_messages words in
    let n = counted words c.count_in-count.result c.count_in-count.ensures in
    let sum = c.in-Some.sum in
    let p = passed es sum c.in-Some.ensures in
    let start = entry_place c.count_in-count.result in
    let t : start + sum ≡ total_of (length es) bodies = omega arith in
    let u : start + sum ≡ total_of c.count_in-count.result bodies = ap (λ (k : ℕ). start + k) c.if-sum-bodies.false in
    record {
      answer = written-whole es _ _ (omega arith) (omega arith) p.0 (p.1 ∙ c.if-sum-bodies.false) _ t c.if-total-gt-TOTAL_MAX.false c.if-out-total.false;
      output =
          packet-stored c.args.rule words c.args.out.now c.put_front.new.out _ bodies c.count_in-count.result c.count_in-count.ensures n p.0 (p.1 ∙ c.if-sum-bodies.false) (omega arith) (omega arith) c.put_front.ensures (copied c.put_front.new.out c.copy.new.to bodies start (start + sum - start) (c.copy.ensures.whole (omega arith)) (omega arith) (omega (arith, c.put_front.auto.out, c.if-out-total.false)))
          ∙ ap (λ (k : ℕ). packet_bytes c.args.rule es bodies ++ drop k c.args.out.now) (sym u);
    }
