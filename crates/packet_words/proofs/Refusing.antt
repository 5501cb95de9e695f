-- Words that are no message are never packed: wherever one stands, the writer answers 24.
use Prim.Native.Nat.{ℕ, zero, suc, ◌+◌, ◌*◌, ◌<◌}
use mathlib.Core.Path.{◌≡◌, ap, ◌∙◌}
use mathlib.Core.Bool.{Bool, false, and-false, ◌&&◌}
use mathlib.Core.List.{List}
use native.Mathlib.Omega.{arith}
use lib.ListN.{length}
use Rattle.packet_format.specs.declared.entry.Entry.{Entry}
use Rattle.hermes.specs.Answer.{no}
use Rattle.std.specs.Prelude.{Err}
use Rattle.packet_format.specs.Entry.{fields_for, good}
use Rattle.packet_format.specs.Writing.{all_good, write_refusal, packet_written}
use Rattle.packet_words.specs.Words.{unfit, entry_at, count_in, entries_from, word_messages, packed}

-- question 24, "fields as in 22", says no to what stands for no message
unfit-bad : (e : Entry) → e ≡ unfit → good (fields_for e 0) ≡ false
unfolding good
unfit-bad e h = rw h

some-bad : (n at : ℕ) (words : List ℕ) (k : ℕ) → k < n → entry_at words (at + 7 * k) ≡ unfit → all_good (entries_from n at words) ≡ false
unfolding all_good
some-bad zero at words k l h = absurd (omega arith)
some-bad (suc n) at words zero l h =
    let e : at ≡ at + 7 * 0 = omega arith in
    ap (λ (b : Bool). b && all_good (entries_from n (at + 7) words)) (unfit-bad (entry_at words at) (ap (entry_at words) e ∙ h))
some-bad (suc n) at words (suc k) l h =
    let e : at + 7 + 7 * k ≡ at + 7 * suc k = omega arith in
    ap (λ (b : Bool). good (fields_for (entry_at words at) 0) && b) (some-bad n (at + 7) words k (omega arith) (ap (entry_at words) e ∙ h)) ∙ and-false (good (fields_for (entry_at words at) 0))

pub refuses : (words bodies : List ℕ) (room k : ℕ) → k < count_in (length words) → entry_at words (7 * k) ≡ unfit
    → packed words bodies room ≡ Err (no 24)
unfolding packet_written write_refusal word_messages
refuses words bodies room k l h =
    let e : 0 + 7 * k ≡ 7 * k = omega arith in
    simp (some-bad (count_in (length words)) 0 words k l (ap (entry_at words) e ∙ h), and-false)
