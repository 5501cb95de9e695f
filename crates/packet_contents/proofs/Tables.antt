-- The loop over the messages that stores their entries, and question 25.
use mathlib.Core.Path.{◌≡◌, sym, ap, ◌∙◌}
use mathlib.Core.Bool.{false, ◌&&◌, and-false}
use mathlib.Core.List.{List, ◌++◌}
use mathlib.Core.Logic.{◌⊎◌, ⊎_elim}
use Prim.Native.Nat.{ℕ, suc, ◌+◌, ◌-◌, ◌*◌, ◌≤◌, ◌<◌}
use native.Mathlib.Omega.{arith}
use borrow.Author.Tests.{lt-leb}
use lib.Dec.{leb}
use lib.ListN.{length, get_or}
use lib.Seq.{sets, length-sets}
use Rattle.packet_format.specs.Entry.{entry_bytes}
use Rattle.packet_format.specs.Reading.{entry_place}
use Rattle.packet_format.proofs.Entries.{length-entry}
use Rattle.packet_words.specs.Words.{fields_at}
use Rattle.packet_contents.specs.Front.{cut, table}
use Rattle.packet_contents.proofs.Stores.{sets_then}

-- after j messages of n: with the entries of the others stored behind, the contents table
pub record Stored (d : List ℕ) (n : ℕ) (words : List ℕ) (out : List ℕ) (at j : ℕ) : Type 0 where
  pub below : j ≤ n
  pub small : at ≤ 1028 + 4294967296 * j
  pub rest : sets out (4 + 16 * j) (table (n - j) (7 * j) at words) ≡ sets d 4 (table n 0 (entry_place n) words)
  pub same : length out ≡ length d

-- a turn with message j, and the loop's end
module _ (d : List ℕ) (n : ℕ) (words : List ℕ) (out : List ℕ) (at j : ℕ) where
  pub stored_more : (o : List ℕ) → j < n → get_or words (7 * j + 6) 0 < 4294967296 → o ≡ sets out (4 + 16 * j) (entry_bytes (cut (fields_at words (7 * j) at))) → Stored d n words out at j
      → Stored d n words o (at + get_or words (7 * j + 6) 0) (j + 1)
  unfolding table
  stored_more o more fits eo s =
      let f = cut (fields_at words (7 * j) at) in
      let next = at + get_or words (7 * j + 6) 0 in
      let p : 4 + 16 * (j + 1) ≡ 4 + 16 * j + length (entry_bytes f) = omega (arith, length-entry f) in
      let w : 7 * (j + 1) ≡ 7 * j + 7 = omega arith in
      let k : n - j ≡ suc (n - (j + 1)) = omega arith in
      record {
        below = omega arith;
        small = omega (arith, s.small);
        rest =
            sets_then out o (4 + 16 * j) (4 + 16 * (j + 1)) (entry_bytes f) (table (n - (j + 1)) (7 * (j + 1)) next words) eo p
            ∙ ap (λ (v : ℕ). sets out (4 + 16 * j) (entry_bytes f ++ table (n - (j + 1)) v next words)) w
            ∙ ap (λ (m : ℕ). sets out (4 + 16 * j) (table m (7 * j) at words)) (sym k)
            ∙ s.rest;
        same = ap length eo ∙ length-sets out (4 + 16 * j) (entry_bytes f) ∙ s.same;
      }

  pub stored-all : n ≤ j → Stored d n words out at j → out ≡ sets d 4 (table n 0 (entry_place n) words)
  unfolding table
  stored-all end s =
      let k : 0 ≡ n - j = omega arith in
      ap (λ (m : ℕ). sets out (4 + 16 * j) (table m (7 * j) at words)) k ∙ s.rest

-- a total that is too great, or beyond the output: question 25 says no
pub crowded : (total room : ℕ) → (1400 < total) ⊎ (room < total) → (leb total 1400 && leb total room) ≡ false
crowded total room = ⊎_elim (λ l. rw (lt-leb total 1400 l)) (λ l. rw (lt-leb total room l) (and-false (leb total 1400)))
