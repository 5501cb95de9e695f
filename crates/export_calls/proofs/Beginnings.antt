-- An exported event's beginning. The record that it passes on is the table's. Its no is the first no of every event on that number, and then nothing has changed.
use Prim.Native.Nat.{ℕ, zero, suc, ◌<◌, ◌≤◌}
use mathlib.Core.Path.{◌≡◌, refl, sym, ◌∙◌}
use mathlib.Core.Bool.{Bool, true, false, false≢true}
use mathlib.Core.List.{List, [], ◌∷◌}
use mathlib.Core.Logic.{◌⊎◌, inl, inr}
use native.Mathlib.Omega.{arith}
use lib.ListN.{length}
use lib.Dec.{lit<}
use lib.Seq.{set-get_or}
use borrow.Author.Tests.{le-ltb}
use Rattle.std.specs.Prelude.{Option, Some, None, Ok, Err}
use Rattle.hermes_record.specs.declared.record.Record.{Record}
use Rattle.hermes.specs.Answer as answer
use Rattle.hermes.specs.declared.event.Refused.{Refused}
use Rattle.hermes.specs.declared.event.Replica.{Replica}
use Rattle.hermes.specs.declared.event.Event.{Event}
use Rattle.hermes.specs.Guards.{Question, ask, first_no, question1, question2, question3, question4, question5}
use Rattle.hermes_record.specs.Record.{fresh_record}
use Rattle.hermes.specs.Event.{own, refusal, moved, effect}
use Rattle.hermes.specs.Node.{record_at, apply}
use Rattle.replica_asking.specs.Cascade.{Asked, asked, beforehand}
use Rattle.export_decoding.specs.Decoding.{unsound}
use Rattle.export_records.specs.Layout.{count_of, table_of, found_at}
use Rattle.export_records.proofs.Lent.{length-table}
use Rattle.export_records.proofs.Finding.{found_here, found-missing}
use Rattle.export_numbers.specs.declared.numbers.CetskobiReplica.{CetskobiReplica}
use Rattle.export_numbers.specs.declared.numbers.CetskobiAnswer.{CetskobiAnswer}
use Rattle.export_numbers.specs.Crossing.{replica_of, answer_out}
use Rattle.export_calls.specs.Calls.{node_of, with_record, beginning, Done}

pub begun-passed : (me : Replica) (bytes : List ℕ) (n i : ℕ) (r : Record) → beginning me bytes n i ≡ Ok r → r ≡ record_at (table_of bytes) i
begun-passed me bytes n i r e = go (asked (beforehand me (count_of (length bytes)) n i) unsound) (found_at bytes i) refl e
  where
    go : (a : Asked) (f : Option Record) → found_at bytes i ≡ f → with_record a f ≡ Ok r → r ≡ record_at (table_of bytes) i
    go (Err e) f h g = absurd (cc)
    go (Ok x) (Some s) h g = found_here bytes i r (h ∙ cc)
    go (Ok x) None h g = absurd (cc)

-- a no has its question's number
numbered : (k : ℕ) (r : Refused) → ◌≡◌ {A = Asked} (Err (answer.no k)) (Err r) → 0 < k → (k ≡ r.0) × (0 < r.0)
numbered k r e l = let q : answer.no k ≡ r = cc in rw (← q) (refl, l)

-- a no of the beginning is the first no of questions 1 to 5 and of all that follow
five : (a b c d e : Bool) (u : Record) (f : Option Record) (rest : List Question) (r : Refused) → with_record (asked (ask 1 a ∷ ask 2 b ∷ ask 3 c ∷ ask 4 d ∷ []) u) f ≡ Err r
    → (f ≡ None → d ≡ true → e ≡ false) → (first_no (ask 1 a ∷ ask 2 b ∷ ask 3 c ∷ ask 4 d ∷ ask 5 e ∷ rest) ≡ r.0) × (0 < r.0)
five false b c d e u f rest r h g = numbered 1 r h (lit< tt)
five true false c d e u f rest r h g = numbered 2 r h (lit< tt)
five true true false d e u f rest r h g = numbered 3 r h (lit< tt)
five true true true false e u f rest r h g = numbered 4 r h (lit< tt)
five true true true true e u (Some s) rest r h g = absurd (cc)
five true true true true e u None rest r h g = rw (g refl refl) (numbered 5 r h (lit< tt))

module _ (me : CetskobiReplica) (bytes store : List ℕ) (i : ℕ) (r : Refused) (who : Replica) (a : Asked) (identity : who ≡ replica_of me) (begins : a ≡ beginning who bytes (length store) i) (no : a ≡ Err r) where
  -- where no record stands question 5 says no
  unstated : found_at bytes i ≡ None → (question4 i (count_of (length bytes))).yes ≡ true → (question5 (replica_of me) (record_at (table_of bytes) i)).yes ≡ false
  unstated none inside = go (found-missing bytes i none)
    where
      go : (count_of (length bytes) ≤ i) ⊎ (record_at (table_of bytes) i ≡ unsound) → (question5 (replica_of me) (record_at (table_of bytes) i)).yes ≡ false
      go (inl l) = absurd (false≢true (sym (le-ltb i (count_of (length bytes)) l) ∙ inside))
      go (inr u) = rw u

  begun-no : beginning (replica_of me) bytes (length store) i ≡ Err r
  begun-no = rw identity at (sym begins ∙ no)

  -- whatever the event
  pub refused-by : (e : Event) (n : ℕ) → (refusal (replica_of me) (length (table_of bytes)) (length store) i (record_at (table_of bytes) i) e n ≡ r.0) × (0 < r.0)
  unfolding refusal
  refused-by e n =
      rw (length-table bytes)
      (five (question1 (replica_of me)).yes (question2 (count_of (length bytes)) (length store)).yes (question3 (replica_of me)).yes (question4 i (count_of (length bytes))).yes
      (question5 (replica_of me) (record_at (table_of bytes) i)).yes unsound (found_at bytes i) (own (replica_of me) (record_at (table_of bytes) i) e n) r begun-no unstated)

  pub refused-done : (e : Event) (v : List ℕ) (out : CetskobiAnswer) → out ≡ answer_out (Err r) → Done (node_of me bytes store) bytes i e v out bytes store
  unfolding apply effect moved
  refused-done e v out h = go r.0 (refused-by e (length v)).0 (refused-by e (length v)).1 h
    where
      go : (j : ℕ) → refusal (replica_of me) (length (table_of bytes)) (length store) i (record_at (table_of bytes) i) e (length v) ≡ j → 0 < j
          → out ≡ answer_out (Err (answer.no j)) → Done (node_of me bytes store) bytes i e v out bytes store
      go zero z l g = absurd (omega arith)
      go (suc j) z l g = record { answer = g ∙ rw z; bytes = rw z; table = rw z (sym (set-get_or (table_of bytes) i (fresh_record 0))); store = rw z }
