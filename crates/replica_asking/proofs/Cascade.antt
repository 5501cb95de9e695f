-- Laws of questions asked one after the other: how a cascade goes on after a yes and ends at a no, and what it says of the first no.
use Rattle.std.specs.Prelude.{◌<◌, ◌≡◌, Bool, true, false, cond, List, [], ◌∷◌, ◌++◌, Ok, Err, ltb}
use Rattle.std.proofs.Common.{refl, ap}
use borrow.Author.Tests.{ltb-true}
use Rattle.hermes_record.specs.declared.record.Record.{Record}
use Rattle.hermes.specs.Answer.{no}
use Rattle.hermes.specs.declared.event.Refused.{Refused}
use Rattle.hermes.specs.Guards.{Question, first_no}
use Rattle.std.proofs.lemmas.Bool.{and_parts}
use Rattle.hermes.proofs.Guards.{positive}
use Rattle.replica_asking.specs.Cascade.{asked, next}

-- after questions that passed the record on, the next are asked of that record
pub then : (qs : List Question) (more : Record → List Question) (r s : Record) → asked qs r ≡ Ok s → asked (qs ++ more r) r ≡ asked (more s) s
then [] more r s e = let i : r ≡ s = cc in ap (λ (x : Record). asked (more x) x) i
then (q ∷ qs) more r s e = go q.yes (then qs more r s) e
  where
    go : (b : Bool) → (asked qs r ≡ Ok s → asked (qs ++ more r) r ≡ asked (more s) s) → next b (asked qs r) q.number ≡ Ok s
        → next b (asked (qs ++ more r) r) q.number ≡ asked (more s) s
    go true rest h = rest h
    go false rest h = absurd (cc)

-- after a no, no more are asked
pub stop : (qs more : List Question) (r : Record) (e : Refused) → asked qs r ≡ Err e → asked (qs ++ more) r ≡ Err e
stop [] more r e h = absurd (cc)
stop (q ∷ qs) more r e h = go q.yes (stop qs more r e) h
  where
    go : (b : Bool) → (asked qs r ≡ Err e → asked (qs ++ more) r ≡ Err e) → next b (asked qs r) q.number ≡ Err e
        → next b (asked (qs ++ more) r) q.number ≡ Err e
    go true rest h = rest h
    go false rest h = h

-- ---- what the cascade says of the first no

pub passed_none : (qs : List Question) (r s : Record) → asked qs r ≡ Ok s → first_no qs ≡ 0
passed_none [] r s e = refl
passed_none (q ∷ qs) r s e = go q.yes (passed_none qs r s) e
  where
    go : (b : Bool) → (asked qs r ≡ Ok s → first_no qs ≡ 0) → next b (asked qs r) q.number ≡ Ok s → cond b (first_no qs) q.number ≡ 0
    go true rest h = rest h
    go false rest h = absurd (cc)

pub passed-same : (qs : List Question) (r s : Record) → asked qs r ≡ Ok s → r ≡ s
passed-same [] r s e = cc
passed-same (q ∷ qs) r s e = go q.yes (passed-same qs r s) e
  where
    go : (b : Bool) → (asked qs r ≡ Ok s → r ≡ s) → next b (asked qs r) q.number ≡ Ok s → r ≡ s
    go true rest h = rest h
    go false rest h = absurd (cc)

pub refused-first : (qs : List Question) (r : Record) (e : Refused) → positive qs ≡ true → asked qs r ≡ Err e → (first_no qs ≡ e.0) × (0 < e.0)
refused-first [] r e p h = absurd (cc)
refused-first (q ∷ qs) r e p h = go q.yes (refused-first qs r e (and_parts (ltb 0 q.number) (positive qs) p).1) h
  where
    go : (b : Bool) → (asked qs r ≡ Err e → (first_no qs ≡ e.0) × (0 < e.0)) → next b (asked qs r) q.number ≡ Err e
        → (cond b (first_no qs) q.number ≡ e.0) × (0 < e.0)
    go true rest h = rest h
    go false rest h = let same : no q.number ≡ e = cc in let n : q.number ≡ e.0 = ap (λ (x : Refused). x.0) same in (n, rw n at (ltb-true 0 q.number (and_parts (ltb 0 q.number) (positive qs) p).0))
