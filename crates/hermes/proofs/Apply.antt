-- What an event on a record comes to: refused, and nothing has changed; or every question said yes, and its step is done.
use Prim.Native.Nat.{ℕ, zero, suc, ◌+◌, ◌*◌, ◌≤◌}
use mathlib.Core.Path.{◌≡◌, refl, ap}
use mathlib.Core.List.{List}
use native.Mathlib.Omega.{arith}
use lib.ListN.{length, set, take, drop, length-set}
use lib.Seq.{set-get_or, get_or-set_same, get_or-set_other}
use Rattle.hermes.specs.declared.event.Event.{Event}
use Rattle.hermes.specs.Answer.{no}
use Rattle.std.specs.Prelude.{Err, Ok}
use Rattle.hermes_record.specs.declared.record.Record.{Record}
use Rattle.hermes_record.specs.Order.{Orders}
use Rattle.hermes.specs.Guards.{Question, AllYes}
use Rattle.hermes_record.specs.Record.{fresh_record}
use Rattle.hermes.specs.Event.{Stored, kept, placed, Step, common, own, refusal, step, storing, effect, number_of, sent_by}
use Rattle.hermes.specs.Node.{Node, Outcome, record_of, apply}
use Rattle.hermes.specs.Store.{slot}
use Rattle.hermes.specs.Frame.{bytes_after, Changed}
use Rattle.hermes.proofs.Guards.{Common, common-passed, passed, none-refuses, slot-fits}
use Rattle.hermes.proofs.Store.{slot_same, length-place, take-place, drop-place}
use Rattle.hermes.proofs.Steps.{Fits, SoundStep, step-sound}

-- the number that an event on record i answers, its questions and its step
abbrev pub refusal_of : Node → ℕ → Event → List ℕ → ℕ
refusal_of n i e v = refusal n.me (length n.table) (length n.store) i (record_of i n) e (length v)

abbrev pub own_of : Node → ℕ → Event → List ℕ → List Question
own_of n i e v = own n.me (record_of i n) e (length v)

abbrev pub questions_of : Node → ℕ → Event → List ℕ → List Question
questions_of n i e v = common n.me (length n.table) (length n.store) i (record_of i n) (own_of n i e v)

abbrev pub step_of : Orders → Node → ℕ → Event → List ℕ → Step
step_of wins n i e v = step wins n.me i (record_of i n) e v

pub passed-zero : (n : Node) (i : ℕ) (e : Event) (v : List ℕ) → AllYes (questions_of n i e v) → refusal_of n i e v ≡ 0
passed-zero n i e v y = none-refuses n.me (length n.table) (length n.store) i (record_of i n) e (length v) y

-- the replica with a step done on record i
abbrev pub done : Node → ℕ → Step → Node
done n i s = record { me = n.me; table = set n.table i s.after; store = storing i s.stored n.store }

-- questions 1 to 5 of a passed event
pub first-five : (n : Node) (i : ℕ) (e : Event) (v : List ℕ) → AllYes (questions_of n i e v) → Common n.me (length n.table) (length n.store) i (record_of i n)
first-five n i e v y = common-passed n.me (length n.table) (length n.store) i (record_of i n) (own_of n i e v) y

-- its own questions
pub its_own : (n : Node) (i : ℕ) (e : Event) (v : List ℕ) → AllYes (questions_of n i e v) → AllYes (own_of n i e v)
its_own n i e v y = y.1.1.1.1.1

-- its step leaves a sound record and stores what fits
pub sound-step : (wins : Orders) (n : Node) (i : ℕ) (e : Event) (v : List ℕ) → AllYes (questions_of n i e v) → SoundStep n.me (step_of wins n i e v)
sound-step wins n i e v y =
    let c = first-five n i e v y in step-sound wins n.me i (record_of i n) c.number c.sound e v (its_own n i e v y)

-- ---- the store

module _ (i : ℕ) (s : List ℕ) (room : 192 * i + 192 ≤ length s) where
  storing-slot : (b : Stored) → Fits b → slot i (storing i b s) ≡ bytes_after b (slot i s)
  storing-slot kept f = refl
  storing-slot (placed v) f = slot_same i v s room f

  storing-length : (b : Stored) → Fits b → length (storing i b s) ≡ length s
  storing-length kept f = refl
  storing-length (placed v) f = length-place i v s room f

  storing-before : (b : Stored) → Fits b → take (192 * i) (storing i b s) ≡ take (192 * i) s
  storing-before kept f = refl
  storing-before (placed v) f = take-place i v s room f

  storing-behind : (b : Stored) → Fits b → drop (192 * i + 192) (storing i b s) ≡ drop (192 * i + 192) s
  storing-behind kept f = refl
  storing-behind (placed v) f = drop-place i v s room f

-- ---- an event

-- the step is done on record i, and all else is as it was
pub changed : (wins : Orders) (n : Node) (i : ℕ) (e : Event) (v : List ℕ) → AllYes (questions_of n i e v)
    → Changed i (step_of wins n i e v) n (done n i (step_of wins n i e v))
changed wins n i e v y = record {
  here = get_or-set_same n.table i s.after (fresh_record 0) (first-five n i e v y).inside;
  bytes = storing-slot i n.store room s.stored fits;
  identity = refl;
  count = length-set n.table i s.after;
  room = storing-length i n.store room s.stored fits;
  others = λ j d. get_or-set_other n.table i j s.after (fresh_record 0) d;
  before = storing-before i n.store room s.stored fits;
  behind = storing-behind i n.store room s.stored fits;
}
  where
    s : Step
    s = step_of wins n i e v

    fits : Fits s.stored
    fits = (sound-step wins n i e v y).fits

    room : 192 * i + 192 ≤ length n.store
    room = slot-fits (first-five n i e v y)

pub data Applied (wins : Orders) (n : Node) (i : ℕ) (e : Event) (v : List ℕ) (o : Outcome) : Type 0 where
  refused : (k : ℕ) → refusal_of n i e v ≡ suc k → o ≡ record { answer = Err (no (suc k)); node = n } → Applied wins n i e v o
  accepted : AllYes (questions_of n i e v) → Changed i (step_of wins n i e v) n (done n i (step_of wins n i e v))
      → o ≡ record { answer = Ok (step_of wins n i e v).sent; node = done n i (step_of wins n i e v) } → Applied wins n i e v o

pub applied : (wins : Orders) (n : Node) (i : ℕ) (e : Event) (v : List ℕ) → Applied wins n i e v (apply wins n i e v)
unfolding apply effect
applied wins n i e v = go (refusal_of n i e v) refl
  where
    o : Outcome
    o = apply wins n i e v

    go : (k : ℕ) → refusal_of n i e v ≡ k → Applied wins n i e v o
    go zero z = let y : AllYes (questions_of n i e v) = passed n.me (length n.table) (length n.store) i (record_of i n) e (length v) z in
        accepted y (changed wins n i e v y) (rw z)
    go (suc k) z = refused k z (rw z (ap (λ (t : List Record). record { answer = Err (no (suc k)); node = record { me = n.me; table = t; store = n.store } }) (set-get_or n.table i (fresh_record 0))))

-- an event that was accepted: its questions all said yes, and its step is done
pub was-accepted : (wins : Orders) (n : Node) (i : ℕ) (e : Event) (v : List ℕ) → number_of (apply wins n i e v).answer ≡ 0
    → AllYes (questions_of n i e v) × (apply wins n i e v ≡ record { answer = Ok (step_of wins n i e v).sent; node = done n i (step_of wins n i e v) })
was-accepted wins n i e v = go (apply wins n i e v) (applied wins n i e v)
  where
    go : (o : Outcome) → Applied wins n i e v o → number_of o.answer ≡ 0
        → AllYes (questions_of n i e v) × (o ≡ record { answer = Ok (step_of wins n i e v).sent; node = done n i (step_of wins n i e v) })
    go o (refused k z q) a = absurd (omega (arith, ap (λ (x : Outcome). number_of x.answer) q))
    go o (accepted y c q) a = (y, q)

-- one that was refused: nothing is sent, and all is as it was
pub was-refused : (wins : Orders) (n : Node) (i : ℕ) (e : Event) (v : List ℕ) → (number_of (apply wins n i e v).answer ≡ 0 → ⊥)
    → (k : ℕ) × (refusal_of n i e v ≡ suc k) × (apply wins n i e v ≡ record { answer = Err (no (suc k)); node = n })
was-refused wins n i e v = go (apply wins n i e v) (applied wins n i e v)
  where
    go : (o : Outcome) → Applied wins n i e v o → (number_of o.answer ≡ 0 → ⊥) → (k : ℕ) × (refusal_of n i e v ≡ suc k) × (o ≡ record { answer = Err (no (suc k)); node = n })
    go o (refused k z q) a = (k, z, q)
    go o (accepted y c q) a = absurd (a (ap (λ (x : Outcome). number_of x.answer) q))

-- an event whose questions all say yes is accepted, and sends what its step does
pub answered : (wins : Orders) (n : Node) (i : ℕ) (e : Event) (v : List ℕ) → AllYes (questions_of n i e v)
    → (number_of (apply wins n i e v).answer ≡ 0) × (sent_by (apply wins n i e v).answer ≡ (step_of wins n i e v).sent)
answered wins n i e v y = go (apply wins n i e v) (applied wins n i e v)
  where
    go : (o : Outcome) → Applied wins n i e v o → (number_of o.answer ≡ 0) × (sent_by o.answer ≡ (step_of wins n i e v).sent)
    go o (refused k z q) = absurd (omega (arith, z, passed-zero n i e v y))
    go o (accepted y c q) = rw q (refl, refl)
