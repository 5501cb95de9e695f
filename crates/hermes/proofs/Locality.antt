-- Replicas that are equal in what document 01 names answer an event alike. The idea: the number and the step depend on nothing else, and a
-- value that leaves lies within its record's 192 bytes.
use Prim.Native.Nat.{ℕ, zero, suc, ◌≤◌}
use mathlib.Core.Path.{◌≡◌, refl, sym, ap, ap₂, ◌∙◌}
use mathlib.Core.List.{List, []}
use native.Mathlib.Omega.{arith}
use lib.ListN.{length, take}
use Rattle.hermes_record.specs.declared.record.Record.{Record}
use Rattle.hermes.specs.Answer.{Outgoing, no}
use Rattle.std.specs.Prelude.{Err, None, Ok, Some}
use Rattle.hermes.specs.declared.event.Event.{Event}
use Rattle.hermes.specs.declared.event.Event.TheVariants.{Read, Ask}
use Rattle.hermes_record.specs.Order.{Orders, ties}
use Rattle.hermes.specs.Store.{slot}
use Rattle.hermes.specs.Event.{Step, refusal, step, part_of, read_part, Handed, stamp_handed, ask_stamp, ask_hands, body_of}
use Rattle.hermes.specs.Node.{Node, Outcome, record_of, value_of, leaving, apply}
use Rattle.hermes.specs.Frame.{bytes_after, Changed}
use Rattle.hermes.specs.Locality.{EqualAt, AnswersAlike, Locality, ReadLocality, AskLocality, Demand1}
use Rattle.hermes.proofs.Frame.{event-frame, view-frame, start-frame}
use Rattle.hermes.proofs.Store.{value-slot}
use Rattle.hermes.specs.Guards.{AllYes}
use Rattle.hermes.proofs.Guards.{event-passed}
use Rattle.hermes.proofs.Steps.{About, step-about}
use Rattle.hermes.proofs.Apply.{passed-zero, refusal_of, questions_of, step_of, done, Applied, refused, accepted, applied, sound-step}

-- the bytes that leave, taken from the record's 192
abbrev pub leaving_slot : Outgoing → Record → List ℕ → List ℕ
leaving_slot None r b = []
leaving_slot (Some (m, h)) r b = body_of m (take r.len b)

pub leaving-slot : (i : ℕ) (o : Outgoing) → About i o → (n : Node) → (record_of i n).len ≤ 192 → leaving o n.table n.store ≡ leaving_slot o (record_of i n) (slot i n.store)
leaving-slot i None a n h = refl
leaving-slot i (Some (m, d)) a n h = ap (body_of m) (ap (λ (j : ℕ). value_of j n) a ∙ value-slot i (record_of i n).len n.store h)

module _ (wins : Orders) (i : ℕ) (n m : Node) (q : EqualAt i n m) (e : Event) (v : List ℕ) where
  same-refusal : refusal_of n i e v ≡ refusal_of m i e v
  same-refusal = λ t. refusal (q.identity t) (q.count t) (q.room t) i (q.here t) e (length v)

  same_step : step_of wins n i e v ≡ step_of wins m i e v
  same_step = λ t. step wins (q.identity t) i (q.here t) e v

  both-done : Changed i (step_of wins n i e v) n (done n i (step_of wins n i e v)) → Changed i (step_of wins m i e v) m (done m i (step_of wins m i e v))
      → EqualAt i (done n i (step_of wins n i e v)) (done m i (step_of wins m i e v))
  both-done c d = record {
    identity = q.identity;
    count = c.count ∙ q.count ∙ sym d.count;
    room = c.room ∙ q.room ∙ sym d.room;
    here = c.here ∙ ap (λ (s : Step). s.after) same_step ∙ sym d.here;
    bytes = c.bytes ∙ (λ t. bytes_after (same_step t).stored (q.bytes t)) ∙ sym d.bytes;
  }

pub locality : (wins : Orders) → Locality wins
locality wins i n m q e v = go (apply wins n i e v) (applied wins n i e v) (apply wins m i e v) (applied wins m i e v)
  where
    go : (o : Outcome) → Applied wins n i e v o → (p : Outcome) → Applied wins m i e v p → AnswersAlike i o p
    go o (refused k z a) p (refused k' z' b) = rw (a, b) (record { answer = ap (λ (k : ℕ). Err (no k)) (sym z ∙ same-refusal wins i n m q e v ∙ z'); leaves = refl; after = q })
    go o (refused k z a) p (accepted y d b) = absurd (omega (arith, z, same-refusal wins i n m q e v, passed-zero m i e v y))
    go o (accepted y c a) p (refused k z b) = absurd (omega (arith, z, same-refusal wins i n m q e v, passed-zero n i e v y))
    go o (accepted y c a) p (accepted y' d b) = rw (a, b) (record { answer = ap (λ (s : Step). Ok s.sent) same; leaves = leaves; after = after })
      where
        same : step_of wins n i e v ≡ step_of wins m i e v
        same = same_step wins i n m q e v

        after : EqualAt i (done n i (step_of wins n i e v)) (done m i (step_of wins m i e v))
        after = both-done wins i n m q e v c d

        left : (x : Node) → AllYes (questions_of x i e v) → Changed i (step_of wins x i e v) x (done x i (step_of wins x i e v))
            → leaving (step_of wins x i e v).sent (done x i (step_of wins x i e v)).table (done x i (step_of wins x i e v)).store
            ≡ leaving_slot (step_of wins x i e v).sent (record_of i (done x i (step_of wins x i e v))) (slot i (done x i (step_of wins x i e v)).store)
        left x y c = leaving-slot i (step_of wins x i e v).sent (step-about wins x.me i (record_of i x) e v) (done x i (step_of wins x i e v)) (rw c.here (sound-step wins x i e v y).after.short)

        leaves : leaving (step_of wins n i e v).sent (done n i (step_of wins n i e v)).table (done n i (step_of wins n i e v)).store
            ≡ leaving (step_of wins m i e v).sent (done m i (step_of wins m i e v)).table (done m i (step_of wins m i e v)).store
        leaves = left n y c ∙ (λ t. leaving_slot (same t).sent (after.here t) (after.bytes t)) ∙ sym (left m y' d)

-- ---- what a read and an ask hand out

module _ (i : ℕ) (n m : Node) (q : EqualAt i n m) where
  -- a value of at most 192 bytes
  same-value : (record_of i n).len ≤ 192 → value_of i n ≡ value_of i m
  same-value h = value-slot i (record_of i n).len n.store h ∙ (λ t. take (q.here t).len (q.bytes t)) ∙ sym (value-slot i (record_of i m).len m.store (rw (← ap (λ (r : Record). r.len) q.here) h))

  short : (e : Event) → refusal_of n i e [] ≡ 0 → (record_of i n).len ≤ 192
  short e z = (event-passed n.me (length n.table) (length n.store) i (record_of i n) e 0 z).sound.short

  same_number : (e : Event) → refusal_of n i e [] ≡ refusal_of m i e []
  same_number e = λ t. refusal (q.identity t) (q.count t) (q.room t) i (q.here t) e 0

pub read-locality : ReadLocality
unfolding read_part
read-locality i n m q = go (refusal_of n i Read []) refl
  where
    go : (k : ℕ) → refusal_of n i Read [] ≡ k → part_of (refusal_of n i Read []) (value_of i n) ≡ part_of (refusal_of m i Read []) (value_of i m)
    go zero z = ap₂ part_of (same_number i n m q Read) (same-value i n m q (short i n m q Read z))
    go (suc k) z = rw (z, sym (same_number i n m q Read) ∙ z)

pub ask-locality : AskLocality
unfolding ask_stamp ask_hands
ask-locality i n m q = go (refusal_of n i Ask []) refl
  where
    go : (k : ℕ) → refusal_of n i Ask [] ≡ k
        → ◌≡◌ {A = Handed} (record { part = part_of (refusal_of n i Ask []) (value_of i n); timestamp = stamp_handed (refusal_of n i Ask []) (record_of i n).timestamp })
        (record { part = part_of (refusal_of m i Ask []) (value_of i m); timestamp = stamp_handed (refusal_of m i Ask []) (record_of i m).timestamp })
    go zero z = λ t. record { part = part_of (same_number i n m q Ask t) (same-value i n m q (short i n m q Ask z) t); timestamp = stamp_handed (same_number i n m q Ask t) (q.here t).timestamp }
    go (suc k) z = rw (z, sym (same_number i n m q Ask) ∙ z)

-- ---- the theorem

-- demand 1
pub confinement : Demand1
confinement = record { event = event-frame ties; view = view-frame; start = start-frame; locality = locality ties; read_locality = read-locality; ask_locality = ask-locality }
