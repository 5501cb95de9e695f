-- Who gets what leaves an event. The idea: an accepted event sends what its step says, and each set is known by its members.
use Prim.Native.Nat.{ℕ, ◌<◌}
use mathlib.Core.Path.{◌≡◌, refl, sym, ◌∙◌}
use mathlib.Core.Bool.{Bool, true, false, not, false≢true}
use mathlib.Core.Logic.{◌⊎◌, inl, inr}
use mathlib.Core.List.{List}
use lib.Dec.{eqb}
use borrow.Author.Tests.{eqb-false, ne_eqb, not-true}
use Rattle.hermes_record.specs.declared.timestamp.Timestamp.{Timestamp}
use Rattle.hermes_record.specs.declared.record.Record.{Record}
use Rattle.hermes_record.specs.declared.record.State.{State}
use Rattle.hermes_record.specs.declared.record.State.TheVariants as state
use Rattle.hermes.specs.declared.message.Message.{Message}
use Rattle.hermes.specs.declared.message.Message.TheVariants.{Inv, Ack, Val}
use Rattle.hermes.specs.Answer.{Outgoing}
use Rattle.std.specs.Prelude.{None, Some}
use Rattle.hermes.specs.declared.message.Received.{Received}
use Rattle.hermes.specs.declared.event.Replica.{Replica}
use Rattle.hermes.specs.declared.event.Event.{Event}
use Rattle.hermes.specs.declared.event.Event.TheVariants.{Read, Ask, Write, Commit, Replay, Deliver, Validate, Resend}
use Rattle.hermes_record.specs.Members.{has, with, without}
use Rattle.hermes_record.specs.Order.{Orders, later}
use Rattle.hermes.specs.Settings.{under}
use Rattle.hermes.specs.Guards.{AllYes}
use Rattle.hermes.specs.Event.{inv_step, ack_step, completes, deliver_step, resent, step, own, sent_by, recipients}
use Rattle.hermes.specs.Node.{Outcome, record_of, apply}
use Rattle.hermes.specs.Recipients.{Exactly, Other, ForItsSender, GoesTo, leaves, WhoGets, OthersOnly}
use Rattle.std.proofs.lemmas.Bool.{and_parts, and_from}
use Rattle.hermes.proofs.Members.{Has, has-small, has-zero, has-without, with-members, members-with}
use Rattle.hermes.proofs.Guards.{DeliverOwn, deliver-own}
use Rattle.hermes.proofs.Apply.{Applied, refused, accepted, applied, its_own}

-- ---- the three sets, by their members

nobody : Exactly 0 (λ m. ⊥)
nobody m = (λ h. false≢true (sym (has-zero m) ∙ h), λ n. absurd n)

others : (me : Replica) → Exactly (without me.view me.number) (Other me)
others me m = (
  λ h. let (p, q) = and_parts (has me.view m) (not (eqb m me.number)) (sym (has-without me.view me.number m) ∙ h) in (p, eqb-false m me.number (not-true _ q)),
  λ o. has-without me.view me.number m ∙ and_from (has me.view m) (not (eqb m me.number)) o.0 (rw (ne_eqb m me.number o.1)),
)

only : (k : ℕ) → k < 16 → Exactly (with 0 k) (λ m. m ≡ k)
only k l m = (λ h. go (with-members 0 k m h), λ e. members-with 0 k m l (inr e))
  where
    go : Has 0 m ⊎ (m ≡ k) → m ≡ k
    go (inl h) = absurd (false≢true (sym (has-zero m) ∙ h))
    go (inr e) = e

-- ---- what a step sends

module _ (wins : Orders) (me : Replica) (i : ℕ) (r : Record) where
  for-its-sender : (m : Received) (t : Timestamp) → m.message ≡ Inv t → Other me m.sender → ForItsSender me (Deliver m) t (with 0 m.sender)
  for-its-sender m t e o = record { inv = m; delivered = refl; timestamp = e; sender = only m.sender (has-small me.view m.sender o.0); other = o }

  -- an INV is acknowledged whether it is taken or not
  inv-goes : (m : Received) (t : Timestamp) (v : List ℕ) → m.message ≡ Inv t → Other me m.sender → (b : Bool)
      → GoesTo me (Deliver m) (inv_step b me i r t m.sender v).sent (recipients me (Deliver m) (inv_step b me i r t m.sender v).sent)
  inv-goes m t v e o true = for-its-sender m t e o
  inv-goes m t v e o false = for-its-sender m t e o

  -- the VAL of a last ACK goes to all others
  ack-goes : (m : Received) (c : Bool)
      → GoesTo me (Deliver m) (ack_step c me i r m.sender).sent (recipients me (Deliver m) (ack_step c me i r m.sender).sent)
  ack-goes m true = others me
  ack-goes m false = nobody

  deliver-goes : (m : Received) (k : Message) (v : List ℕ) → m.message ≡ k → Other me m.sender
      → GoesTo me (Deliver m) (deliver_step wins me i r m.sender k v).sent (recipients me (Deliver m) (deliver_step wins me i r m.sender k v).sent)
  deliver-goes m (Inv t) v e o = inv-goes m t v e o (later (under wins me.settings) t r.timestamp)
  deliver-goes m (Ack t) v e o = ack-goes m (completes me r m.sender)
  deliver-goes m (Val t) v e o = nobody

  resent-goes : (s : State) (t : Timestamp) → GoesTo me Resend (resent me i s t) (recipients me Resend (resent me i s t))
  resent-goes state.Valid t = others me
  resent-goes state.Invalid t = nobody
  resent-goes state.InvalidWrite t = nobody
  resent-goes state.Write t = others me
  resent-goes state.Replay t = others me

  step-goes : (e : Event) (v : List ℕ) (n : ℕ) → AllYes (own me r e n) → GoesTo me e (step wins me i r e v).sent (recipients me e (step wins me i r e v).sent)
  step-goes Read v n y = nobody
  step-goes Ask v n y = nobody
  step-goes Write v n y = others me
  step-goes (Commit t) v n y = others me
  step-goes Replay v n y = others me
  step-goes (Deliver m) v n y =
      let d : DeliverOwn me r m n = deliver-own me r m n y in
      deliver-goes m m.message v refl (d.known, eqb-false m.sender me.number d.other)
  step-goes Validate v n y = others me
  step-goes Resend v n y = resent-goes r.state r.timestamp

-- ---- the theorems

pub who-gets : WhoGets
who-gets wins n i e v = go (apply wins n i e v) (applied wins n i e v)
  where
    go : (o : Outcome) → Applied wins n i e v o → GoesTo n.me e (sent_by o.answer) (recipients n.me e (sent_by o.answer))
    go o (refused k z q) = rw q nobody
    go o (accepted y c q) = rw q (step-goes wins n.me i (record_of i n) e v _ (its_own n i e v y))

pub others-only : OthersOnly
others-only wins n i e v m = go (leaves wins n i e v) (recipients n.me e (leaves wins n i e v)) (who-gets wins n i e v)
  where
    go : (o : Outgoing) (to : ℕ) → GoesTo n.me e o to → Has to m → Other n.me m
    go None to g h = absurd ((g m).0 h)
    go (Some (Inv t, d)) to g h = (g m).0 h
    go (Some (Ack t, d)) to g h = rw ((g.sender m).0 h) g.other
    go (Some (Val t, d)) to g h = (g m).0 h
