-- 02, Wish 1: what an accepted ACK does, and that nobody waits once all have replied. The idea of the second: every accepted event but a view
-- leaves its record settled, just begun with nobody counted, or as the question after the last ACK left it.
use Prim.Native.Nat.{ℕ, ◌<◌}
use mathlib.Core.Path.{◌≡◌, refl, sym, ap, ◌∙◌}
use mathlib.Core.Bool.{Bool, true, false, false≢true}
use mathlib.Core.Logic.{◌⊎◌, inl, inr, ⊎_swap, ◌≢◌}
use mathlib.Core.List.{List, [], ◌∷◌}
use native.Mathlib.Decide.{ℕ_discrete}
use lib.Dec.{leb}
use lib.ListN.{length}
use Rattle.hermes_record.specs.declared.record.Record.{Record}
use Rattle.hermes_record.specs.declared.record.State.{State}
use Rattle.hermes_record.specs.declared.record.State.TheVariants as state
use Rattle.hermes.specs.declared.message.Message.TheVariants.{Val}
use Rattle.std.specs.Prelude.{None}
use Rattle.hermes.specs.declared.event.Replica.{Replica}
use Rattle.hermes.specs.declared.event.Settings.{Settings}
use Rattle.hermes.specs.declared.event.Event.TheVariants.{Deliver}
use Rattle.hermes_record.specs.Members.{has, size, with}
use Rattle.hermes_record.specs.Order.{Orders}
use Rattle.hermes.specs.Settings.{under}
use Rattle.hermes_record.specs.Record.{one_of, invalidated_state, written_by, replayed, invalidated, acknowledged, validated}
use Rattle.hermes.specs.Guards.{question1}
use Rattle.hermes.specs.Event.{Step, ack_step, completes, send}
use Rattle.hermes.specs.Node.{record_of}
use Rattle.hermes.specs.Run.{Entry, Group}
use Rattle.hermes.specs.Agreement.{Started, after}
use Rattle.hermes.specs.LastAck.{Waits, EveryOther, Completes, LastAckSettles, AllReplied, IsView, NoView, NobodyWaits}
use Rattle.std.proofs.lemmas.Bool.{and_parts, and_from}
use Rattle.hermes.proofs.Members.{has-small, has-zero, has-with, with-members, members-with, every-other, others-every}
use Rattle.hermes.proofs.Guards.{deliver-own}
use Rattle.hermes.proofs.Words.{Two, size-two}
use Rattle.hermes.proofs.Apply.{step_of, changed, was-accepted, its_own}
use Rattle.hermes.proofs.Along.{fresh-record, Becomes, same, writes, replays, invalidates, counts, settles, validates, along}

-- ---- question 15, in the words of the statements

pending : (r : Record) → Waits r → one_of r.state (state.Write ∷ state.Replay ∷ []) ≡ true
pending r (inl e) = rw e
pending r (inr e) = rw e

waits : (s : State) → one_of s (state.Write ∷ state.Replay ∷ []) ≡ true → (s ≡ state.Write) ⊎ (s ≡ state.Replay)
waits state.Valid e = absurd (false≢true e)
waits state.Invalid e = absurd (false≢true e)
waits state.InvalidWrite e = absurd (false≢true e)
waits state.Write e = inl refl
waits state.Replay e = inr refl

module _ (me : Replica) (r : Record) where
  -- an ACK completes the view: as the statement has it, and as the step asks it
  pub does-complete : (sender : ℕ) → one_of r.state (state.Write ∷ state.Replay ∷ []) ≡ true → Completes me r sender → completes me r sender ≡ true
  does-complete sender p c = and_from _ _ p (every-other me.number me.view (with r.acks sender) (λ m k d. counted m (has-small me.view m k) (c m k d)))
    where
      counted : (m : ℕ) → m < 16 → (m ≡ sender) ⊎ (has r.acks m ≡ true) → has (with r.acks sender) m ≡ true
      counted m l (inl e) = members-with r.acks sender m (rw (← e) l) (inr e)
      counted m l (inr h) = rw (has-with r.acks sender m, h)

  pub completes-it : (sender : ℕ) → completes me r sender ≡ true → Waits r × Completes me r sender
  completes-it sender e =
      let (p, q) = and_parts (one_of r.state (state.Write ∷ state.Replay ∷ [])) _ e in
      (waits r.state p, λ m k d. ⊎_swap (with-members r.acks sender m (others-every me.number me.view (with r.acks sender) q m k d)))

-- ---- one ACK

module _ (me : Replica) (i : ℕ) (r : Record) (sender : ℕ) (known : has me.view sender ≡ true) where
  -- the step, by whether it completes the view
  record StepDone (s : Step) : Type 0 where
    counted : has s.after.acks sender ≡ true
    last : Waits r → Completes me r sender → (s.after.state ≡ state.Valid) × (s.sent ≡ send me i (Val r.timestamp))
    other : (Waits r → Completes me r sender → ⊥) → (s.after.state ≡ r.state) × (s.sent ≡ None)

  in-set : has (with r.acks sender) sender ≡ true
  in-set = members-with r.acks sender sender (has-small me.view sender known) (inr refl)

  step-done : (c : Bool) → completes me r sender ≡ c → StepDone (ack_step c me i r sender)
  step-done true e = record { counted = in-set; last = λ w k. (refl, refl); other = λ f. let (w, k) = completes-it me r sender e in absurd (f w k) }
  step-done false e = record { counted = in-set; last = λ w k. absurd (false≢true (sym e ∙ does-complete me r sender (pending r w) k)); other = λ f. (refl, refl) }

pub last-ack-settles : LastAckSettles
last-ack-settles wins n i m t v is e =
    let (y, q) = was-accepted wins n i (Deliver m) v e in
    let c = changed wins n i (Deliver m) v y in
    let known = (deliver-own n.me (record_of i n) m (length v) (its_own n i (Deliver m) v y)).known in
    let s = step-done n.me i (record_of i n) m.sender known (completes n.me (record_of i n) m.sender) refl in
    let same : step_of wins n i (Deliver m) v ≡ ack_step (completes n.me (record_of i n) m.sender) n.me i (record_of i n) m.sender = rw is in
    let d : StepDone n.me i (record_of i n) m.sender known (step_of wins n i (Deliver m) v) = rw same s in
    rw q (record {
      counted = rw c.here d.counted;
      last = λ w k. let (a, b) = d.last w k in (rw c.here a, b);
      other = λ f. let (a, b) = d.other f in (rw c.here a, b);
    })

-- ---- nobody waits

-- the same of a record, with its replica
abbrev Replied : Replica → Record → Type 0
Replied me r = Waits r × EveryOther me (λ m. has r.acks m ≡ true)

-- a record of another state does not wait
idle : (me : Replica) (r : Record) → one_of r.state (state.Write ∷ state.Replay ∷ []) ≡ false → Replied me r → ⊥
idle me r e h = false≢true (sym e ∙ pending r h.0)

-- in a view of two somebody is not counted yet when nobody is
begun-waits : (me : Replica) (r : Record) → (question1 me).yes ≡ true → r.acks ≡ 0 → Replied me r → ⊥
begun-waits me r y z h = go (size-two me.view (and_parts (leb me.number 15) (leb 2 (size me.view)) y).1)
  where
    uncounted : (m : ℕ) → has me.view m ≡ true → m ≢ me.number → ⊥
    uncounted m k d = false≢true (sym (has-zero m) ∙ rw z at (h.1 m k d))

    go : Two 16 (has me.view) → ⊥
    go t = side (ℕ_discrete t.one me.number)
      where
        side : Dec (t.one ≡ me.number) → ⊥
        side (no d) = uncounted t.one t.one_passes d
        side (yes e) = uncounted t.two t.two_passes (λ d. t.apart (e ∙ sym d))

taken-idle : (s : State) → one_of (invalidated_state s) (state.Write ∷ state.Replay ∷ []) ≡ false
taken-idle state.Valid = refl
taken-idle state.Invalid = refl
taken-idle state.InvalidWrite = refl
taken-idle state.Write = refl
taken-idle state.Replay = refl

-- every accepted event but a view keeps it so
keeps : (wins : ℕ → ℕ → Bool) (me : Replica) (r b : Record) → (question1 me).yes ≡ true → Becomes wins me r b → (Replied me r → ⊥) → Replied me b → ⊥
keeps wins me r b y (same e) before = rw e before
keeps wins me r b y (writes n more e) before = rw e (begun-waits me (written_by r me.number n) y refl)
keeps wins me r b y (replays d e) before = rw e (begun-waits me (replayed r me.number) y refl)
keeps wins me r b y (invalidates t sender n l d e) before = rw e (idle me (invalidated r t sender n) (taken-idle r.state))
keeps wins me r b y (counts sender c e) before =
    rw e (λ h. false≢true (sym c ∙ and_from _ _ (pending (acknowledged r sender) h.0) (every-other me.number me.view (with r.acks sender) h.1)))
keeps wins me r b y (settles sender e) before = rw e (idle me (validated (acknowledged r sender)) refl)
keeps wins me r b y (validates e) before = rw e (idle me (validated r) refl)

later-none : (wins : Orders) (i k : ℕ) (g : Group) → (AllReplied i (g.at k) → ⊥) → (entries : List Entry) → NoView k entries → AllReplied i (after wins g entries k) → ⊥
later-none wins i k g before entries f =
    along wins i (λ me r. Replied me r → ⊥) (λ me. keeps (under wins me.settings) me)
    (λ a. IsView a → ⊥) (λ n epoch set no-view none. absurd (no-view tt))
    k (NoView k) (λ a rest fs. fs) g before entries f

-- a fresh record is valid
fresh-none : (member : ℕ → Bool) (count : ℕ) (issued : ℕ → ℕ) (settings : Settings) (g : Group) → Started member count issued settings g → (i k : ℕ) → i < count → member k ≡ true → AllReplied i (g.at k) → ⊥
fresh-none member count issued settings g s i k l m h =
    idle (g.at k).me (record_of i (g.at k)) (ap (λ (r : Record). one_of r.state (state.Write ∷ state.Replay ∷ [])) (fresh-record member count issued settings g s i k l m)) h

pub nobody-waits : NobodyWaits
nobody-waits = record { fresh = fresh-none; later = λ wins g i k before entries f. later-none wins i k g before entries f }
