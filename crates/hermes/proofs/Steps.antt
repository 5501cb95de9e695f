-- An accepted step leaves a sound record (question 5) and stores a value of at most 192 bytes.
use Prim.Native.Nat.{ℕ, ◌+◌, ◌≤◌}
use mathlib.Core.Path.{◌≡◌, refl, sym, ◌∙◌}
use mathlib.Core.Bool.{Bool, true, false, not, false≢true}
use mathlib.Core.Logic.{◌⊎◌, inl, inr}
use mathlib.Core.List.{List}
use native.Mathlib.Omega.{arith}
use lib.Dec.{ltb, leb, eqb}
use lib.ListN.{length}
use borrow.Author.Rules.{rules}
use borrow.Author.Tests.{leb-true, le-leb, eqb-false, not-true}
use Rattle.hermes_record.specs.declared.timestamp.Timestamp.{Timestamp}
use Rattle.hermes_record.specs.declared.record.Record.{Record}
use Rattle.hermes_record.specs.declared.record.State.{State}
use Rattle.hermes_record.specs.declared.record.State.TheVariants as state
use Rattle.hermes.specs.declared.message.Message.{Message}
use Rattle.hermes.specs.declared.message.Message.TheVariants.{Inv, Ack, Val}
use Rattle.hermes.specs.Answer.{Outgoing}
use Rattle.std.specs.Prelude.{None, Some}
use Rattle.hermes.specs.declared.event.Replica.{Replica}
use Rattle.hermes.specs.declared.event.Event.{Event}
use Rattle.hermes.specs.declared.event.Event.TheVariants.{Read, Ask, Write, Commit, Replay, Deliver, Validate, Resend}
use Rattle.hermes_record.specs.Members.{has, with}
use Rattle.hermes_record.specs.Order.{Orders, later}
use Rattle.hermes.specs.Settings.{under}
use Rattle.hermes_record.specs.Record.{next_version}
use Rattle.hermes.specs.Guards.{AllYes, question5, shapely}
use Rattle.hermes.specs.Event.{Stored, kept, placed, Step, write_step, inv_step, ack_step, completes, deliver_step, resent, step, own}
use Rattle.std.proofs.lemmas.Bool.{and_parts, false_from_ne_true}
use Rattle.hermes.proofs.Guards.{Sound}
use Rattle.hermes.proofs.Members.{Has, has-small, has-zero, with-members}

-- question 9: below the greatest version a write adds one
pub next-version : (v : ℕ) → ltb v 4294967295 ≡ true → next_version v ≡ v + 1
next-version v h = rw h

pub sound-yes : (me : Replica) (r : Record) → Sound me r → (question5 me r).yes ≡ true
sound-yes me r f =
    rw (le-leb r.len 192 f.short, le-leb r.timestamp.tie 15 f.tie, le-leb r.written.tie 15 f.own-tie, le-leb r.writer 15 f.writer, f.uncounted)

-- what a step stores fits in the record's 192 bytes
abbrev pub Fits : Stored → Type 0
Fits kept = Unit
Fits (placed v) = length v ≤ 192

pub record SoundStep (me : Replica) (s : Step) : Type 0 where
  pub after : Sound me s.after
  pub fits : Fits s.stored

module _ (wins : Orders) (me : Replica) (i : ℕ) (r : Record) (small : me.number ≤ 15) (ok : Sound me r) where
  inv-sound : (t : Timestamp) (sender : ℕ) (v : List ℕ) → t.tie ≤ 15 → sender ≤ 15 → length v ≤ 192 → (g : Bool) → SoundStep me (inv_step g me i r t sender v)
  inv-sound t sender v a b c true = record { after = record { short = c; tie = a; own-tie = ok.own-tie; writer = b; uncounted = ok.uncounted }; fits = search rules }
  inv-sound t sender v a b c false = record { after = ok; fits = tt }

  deliver-sound : (sender : ℕ) (m : Message) (v : List ℕ) → has me.view sender ≡ true → eqb sender me.number ≡ false → shapely m (length v) ≡ true
      → SoundStep me (deliver_step wins me i r sender m v)
  deliver-sound sender (Inv t) v h d b =
      let (p, q) = and_parts (leb t.tie 15) (leb (length v) 192) b in
      inv-sound t sender v (leb-true _ _ p) (omega (arith, has-small me.view sender h)) (leb-true _ _ q) (later (under wins me.settings) t r.timestamp)
  deliver-sound sender (Ack t) v h d b = go (completes me r sender)
    where
      other : Has r.acks me.number ⊎ (me.number ≡ sender) → ⊥
      other (inl k) = false≢true (sym ok.uncounted ∙ k)
      other (inr e) = eqb-false sender me.number d (sym e)

      counted : has (with r.acks sender) me.number ≡ false
      counted = false_from_ne_true _ (λ k. other (with-members r.acks sender me.number k))

      go : (c : Bool) → SoundStep me (ack_step c me i r sender)
      go true = record { after = record { short = ok.short; tie = ok.tie; own-tie = ok.own-tie; writer = ok.writer; uncounted = counted }; fits = tt }
      go false = record { after = record { short = ok.short; tie = ok.tie; own-tie = ok.own-tie; writer = ok.writer; uncounted = counted }; fits = tt }
  deliver-sound sender (Val t) v h d b = record { after = record { short = ok.short; tie = ok.tie; own-tie = ok.own-tie; writer = ok.writer; uncounted = ok.uncounted }; fits = tt }

  write-sound : (v : List ℕ) → length v ≤ 192 → SoundStep me (write_step me i r v)
  write-sound v h = record { after = record { short = h; tie = small; own-tie = small; writer = small; uncounted = search has-zero }; fits = h }

  -- a step whose own questions all said yes
  pub step-sound : (e : Event) (v : List ℕ) → AllYes (own me r e (length v)) → SoundStep me (step wins me i r e v)
  step-sound Read v y = record { after = ok; fits = tt }
  step-sound Ask v y = record { after = ok; fits = tt }
  step-sound Write v y = write-sound v (leb-true (length v) 192 y.1.0)
  step-sound (Commit t) v y = write-sound v (leb-true (length v) 192 y.1.0)
  step-sound Replay v y = record { after = record { short = ok.short; tie = search ok; own-tie = search ok; writer = small; uncounted = search has-zero }; fits = tt }
  step-sound (Deliver m) v y =
      let (p, q) = and_parts (has me.view m.sender) (not (eqb m.sender me.number)) y.1.0 in
      deliver-sound m.sender m.message v p (not-true _ q) y.1.1.0
  step-sound Validate v y = record { after = record { short = ok.short; tie = ok.tie; own-tie = ok.own-tie; writer = ok.writer; uncounted = ok.uncounted }; fits = tt }
  step-sound Resend v y = record { after = ok; fits = tt }

-- ---- a message that leaves a step on record i is about record i

abbrev pub About : ℕ → Outgoing → Type 0
About i None = Unit
About i (Some (m, h)) = h.index ≡ i

inv-about : (me : Replica) (i : ℕ) (r : Record) (t : Timestamp) (sender : ℕ) (v : List ℕ) (g : Bool) → About i (inv_step g me i r t sender v).sent
inv-about me i r t sender v true = search rules
inv-about me i r t sender v false = search rules

ack-about : (me : Replica) (i : ℕ) (r : Record) (sender : ℕ) (c : Bool) → About i (ack_step c me i r sender).sent
ack-about me i r sender true = search rules
ack-about me i r sender false = search rules

deliver-about : (wins : Orders) (me : Replica) (i : ℕ) (r : Record) (sender : ℕ) (m : Message) (v : List ℕ) → About i (deliver_step wins me i r sender m v).sent
deliver-about wins me i r sender (Inv t) v = inv-about me i r t sender v (later (under wins me.settings) t r.timestamp)
deliver-about wins me i r sender (Ack t) v = ack-about me i r sender (completes me r sender)
deliver-about wins me i r sender (Val t) v = tt

resent-about : (me : Replica) (i : ℕ) (s : State) (t : Timestamp) → About i (resent me i s t)
resent-about me i state.Valid t = refl
resent-about me i state.Invalid t = tt
resent-about me i state.InvalidWrite t = tt
resent-about me i state.Write t = refl
resent-about me i state.Replay t = refl

pub step-about : (wins : Orders) (me : Replica) (i : ℕ) (r : Record) (e : Event) (v : List ℕ) → About i (step wins me i r e v).sent
step-about wins me i r Read v = tt
step-about wins me i r Ask v = tt
step-about wins me i r Write v = refl
step-about wins me i r (Commit t) v = refl
step-about wins me i r Replay v = refl
step-about wins me i r (Deliver m) v = deliver-about wins me i r m.sender m.message v
step-about wins me i r Validate v = refl
step-about wins me i r Resend v = resent-about me i r.state r.timestamp
