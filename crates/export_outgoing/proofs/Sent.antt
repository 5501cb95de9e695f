-- What the exported functions say of a kind is what hermes says of the message that left: who gets it, and the bytes that it takes along.
use Prim.Native.Nat.{ℕ, zero, suc, ◌+◌, ◌*◌, ◌/◌, ◌<◌, ◌≤◌}
use mathlib.Core.Path.{◌≡◌, refl, sym, ap, ◌∙◌}
use mathlib.Core.Bool.{Bool, true, false, cond, not, ◌&&◌, ◌||◌}
use mathlib.Core.List.{List}
use mathlib.Core.Logic.{inl, inr}
use native.Mathlib.Omega.{arith}
use lib.Dec.{eqb, ltb, leb}
use lib.ListN.{length}
use borrow.Author.Tests.{ltb-true, leb-true, le-leb, lt-ltb, le-ltb}
use Rattle.hermes_record.specs.declared.timestamp.Timestamp.{Timestamp}
use Rattle.hermes_record.specs.declared.record.Record.{Record}
use Rattle.hermes_record.specs.declared.record.State.{State}
use Rattle.hermes_record.specs.declared.record.State.TheVariants as state
use Rattle.hermes.specs.declared.message.Message.{Message}
use Rattle.hermes.specs.declared.message.Message.TheVariants.{Inv, Ack, Val}
use Rattle.hermes.specs.Answer.{Answer, Outgoing}
use Rattle.std.specs.Prelude.{None, Ok, Some}
use Rattle.hermes.specs.declared.message.Received.{Received}
use Rattle.hermes.specs.declared.event.Replica.{Replica}
use Rattle.hermes.specs.declared.event.Event.{Event}
use Rattle.hermes.specs.declared.event.Event.TheVariants.{Read, Ask, Write, Commit, Replay, Deliver, Validate, Resend}
use Rattle.hermes_record.specs.Members.{with, without}
use Rattle.hermes_record.specs.Order.{ties, later}
use Rattle.hermes.specs.Settings.{under}
use Rattle.hermes.specs.Kind as kind
use Rattle.hermes.specs.Store.{value_at}
use Rattle.hermes.specs.Event.{leaving_body, recipients, sent_by, send, Step, step, moved_by, deliver_step, inv_step, ack_step, completes, resent, refusal, effect}
use Rattle.hermes.specs.Node.{Node, record_at, record_of, leaving, apply}
use Rattle.export_records.specs.Layout.{table_of, found_at}
use Rattle.export_records.proofs.Lent.{length-table}
use Rattle.export_records.proofs.Finding.{found_here, found_below, found-missing}
use Rattle.export_numbers.specs.declared.numbers.CetskobiAnswer.{CetskobiAnswer}
use Rattle.export_numbers.specs.Crossing.{answer_out}
use Rattle.hermes_record.specs.Order.{same_timestamp}
use Rattle.hermes.specs.Node.{Outcome}
use Rattle.std.proofs.lemmas.Bool.{and_parts}
use Rattle.hermes_record.proofs.Order.{equal-same}
use Rattle.hermes.proofs.Recipients.{who-gets}
use Rattle.hermes.proofs.Guards.{slot-fits}
use Rattle.hermes.proofs.Apply.{Applied, refused, accepted, applied, first-five, sound-step, step_of, done}
use Rattle.export_outgoing.specs.Leaving.{left_of, from_sender, recipients_of, Delivered, along, stamp_of, has_text, holds, along_of, AlongAt}
use Rattle.export_outgoing.specs.Sent.{AskedWhoGets, AskedBody}
use Rattle.export_calls.specs.Part.{PartAt}
use Rattle.export_calls.proofs.Parts.{whole_part, no_part}

-- ---- the kinds that the code tells apart

abbrev stamp : Timestamp
stamp = record { version = 0; tie = 0 }

-- an INV and a VAL go to all others
pub to-others : (me : Replica) (sender : ℕ) (inv : Bool)
    → without me.view me.number
    ≡ recipients me (Deliver (from_sender sender)) (Some (cond inv (Inv stamp) (cond false (Ack stamp) (Val stamp)), record { sender = 0; epoch = 0; index = 0 }))
to-others me sender true = refl
to-others me sender false = refl

-- what is no INV takes nothing along
pub nothing-along : (bytes store : List ℕ) (i : ℕ) (left : CetskobiAnswer) → eqb left.kind kind.inv ≡ false → AlongAt store i (along_of bytes store i left) 0
nothing-along bytes store i left h = rw h (go (kind.known left.kind) (eqb left.kind kind.ack))
  where
    go : (known ack : Bool)
        → PartAt store i (leaving_body (cond known (Some (cond false (Inv stamp) (cond ack (Ack stamp) (Val stamp)), record { sender = 0; epoch = 0; index = i })) None) (record_at (table_of bytes) i) store) 0
    go false ack = no_part store i
    go true true = no_part store i
    go true false = no_part store i

-- ---- an INV: the record that is found at its number, r, and whether that holds its text

module _ (bytes store : List ℕ) (i : ℕ) (left : CetskobiAnswer) (inv : left.kind ≡ kind.inv) where
  text-gone : holds (table_of bytes) store i (stamp_of left) ≡ false → AlongAt store i (along_of bytes store i left) 18446744073709551615
  text-gone h = rw (inv, h)

  pub nothing_there : found_at bytes i ≡ None → AlongAt store i (along_of bytes store i left) 18446744073709551615
  nothing_there n =
      elim (found-missing bytes i n) [
        | inl h ↦ text-gone (rw (length-table bytes, le-ltb _ _ h))
        | inr e ↦ text-gone (rw e (short _ _ (ltb i (length store / 192))))
      ]
    where
      short : (a b c : Bool) → (a && (b && (leb 255 192 && c))) ≡ false
      short true true c = refl
      short true false c = refl
      short false b c = refl

  module _ (r : Record) (f : found_at bytes i ≡ Some r) where
    here : r ≡ record_at (table_of bytes) i
    here = found_here bytes i r f

    -- the test of the code
    test : holds (table_of bytes) store i (stamp_of left) ≡ has_text r (stamp_of left) (length store) i
    test = rw (length-table bytes, lt-ltb _ _ (found_below bytes i r f), here)

    pub text_here : has_text r (stamp_of left) (length store) i ≡ true → AlongAt store i (along_of bytes store i left) r.len
    text_here h =
        let (a, b) = and_parts (same_timestamp (stamp_of left) r.timestamp) (leb r.len 192 && ltb i (length store / 192)) h in
        let (c, d) = and_parts (leb r.len 192) (ltb i (length store / 192)) b in
        let p : PartAt store i (value_at i r.len store) r.len = whole_part store i r.len (omega (arith, leb-true r.len 192 c, ltb-true i (length store / 192) d)) in
        rw (inv, test ∙ h, ← here) p

    pub text_not_here : has_text r (stamp_of left) (length store) i ≡ false → AlongAt store i (along_of bytes store i left) 18446744073709551615
    text_not_here h = text-gone (test ∙ h)

-- what `cetskobi_body` answers to an INV
pub ruleset body_answers = (nothing_there, text_here, text_not_here)

-- ---- what left an event

-- the kind in an answer tells who gets what left, and what it takes along out of any memory
abbrev Tells : Replica → Event → ℕ → ℕ → Answer → Type 0
Tells me e sender i a =
    (recipients_of me (answer_out a).kind sender ≡ recipients me e (sent_by a))
    × ((table : List Record) (store : List ℕ) → leaving_body (left_of (answer_out a).kind i) (record_at table i) store ≡ leaving (sent_by a) table store)

module _ (me : Replica) (i sender : ℕ) where
  nothing : (e : Event) → Tells me e sender i (Ok None)
  nothing e = (refl, λ table store. refl)

  inv : (e : Event) (t : Timestamp) → Tells me e sender i (Ok (send me i (Inv t)))
  inv e t = (refl, λ table store. refl)

  val : (e : Event) (t : Timestamp) → Tells me e sender i (Ok (send me i (Val t)))
  val e t = (refl, λ table store. refl)

  again : (s : State) (t : Timestamp) → Tells me Resend sender i (Ok (resent me i s t))
  again state.Valid t = val Resend t
  again state.Invalid t = nothing Resend
  again state.InvalidWrite t = nothing Resend
  again state.Write t = inv Resend t
  again state.Replay t = inv Resend t

  module _ (r : Record) (m : Received) (v : List ℕ) (from : sender ≡ m.sender) where
    ack : (b : Bool) (t : Timestamp) → Tells me (Deliver m) sender i (Ok (inv_step b me i r t m.sender v).sent)
    ack true t = (ap (with 0) from, λ table store. refl)
    ack false t = (ap (with 0) from, λ table store. refl)

    settling : (c : Bool) → Tells me (Deliver m) sender i (Ok (ack_step c me i r m.sender).sent)
    settling true = val (Deliver m) r.timestamp
    settling false = nothing (Deliver m)

    delivered : (x : Message) → Tells me (Deliver m) sender i (Ok (deliver_step ties me i r m.sender x v).sent)
    delivered (Inv t) = ack (later (under ties me.settings) t r.timestamp) t
    delivered (Ack t) = settling (completes me r m.sender)
    delivered (Val t) = nothing (Deliver m)

  steps : (r : Record) (e : Event) (v : List ℕ) → Delivered e sender → Tells me e sender i (Ok (step ties me i r e v).sent)
  steps r Read v d = nothing Read
  steps r Ask v d = nothing Ask
  steps r Write v d = inv Write (step ties me i r Write v).after.timestamp
  steps r (Commit t) v d = inv (Commit t) (step ties me i r (Commit t) v).after.timestamp
  steps r Replay v d = inv Replay r.timestamp
  steps r (Deliver m) v d = delivered r m v d m.message
  steps r Validate v d = val Validate r.timestamp
  steps r Resend v d = again r.state r.timestamp

  answers : (k : ℕ) (r : Record) (e : Event) (s : Step) → Tells me e sender i (Ok s.sent) → Tells me e sender i (moved_by k r s).answer
  answers zero r e s h = h
  answers (suc k) r e s h = (refl, λ table store. refl)

-- ---- the text of what left is held by the record that its event left

-- an INV has its record's timestamp
abbrev Stamped : Outgoing → Record → Type 0
Stamped None r = Unit
Stamped (Some (Inv t, h)) r = t ≡ r.timestamp
Stamped (Some (Ack t, h)) r = Unit
Stamped (Some (Val t, h)) r = Unit

module _ (me : Replica) (i : ℕ) (r : Record) (v : List ℕ) where
  again-stamped : (s : State) → Stamped (resent me i s r.timestamp) r
  again-stamped state.Valid = tt
  again-stamped state.Invalid = tt
  again-stamped state.InvalidWrite = tt
  again-stamped state.Write = refl
  again-stamped state.Replay = refl

  delivered-stamped : (sender : ℕ) (x : Message) → Stamped (deliver_step ties me i r sender x v).sent (deliver_step ties me i r sender x v).after
  delivered-stamped sender (Inv t) = go (later (under ties me.settings) t r.timestamp)
    where
      go : (b : Bool) → Stamped (inv_step b me i r t sender v).sent (inv_step b me i r t sender v).after
      go true = tt
      go false = tt
  delivered-stamped sender (Ack t) = go (completes me r sender)
    where
      go : (c : Bool) → Stamped (ack_step c me i r sender).sent (ack_step c me i r sender).after
      go true = tt
      go false = tt
  delivered-stamped sender (Val t) = tt

  stamped : (e : Event) → Stamped (step ties me i r e v).sent (step ties me i r e v).after
  stamped Read = tt
  stamped Ask = tt
  stamped Write = refl
  stamped (Commit t) = refl
  stamped Replay = refl
  stamped (Deliver m) = delivered-stamped m.sender m.message
  stamped Validate = tt
  stamped Resend = again-stamped r.state

-- what left is no INV, or the memory holds its text
abbrev Held : Answer → ℕ → List Record → List ℕ → Type 0
Held a i table store = (not (eqb (answer_out a).kind kind.inv) || holds table store i (stamp_of (answer_out a))) ≡ true

held : (o : Outgoing) (i : ℕ) (table : List Record) (store : List ℕ) (r : Record) → Stamped o r → record_at table i ≡ r → i < length table → r.len ≤ 192 → 192 * i + 192 ≤ length store
    → Held (Ok o) i table store
held None i table store r s e a b c = refl
held (Some (Inv t, h)) i table store r s e a b c =
    let room : i < length store / 192 = omega arith in
    let short : (record_at table i).len ≤ 192 = rw e b in
    let same : t ≡ (record_at table i).timestamp = s ∙ ap (λ (x : Record). x.timestamp) (sym e) in
    rw (lt-ltb _ _ a, equal-same t (record_at table i).timestamp same, le-leb _ _ short, lt-ltb _ _ room)
held (Some (Ack t, h)) i table store r s e a b c = refl
held (Some (Val t, h)) i table store r s e a b c = refl

holding : (n : Node) (i : ℕ) (e : Event) (v : List ℕ) (o : Outcome) → Applied ties n i e v o → Held o.answer i o.node.table o.node.store
holding n i e v o (refused k z p) = rw p
holding n i e v o (accepted y c p) =
    let f = first-five n i e v y in
    rw p (held (step_of ties n i e v).sent i (done n i (step_of ties n i e v)).table (done n i (step_of ties n i e v)).store (step_of ties n i e v).after (stamped n.me i (record_of i n) v e) c.here (rw c.count f.inside) (sound-step ties n i e v y).after.short (rw c.room (slot-fits f)))

told : (n : Node) (i : ℕ) (e : Event) (v : List ℕ) (sender : ℕ) → Delivered e sender → Tells n.me e sender i (apply ties n i e v).answer
unfolding apply effect
told n i e v sender d =
    answers n.me i sender (refusal n.me (length n.table) (length n.store) i (record_of i n) e (length v)) (record_of i n) e (step ties n.me i (record_of i n) e v) (steps n.me i sender (record_of i n) e v d)

-- the sender of the message that an event delivered
someone : Event → ℕ
someone Read = 0
someone Ask = 0
someone Write = 0
someone (Commit t) = 0
someone Replay = 0
someone (Deliver m) = m.sender
someone Validate = 0
someone Resend = 0

from-someone : (e : Event) → Delivered e (someone e)
unfolding someone
from-someone Read = tt
from-someone Ask = tt
from-someone Write = tt
from-someone (Commit t) = tt
from-someone Replay = tt
from-someone (Deliver m) = refl
from-someone Validate = tt
from-someone Resend = tt

pub asked-who-gets : AskedWhoGets
asked-who-gets n i e v before a bytes' store' sender d' d =
    let same : recipients_of n.me a.kind sender ≡ recipients n.me e (sent_by (apply ties n i e v).answer) = rw d'.answer (told n i e v sender d).0 in
    rw same (who-gets ties n i e v)

pub asked-body : AskedBody
asked-body n i e v before a bytes' store' d' =
    rw (d'.answer, d'.table, d'.store, holding n i e v (apply ties n i e v) (applied ties n i e v))
    (ap along ((told n i e v (someone e) (from-someone e)).1 (apply ties n i e v).node.table (apply ties n i e v).node.store))
