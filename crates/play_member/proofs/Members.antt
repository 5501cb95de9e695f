-- What the code makes of an event on a member is what the run makes of it.
use mathlib.Core.Path.{◌≡◌, refl, sym, ap, ◌∙◌}
use mathlib.Core.Bool.{Bool, true, false}
use mathlib.Core.List.{List, [], ◌∷◌}
use Prim.Native.Nat.{ℕ, zero, suc}
use lib.ListN.{length, replicate}
use Rattle.hermes_record.specs.declared.timestamp.Timestamp.{Timestamp}
use Rattle.hermes_record.specs.declared.record.Record.{Record}
use Rattle.hermes_record.specs.declared.record.State.{State}
use Rattle.hermes_record.specs.declared.record.State.TheVariants as state
use Rattle.hermes.specs.declared.message.Message.{Message}
use Rattle.hermes.specs.declared.message.Message.TheVariants.{Inv, Ack, Val}
use Rattle.hermes.specs.Answer.{Answer, no}
use Rattle.std.specs.Prelude.{Err, None, Ok, Some}
use Rattle.hermes.specs.declared.event.Replica.{Replica}
use Rattle.hermes.specs.declared.event.Event.{Event}
use Rattle.hermes.specs.declared.event.Event.TheVariants.{Read, Ask, Write, Commit, Replay, Deliver, Validate, Resend}
use Rattle.hermes.specs.declared.event.Moved.{Moved}
use Rattle.hermes.specs.declared.event.Refused.{Refused}
use Rattle.hermes_record.specs.Order.{ties, later}
use Rattle.hermes.specs.Settings.{under, old_settings}
use Rattle.hermes_record.specs.Record.{fresh_record}
use Rattle.hermes.specs.Guards.{first_no}
use Rattle.hermes.specs.Event.{step, inv_step, ack_step, completes, resent, deliver_step, refusal, moved_by, effect, answer_of, sent_by}
use Rattle.hermes.specs.Node.{
  index_of,
  apply,
  view,
  viewed,
  view_questions,
  admission_of,
  admission_number,
  identity,
  newcomer,
  record_at,
  first_record,
  start_refusal,
  admit,
  begin,
  start,
}
use Rattle.hermes.specs.Run.{event}
use Rattle.play_member.specs.Member.{node_of, start_in, fresh_in, result_of}
use Rattle.play_member.specs.declared.member.Member.{Member}

-- ---- the start

module _ (view k : ℕ) where
  -- the member after a start whose first no is z
  abbrev begun_by : ℕ → Member
  begun_by z = record {
    me = identity (begin z (newcomer k view old_settings) (fresh_record 0 ∷ []) (replicate 192 0)).admission (newcomer k view old_settings);
    held = record_at (begin z (newcomer k view old_settings) (fresh_record 0 ∷ []) (replicate 192 0)).table 0;
    store = (begin z (newcomer k view old_settings) (fresh_record 0 ∷ []) (replicate 192 0)).store;
  }

  pub start-admitted : (me : Replica) (r : Record) → admit k view old_settings 1 192 ≡ Ok me → r ≡ first_record view
      → ◌≡◌ {A = Member} (record { me = newcomer k view old_settings; held = r; store = replicate 192 0 }) (fresh_in view k)
  unfolding start fresh_in
  start-admitted me r e er = go (start_refusal k view old_settings 1 192) e
    where
      go : (z : ℕ) → admission_of z (newcomer k view old_settings) ≡ Ok me → ◌≡◌ {A = Member} (record { me = newcomer k view old_settings; held = r; store = replicate 192 0 }) (begun_by z)
      go zero e = λ i. record { me = newcomer k view old_settings; held = er i; store = replicate 192 0 }
      go (suc z) e = cc

  pub start-refused : (j : Refused) (r : Record) → admit k view old_settings 1 192 ≡ Err j → r ≡ fresh_record 0
      → ◌≡◌ {A = Member} (record { me = newcomer k view old_settings; held = r; store = replicate 192 0 }) (fresh_in view k)
  unfolding start fresh_in
  start-refused j r e er = go (start_refusal k view old_settings 1 192) e
    where
      go : (z : ℕ) → admission_of z (newcomer k view old_settings) ≡ Err j → ◌≡◌ {A = Member} (record { me = newcomer k view old_settings; held = r; store = replicate 192 0 }) (begun_by z)
      go zero e = cc
      go (suc z) e = λ i. record { me = newcomer k view old_settings; held = er i; store = replicate 192 0 }

  -- the one record is the whole table
  pub fresh-table : (node_of (fresh_in view k)).table ≡ (start_in view k).table
  unfolding start fresh_in
  fresh-table = go (start_refusal k view old_settings 1 192)
    where
      go : (z : ℕ) → (begun_by z).held ∷ [] ≡ (begin z (newcomer k view old_settings) (fresh_record 0 ∷ []) (replicate 192 0)).table
      go zero = refl
      go (suc z) = refl

-- ---- what leaves an event on record 0 is about record 0

inv-index : (b : Bool) (me : Replica) (r : Record) (t : Timestamp) (sender : ℕ) (v : List ℕ) → index_of (inv_step b me 0 r t sender v).sent ≡ 0
inv-index true me r t sender v = refl
inv-index false me r t sender v = refl

ack-index : (c : Bool) (me : Replica) (r : Record) (sender : ℕ) → index_of (ack_step c me 0 r sender).sent ≡ 0
ack-index true me r sender = refl
ack-index false me r sender = refl

deliver-index : (me : Replica) (r : Record) (sender : ℕ) (m : Message) (v : List ℕ) → index_of (deliver_step ties me 0 r sender m v).sent ≡ 0
deliver-index me r sender (Inv t) v = inv-index (later (under ties me.settings) t r.timestamp) me r t sender v
deliver-index me r sender (Ack t) v = ack-index (completes me r sender) me r sender
deliver-index me r sender (Val t) v = refl

resent-index : (me : Replica) (s : State) (t : Timestamp) → index_of (resent me 0 s t) ≡ 0
resent-index me state.Valid t = refl
resent-index me state.Invalid t = refl
resent-index me state.InvalidWrite t = refl
resent-index me state.Write t = refl
resent-index me state.Replay t = refl

step-index : (me : Replica) (r : Record) (e : Event) (v : List ℕ) → index_of (step ties me 0 r e v).sent ≡ 0
step-index me r Read v = refl
step-index me r Ask v = refl
step-index me r Write v = refl
step-index me r (Commit t) v = refl
step-index me r Replay v = refl
step-index me r (Deliver m) v = deliver-index me r m.sender m.message v
step-index me r Validate v = refl
step-index me r Resend v = resent-index me r.state r.timestamp

pub effect-index : (me : Replica) (r : Record) (store : List ℕ) (e : Event) (v : List ℕ) → index_of (sent_by (effect ties me 1 0 r store e v).moved.answer) ≡ 0
unfolding effect
effect-index me r store e v = go (refusal me 1 (length store) 0 r e (length v))
  where
    go : (k : ℕ) → index_of (sent_by (moved_by k r (step ties me 0 r e v)).answer) ≡ 0
    go zero = step-index me r e v
    go (suc k) = refl

-- ---- each kind of event

pub apply-is : (m : Member) (e : Event) (v : List ℕ) (x : Moved) (s : List ℕ)
    → x ≡ (effect ties m.me 1 0 m.held m.store e v).moved → s ≡ (effect ties m.me 1 0 m.held m.store e v).store
    → result_of (Some x.answer) (record { me = m.me; held = x.after; store = s }) ≡ event (apply ties (node_of m) 0 e v)
unfolding apply
apply-is m e v x s ex es = λ i. event (record { answer = (ex i).answer; node = record { me = m.me; table = (ex i).after ∷ []; store = es i } })

pub view-admitted : (m : Member) (epoch set : ℕ) (next : Replica) → view m.me epoch set ≡ Ok next
    → result_of (Some (Ok None)) (record { me = next; held = m.held; store = m.store }) ≡ event (viewed (node_of m) epoch set)
unfolding viewed
view-admitted m epoch set next e =
    λ i. event (record { answer = answer_of (admission_number (sym e i)) None; node = record { me = identity (sym e i) m.me; table = m.held ∷ []; store = m.store } })

-- a refused admission has a number above 0
refused-number : (n : ℕ) (me : Replica) (k : Refused) → admission_of n me ≡ Err k → ◌≡◌ {A = Answer} (Err k) (answer_of k.0 None)
refused-number zero me k e = cc
refused-number (suc n) me k e = let q : no (suc n) ≡ k = cc in rw (← q)

pub view-refused : (m : Member) (epoch set : ℕ) (k : Refused) → view m.me epoch set ≡ Err k
    → result_of (Some (Err k)) m ≡ event (viewed (node_of m) epoch set)
unfolding viewed view
view-refused m epoch set k e =
    ap (λ (x : Answer). event (record { answer = x; node = node_of m }))
    (refused-number (first_no (view_questions m.me epoch set)) (record { number = m.me.number; epoch = epoch; view = set; settings = m.me.settings }) k e)
    ∙ (λ i. event (record { answer = answer_of (admission_number (sym e i)) None; node = record { me = identity (sym e i) m.me; table = m.held ∷ []; store = m.store } }))
