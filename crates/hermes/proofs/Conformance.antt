-- Demand 2: every event is the source's action. The idea: its questions are document 01's own and the action's guard, one by one; and its
-- step, read as the source's variables, is the action's effect.
use Prim.Native.Nat.{ℕ, zero, suc, ◌≤◌, ◌<◌}
use mathlib.Core.Path.{◌≡◌, refl, sym, ap, subst₃, ◌∙◌}
use mathlib.Core.Bool.{Bool, true, false, not, ◌&&◌, ◌||◌, false≢true, or-true}
use mathlib.Core.Logic.{inl, inr, ◌≢◌}
use mathlib.Core.List.{List, [], ◌∷◌}
use native.Mathlib.Omega.{arith}
use lib.Dec.{eqb}
use lib.ListN.{length, take, get_or-replicate}
use borrow.Author.Tests.{eqb-false, lt-ltb, eq-eqb, ne_eqb}
use Rattle.hermes_record.specs.declared.timestamp.Timestamp.{Timestamp}
use Rattle.hermes_record.specs.declared.record.Record.{Record}
use Rattle.hermes_record.specs.declared.record.State.{State}
use Rattle.hermes_record.specs.declared.record.State.TheVariants as state
use Rattle.hermes.specs.declared.message.Message.{Message}
use Rattle.hermes.specs.declared.message.Message.TheVariants.{Inv, Ack, Val}
use Rattle.std.specs.Prelude.{None, Ok}
use Rattle.hermes.specs.declared.event.Replica.{Replica}
use Rattle.hermes.specs.declared.event.Settings.{Settings}
use Rattle.hermes.specs.declared.event.Event.{Event}
use Rattle.hermes.specs.declared.event.Event.TheVariants.{Read, Ask, Write, Commit, Replay, Deliver, Validate, Resend}
use Rattle.hermes_record.specs.Members.{has, lowest, others_in}
use Rattle.hermes_record.specs.Order.{Orders, ties, later, same_timestamp}
use Rattle.hermes.specs.Settings.{under}
use Rattle.hermes_record.specs.Record.{one_of, invalidated_state, acknowledged, fresh_record}
use Rattle.hermes.specs.Store.{slot}
use Rattle.hermes.specs.Guards.{Question, AllYes, ask, first_no, question1, question3, question8, question9, question12, question15, question16}
use Rattle.hermes.specs.Event.{Step, write_step, inv_step, ack_step, completes, resent, number_of, answer_of, sent_by}
use Rattle.hermes.specs.Node.{Node, Outcome, record_of, leaving, newcomer, start_questions, start, view, viewed, view_questions, admission_of, admission_number}
use Rattle.hermes.specs.Frame.{bytes_after, Changed}
use Rattle.hermes.specs.Source as source
use Rattle.hermes.specs.Source.{Vars, Sending, In, HInit, HReadGuard, HWriteGuard, HCommitGuard, HReplayWriteWidenedGuard, HRcvInvGuard, HRcvInv, HRcvAckGuard, HRcvAckThenSendVals, HRcvValGuard, HSendValsGuard, NodeFailureGuard, ResendGuard, Resent, send_inv}
use Rattle.hermes.specs.Conformance.{vars_of, five_and, delivered, message, Follows, ViewFollows, StartFollows, Demand2By, Demand2}
use Rattle.std.proofs.lemmas.Bool.{and_parts, and_from, false_from_ne_true}
use Rattle.hermes.proofs.Members.{has-zero, within-members, members-within, every-other, others-every, adds-sender}
use Rattle.hermes_record.proofs.Order.{later-greater, greater-later}
use Rattle.hermes.proofs.Store.{value-slot, take-padded}
use Rattle.hermes.proofs.Guards.{DeliverOwn, ReplayOwn, ResendOwn, read-own, write-own, commit-own, deliver-own, replay-own, resend-own, view-later, view-inside, all_yes, none-says-no}
use Rattle.hermes.proofs.Steps.{next-version, step-about}
use Rattle.hermes.proofs.Apply.{questions_of, own_of, step_of, done, changed, was-accepted, was-refused, answered, first-five, its_own, sound-step}
use Rattle.hermes.proofs.Words.{one_in, in_one, is_state, state-is, equal-ts, ts-same, Two, size-two, two_size}
use Rattle.hermes.proofs.Locality.{leaving_slot, leaving-slot}
use Rattle.hermes.proofs.Frame.{view-frame}
use Rattle.hermes.proofs.Start.{Begun, begun, lowest-lowest}

-- ---- an event of a replica, as the source sees it

-- the source's variables of a record with its 192 bytes
abbrev seen : Record → List ℕ → Vars
seen r b = record { node_ts = r.timestamp; node_state = r.state; node_rcvd_acks = r.acks; node_last_writer = r.writer; node_last_write_ts = r.written; value = take r.len b }

vars-seen : (i : ℕ) (n : Node) → (record_of i n).len ≤ 192 → vars_of i n ≡ seen (record_of i n) (slot i n.store)
vars-seen i n h = λ t. record {
  node_ts = (record_of i n).timestamp;
  node_state = (record_of i n).state;
  node_rcvd_acks = (record_of i n).acks;
  node_last_writer = (record_of i n).writer;
  node_last_write_ts = (record_of i n).written;
  value = value-slot i (record_of i n).len n.store h t;
}

-- what a step that found these 192 bytes makes of them, and what it sends
abbrev step_vars : Step → List ℕ → Vars
step_vars s b = seen s.after (bytes_after s.stored b)

abbrev step_sends : Step → List ℕ → Sending
step_sends s b = record { message = s.sent; body = leaving_slot s.sent s.after (bytes_after s.stored b) }

module _ (wins : Orders) (n : Node) (i : ℕ) (e : Event) (v : List ℕ) where
  abbrev s : Step
  s = step_of wins n i e v

  -- the step as the source sees it is what the event left
  acted : (action : Vars → Vars → Sending → Type 0) → AllYes (questions_of n i e v) → Changed i s n (done n i s)
      → action (seen (record_of i n) (slot i n.store)) (step_vars s (slot i n.store)) (step_sends s (slot i n.store))
      → action (vars_of i n) (vars_of i (done n i s)) (record { message = s.sent; body = leaving s.sent (done n i s).table (done n i s).store })
  acted action y c h = subst₃ action (sym (vars-seen i n short)) (sym after) (sym sent) h
    where
      short : (record_of i n).len ≤ 192
      short = (first-five n i e v y).sound.short

      short' : (record_of i (done n i s)).len ≤ 192
      short' = rw c.here (sound-step wins n i e v y).after.short

      after : vars_of i (done n i s) ≡ step_vars s (slot i n.store)
      after = vars-seen i (done n i s) short' ∙ (λ t. seen (c.here t) (c.bytes t))

      sent : record { message = s.sent; body = leaving s.sent (done n i s).table (done n i s).store } ≡ step_sends s (slot i n.store)
      sent = (λ t. record { message = s.sent; body = leaving-slot i s.sent (step-about wins n.me i (record_of i n) e v) (done n i s) short' t })
          ∙ (λ t. record { message = s.sent; body = leaving_slot s.sent (c.here t) (c.bytes t) })

  follows : (own : List Question) (guard : Vars → Type 0) (action : Vars → Vars → Sending → Type 0)
      → (AllYes (questions_of n i e v) → AllYes own × guard (vars_of i n)) → (AllYes own × guard (vars_of i n) → AllYes (questions_of n i e v))
      → (AllYes (questions_of n i e v) → action (seen (record_of i n) (slot i n.store)) (step_vars s (slot i n.store)) (step_sends s (slot i n.store)))
      → Follows wins n i e v own guard action
  follows own guard action to from act = record {
    accepted = (λ a. to (was-accepted wins n i e v a).0, λ g. (answered wins n i e v (from g)).0);
    does = λ a. let (y, q) = was-accepted wins n i e v a in rw q (acted action y (changed wins n i e v y) (act y));
    refused = λ a. let (k, z, q) = was-refused wins n i e v a in (ap (λ (x : Outcome). x.node) q, ap (λ (x : Outcome). sent_by x.answer) q);
  }

  -- questions 1 to 5, with others, of a passed event; and back
  five : (more : List Question) → AllYes (questions_of n i e v) → AllYes more → AllYes (five_and n i more)
  five more y m = (y.0, (y.1.0, (y.1.1.0, (y.1.1.1.0, (y.1.1.1.1.0, m)))))

  back : (more : List Question) → AllYes (five_and n i more) → AllYes (own_of n i e v) → AllYes (questions_of n i e v)
  back more f m = (f.0, (f.1.0, (f.1.1.0, (f.1.1.1.0, (f.1.1.1.1.0, m)))))

-- ---- the actions

follower : (s : State) → In s (state.Valid ∷ state.Invalid ∷ state.Replay ∷ []) → invalidated_state s ≡ state.Invalid
follower s (inl e) = rw e
follower s (inr (inl e)) = rw e
follower s (inr (inr (inl e))) = rw e
follower s (inr (inr (inr e))) = absurd e

coordinator : (s : State) → In s (state.Write ∷ state.InvalidWrite ∷ []) → invalidated_state s ≡ state.InvalidWrite
coordinator s (inl e) = rw e
coordinator s (inr (inl e)) = rw e
coordinator s (inr (inr e)) = absurd e

-- question 15 is the guard of HSendVals
module _ (me : Replica) (r : Record) (b : List ℕ) where
  may-send : (question15 me r).yes ≡ true → HSendValsGuard me (seen r b)
  may-send h =
      let (p, q) = and_parts (one_of r.state (state.Write ∷ state.Replay ∷ [])) (others_in me.number me.view r.acks) h in
      (one_in r.state (state.Write ∷ state.Replay ∷ []) p, others-every me.number me.view r.acks q)

  sends-may : HSendValsGuard me (seen r b) → (question15 me r).yes ≡ true
  sends-may g = and_from _ _ (in_one r.state (state.Write ∷ state.Replay ∷ []) g.0) (every-other me.number me.view r.acks g.1)

-- question 16 is the guard of HReplayWrite, widened
module _ (me : Replica) (r : Record) (b : List ℕ) where
  may-replay : ReplayOwn me r → HReplayWriteWidenedGuard me (seen r b)
  may-replay o = go (one_in r.state (state.Invalid ∷ state.InvalidWrite ∷ []) o.invalidated)
    where
      dead : has me.view r.writer ≡ true → ⊥
      dead h = false≢true (sym o.gone ∙ h)

      go : In r.state (state.Invalid ∷ state.InvalidWrite ∷ []) → HReplayWriteWidenedGuard me (seen r b)
      go (inl e) = inl (e, dead)
      go (inr (inl e)) = inr (e, dead)
      go (inr (inr e)) = absurd e

  replays-may : HReplayWriteWidenedGuard me (seen r b) → (question16 me r).yes ≡ true
  replays-may (inl (e, dead)) = and_from _ _ (in_one r.state (state.Invalid ∷ state.InvalidWrite ∷ []) (inl e)) (ap not (false_from_ne_true (has me.view r.writer) dead))
  replays-may (inr (e, dead)) = and_from _ _ (in_one r.state (state.Invalid ∷ state.InvalidWrite ∷ []) (inr (inl e))) (ap not (false_from_ne_true (has me.view r.writer) dead))

-- a write's step, below the greatest version
write-does : (me : Replica) (i : ℕ) (r : Record) (b v : List ℕ) → (question9 r).yes ≡ true
    → source.HWrite me i v (seen r b) (step_vars (write_step me i r v) b) (step_sends (write_step me i r v) b)
write-does me i r b v h = record {
  node_rcvd_acks = has-zero;
  node_last_writer = refl;
  node_state = refl;
  node_ts = ap (λ (x : ℕ). record { version = x; tie = me.number }) (next-version r.timestamp.version h);
  node_last_write_ts = ap (λ (x : ℕ). record { version = x; tie = me.number }) (next-version r.timestamp.version h);
  value = take-padded v;
  send = refl;
}

module _ (wins : Orders) (n : Node) (i : ℕ) (v : List ℕ) where
  follows-read : Follows wins n i Read v (five_and n i []) HReadGuard source.HRead
  follows-read = follows wins n i Read v (five_and n i []) HReadGuard source.HRead
      (λ y. (five wins n i Read v [] y tt, is_state (record_of i n).state state.Valid (read-own n.me (record_of i n) (length v) (its_own n i Read v y))))
      (λ g. back wins n i Read v [] g.0 (state-is (record_of i n).state state.Valid g.1, tt))
      (λ y. record { unchanged = refl; send = refl })

  follows-write : Follows wins n i Write v (five_and n i (question8 (length v) ∷ [])) HWriteGuard (source.HWrite n.me i v)
  follows-write = follows wins n i Write v (five_and n i (question8 (length v) ∷ [])) HWriteGuard (source.HWrite n.me i v)
      (λ y. let o = write-own n.me (record_of i n) (length v) (its_own n i Write v y) in
      (five wins n i Write v (question8 (length v) ∷ []) y ((its_own n i Write v y).1.0, tt), (one_in (record_of i n).state (state.Valid ∷ state.Invalid ∷ []) o.idle, o.below)))
      (λ g. back wins n i Write v (question8 (length v) ∷ []) g.0
      (in_one (record_of i n).state (state.Valid ∷ state.Invalid ∷ []) g.1.0, (g.0.1.1.1.1.1.0, (lt-ltb (record_of i n).timestamp.version 4294967295 g.1.1, tt))))
      (λ y. write-does n.me i (record_of i n) (slot i n.store) v (its_own n i Write v y).1.1.0)

  follows-ask : Follows wins n i Ask v (five_and n i []) HReadGuard source.HRead
  follows-ask = follows wins n i Ask v (five_and n i []) HReadGuard source.HRead
      (λ y. (five wins n i Ask v [] y tt, is_state (record_of i n).state state.Valid (its_own n i Ask v y).0))
      (λ g. back wins n i Ask v [] g.0 (state-is (record_of i n).state state.Valid g.1, tt))
      (λ y. record { unchanged = refl; send = refl })

  follows-commit : (t : Timestamp) → Follows wins n i (Commit t) v (five_and n i (question8 (length v) ∷ [])) (HCommitGuard t) (source.HWrite n.me i v)
  follows-commit t = follows wins n i (Commit t) v (five_and n i (question8 (length v) ∷ [])) (HCommitGuard t) (source.HWrite n.me i v)
      (λ y. let o = commit-own n.me (record_of i n) t (length v) (its_own n i (Commit t) v y) in
      (five wins n i (Commit t) v (question8 (length v) ∷ []) y ((its_own n i (Commit t) v y).1.0, tt), (is_state (record_of i n).state state.Valid o.valid, equal-ts o.current, o.below)))
      (λ g. back wins n i (Commit t) v (question8 (length v) ∷ []) g.0
      (and_from _ _ (state-is (record_of i n).state state.Valid g.1.0) (ts-same t (record_of i n).timestamp g.1.1), (g.0.1.1.1.1.1.0, (lt-ltb (record_of i n).timestamp.version 4294967295 g.1.2, tt))))
      (λ y. write-does n.me i (record_of i n) (slot i n.store) v (its_own n i (Commit t) v y).1.1.0)

  follows-replay : Follows wins n i Replay v (five_and n i []) (HReplayWriteWidenedGuard n.me) (source.HReplayWrite n.me i)
  follows-replay = follows wins n i Replay v (five_and n i []) (HReplayWriteWidenedGuard n.me) (source.HReplayWrite n.me i)
      (λ y. (five wins n i Replay v [] y tt, may-replay n.me (record_of i n) [] (replay-own n.me (record_of i n) (length v) (its_own n i Replay v y))))
      (λ g. back wins n i Replay v [] g.0 (replays-may n.me (record_of i n) [] g.1, tt))
      (λ y. record { node_last_writer = refl; node_state = refl; node_rcvd_acks = has-zero; node_last_write_ts = refl; node_ts = refl; value = refl; send = refl })

  follows-validate : Follows wins n i Validate v (five_and n i []) (HSendValsGuard n.me) (source.HSendVals n.me i)
  follows-validate = follows wins n i Validate v (five_and n i []) (HSendValsGuard n.me) (source.HSendVals n.me i)
      (λ y. (five wins n i Validate v [] y tt, may-send n.me (record_of i n) [] (its_own n i Validate v y).0))
      (λ g. back wins n i Validate v [] g.0 (sends-may n.me (record_of i n) [] g.1, tt))
      (λ y. record { valid = record { node_state = refl; node_ts = refl; node_last_writer = refl; node_last_write_ts = refl; node_rcvd_acks = refl; value = refl }; send = refl })

  follows-resend : Follows wins n i Resend v (five_and n i []) (ResendGuard n.me) (Resent n.me i)
  follows-resend = follows wins n i Resend v (five_and n i []) (ResendGuard n.me) (Resent n.me i)
      (λ y. (five wins n i Resend v [] y tt, to (resend-own n.me (record_of i n) (length v) (its_own n i Resend v y))))
      (λ g. back wins n i Resend v [] g.0 (from g.1, tt))
      (λ y. record { unchanged = refl; writing = writing; settled = λ e. ap sends e })
    where
      writes : Bool
      writes = one_of (record_of i n).state (state.Write ∷ state.Replay ∷ [])

      to : ResendOwn n.me (record_of i n) → ResendGuard n.me (vars_of i n)
      to (inl h) = inl (one_in (record_of i n).state (state.Write ∷ state.Replay ∷ []) h)
      to (inr (p, q)) = inr (is_state (record_of i n).state state.Valid p, q)

      from : ResendGuard n.me (vars_of i n) → (writes || (one_of (record_of i n).state (state.Valid ∷ []) && eqb (record_of i n).writer n.me.number)) ≡ true
      from (inl h) = rw (in_one (record_of i n).state (state.Write ∷ state.Replay ∷ []) h)
      from (inr (p, q)) = rw (state-is (record_of i n).state state.Valid p, eq-eqb (record_of i n).writer n.me.number q) (or-true writes)

      sends : State → Sending
      sends s = record { message = resent n.me i s (record_of i n).timestamp; body = leaving_slot (resent n.me i s (record_of i n).timestamp) (record_of i n) (slot i n.store) }

      writing : In (record_of i n).state (state.Write ∷ state.Replay ∷ []) → sends (record_of i n).state ≡ send_inv n.me i (seen (record_of i n) (slot i n.store))
      writing (inl e) = ap sends e
      writing (inr (inl e)) = ap sends e
      writing (inr (inr e)) = absurd e

-- ---- deliveries

inv-does : (wins : ℕ → ℕ → Bool) (me : Replica) (i : ℕ) (r : Record) (b : List ℕ) (t : Timestamp) (sender : ℕ) (v : List ℕ) (g : Bool) → later wins t r.timestamp ≡ g
    → HRcvInv wins me i sender t v (seen r b) (step_vars (inv_step g me i r t sender v) b) (step_sends (inv_step g me i r t sender v) b)
inv-does wins me i r b t sender v true g = record {
  send = refl;
  greater = λ h. record { node_ts = refl; node_last_writer = refl; follower = follower r.state; coordinator = coordinator r.state; value = take-padded v; node_last_write_ts = refl; node_rcvd_acks = refl };
  otherwise = λ h. absurd (h (later-greater wins t r.timestamp g));
}
inv-does wins me i r b t sender v false g = record {
  send = refl;
  greater = λ h. absurd (false≢true (sym g ∙ greater-later wins t r.timestamp h));
  otherwise = λ h. refl;
}

-- 02, Wish 1: between the two actions the sender is counted, and no more
ack-does : (me : Replica) (i : ℕ) (r : Record) (b : List ℕ) (sender : ℕ) → has me.view sender ≡ true → (c : Bool) → completes me r sender ≡ c
    → HRcvAckThenSendVals me i sender (seen r b) (step_vars (ack_step c me i r sender) b) (step_sends (ack_step c me i r sender) b)
ack-does me i r b sender h c e = record { between = between; acknowledged = counted; complete = complete c e; incomplete = incomplete c e }
  where
    between : Vars
    between = seen (acknowledged r sender) b

    counted : source.HRcvAck sender (seen r b) between source.silent
    counted = record { node_rcvd_acks = adds-sender me.view r.acks sender h; node_last_writer = refl; node_last_write_ts = refl; node_ts = refl; node_state = refl; value = refl; send = refl }

    complete : (c : Bool) → completes me r sender ≡ c → HSendValsGuard me between → source.HSendVals me i between (step_vars (ack_step c me i r sender) b) (step_sends (ack_step c me i r sender) b)
    complete true e g = record { valid = record { node_state = refl; node_ts = refl; node_last_writer = refl; node_last_write_ts = refl; node_rcvd_acks = refl; value = refl }; send = refl }
    complete false e g = absurd (false≢true (sym e ∙ sends-may me (acknowledged r sender) b g))

    incomplete : (c : Bool) → completes me r sender ≡ c → (HSendValsGuard me between → ⊥) → (step_vars (ack_step c me i r sender) b ≡ between) × (step_sends (ack_step c me i r sender) b ≡ source.silent)
    incomplete true e f = absurd (f (may-send me (acknowledged r sender) b e))
    incomplete false e f = (refl, refl)

module _ (wins : Orders) (n : Node) (i sender epoch : ℕ) (t : Timestamp) (v : List ℕ) where
  -- question 11 from its two parts
  both-eleven : has n.me.view sender ≡ true → sender ≢ n.me.number → (has n.me.view sender && not (eqb sender n.me.number)) ≡ true
  both-eleven p d = rw (p, ne_eqb sender n.me.number d)

  yes : (m : Message) → AllYes (questions_of n i (Deliver (message sender epoch m)) v) → DeliverOwn n.me (record_of i n) (message sender epoch m) (length v)
  yes m y = deliver-own n.me (record_of i n) (message sender epoch m) (length v) (its_own n i (Deliver (message sender epoch m)) v y)

  apart : (m : Message) → AllYes (questions_of n i (Deliver (message sender epoch m)) v) → sender ≢ n.me.number
  apart m y = eqb-false sender n.me.number (yes m y).other

  follows-inv : Follows wins n i (Deliver (message sender epoch (Inv t))) v (delivered n i (message sender epoch (Inv t)) v) (λ s. HRcvInvGuard n.me sender epoch) (HRcvInv (under wins n.me.settings) n.me i sender t v)
  follows-inv = follows wins n i (Deliver (message sender epoch (Inv t))) v (delivered n i (message sender epoch (Inv t)) v) (λ s. HRcvInvGuard n.me sender epoch) (HRcvInv (under wins n.me.settings) n.me i sender t v)
      (λ y. (five wins n i (Deliver (message sender epoch (Inv t))) v (question12 (message sender epoch (Inv t)) (length v) ∷ []) y ((yes (Inv t) y).shape, tt), ((yes (Inv t) y).epoch, apart (Inv t) y, (yes (Inv t) y).known)))
      (λ g. back wins n i (Deliver (message sender epoch (Inv t))) v (question12 (message sender epoch (Inv t)) (length v) ∷ []) g.0 (eq-eqb epoch n.me.epoch g.1.0, (both-eleven g.1.2 g.1.1, (g.0.1.1.1.1.1.0, tt))))
      (λ y. inv-does (under wins n.me.settings) n.me i (record_of i n) (slot i n.store) t sender v (later (under wins n.me.settings) t (record_of i n).timestamp) refl)

  follows-ack : Follows wins n i (Deliver (message sender epoch (Ack t))) v (delivered n i (message sender epoch (Ack t)) v) (HRcvAckGuard n.me sender epoch t) (HRcvAckThenSendVals n.me i sender)
  follows-ack = follows wins n i (Deliver (message sender epoch (Ack t))) v (delivered n i (message sender epoch (Ack t)) v) (HRcvAckGuard n.me sender epoch t) (HRcvAckThenSendVals n.me i sender)
      (λ y. let o = yes (Ack t) y in
      let (p, e, c) = o.kind in (
        five wins n i (Deliver (message sender epoch (Ack t))) v (ask 11 (has n.me.view sender) ∷ question12 (message sender epoch (Ack t)) (length v) ∷ []) y (o.known, (o.shape, tt)),
        (o.epoch, apart (Ack t) y, c, equal-ts e, one_in (record_of i n).state (state.Write ∷ state.InvalidWrite ∷ state.Replay ∷ []) p),
      ))
      (λ g. back wins n i (Deliver (message sender epoch (Ack t))) v (ask 11 (has n.me.view sender) ∷ question12 (message sender epoch (Ack t)) (length v) ∷ []) g.0 (
        eq-eqb epoch n.me.epoch g.1.0,
        (
          both-eleven g.0.1.1.1.1.1.0 g.1.1,
          (
            g.0.1.1.1.1.1.1.0,
            (and_from (waits && same) fresh (and_from waits same (in_one (record_of i n).state (state.Write ∷ state.InvalidWrite ∷ state.Replay ∷ []) g.1.4) (ts-same t (record_of i n).written g.1.3)) (ap not g.1.2), tt),
          ),
        ),
      ))
      (λ y. ack-does n.me i (record_of i n) (slot i n.store) sender (yes (Ack t) y).known (completes n.me (record_of i n) sender) refl)
    where
      waits : Bool
      waits = one_of (record_of i n).state (state.Write ∷ state.InvalidWrite ∷ state.Replay ∷ [])

      same : Bool
      same = same_timestamp t (record_of i n).written

      fresh : Bool
      fresh = not (has (record_of i n).acks sender)

  val_own : List Question
  val_own = ask 11 (has n.me.view sender && not (eqb sender n.me.number)) ∷ question12 (message sender epoch (Val t)) (length v) ∷ []

  follows-val : Follows wins n i (Deliver (message sender epoch (Val t))) v (five_and n i val_own) (HRcvValGuard n.me epoch t) source.HRcvVal
  unfolding val_own
  follows-val = follows wins n i (Deliver (message sender epoch (Val t))) v (five_and n i val_own) (HRcvValGuard n.me epoch t) source.HRcvVal
      (λ y. let o = its_own n i (Deliver (message sender epoch (Val t))) v y in
      let (p, e) = (yes (Val t) y).kind in (
        five wins n i (Deliver (message sender epoch (Val t))) v val_own y (o.1.0, (o.1.1.0, tt)),
        ((yes (Val t) y).epoch, λ h. false≢true (sym p ∙ state-is (record_of i n).state state.Valid h), equal-ts e),
      ))
      (λ g. back wins n i (Deliver (message sender epoch (Val t))) v val_own g.0 (
        eq-eqb epoch n.me.epoch g.1.0,
        (
          g.0.1.1.1.1.1.0,
          (
            g.0.1.1.1.1.1.1.0,
            (and_from (not valid) same (ap not (false_from_ne_true valid (λ h. g.1.1 (is_state (record_of i n).state state.Valid h)))) (ts-same t (record_of i n).timestamp g.1.2), tt),
          ),
        ),
      ))
      (λ y. record { valid = record { node_state = refl; node_ts = refl; node_last_writer = refl; node_last_write_ts = refl; node_rcvd_acks = refl; value = refl }; send = refl })
    where
      valid : Bool
      valid = one_of (record_of i n).state (state.Valid ∷ [])

      same : Bool
      same = same_timestamp t (record_of i n).timestamp

-- ---- fresh start and view

start-follows : (k view : ℕ) (settings : Settings) (table : List Record) (store : List ℕ) → StartFollows k view settings table store
start-follows k view settings table store = record { accepted = (to, from); does = λ a i h. inits (begun k view settings table store (newcomer k view settings) a) i h }
  where
    questions : List Question
    questions = start_questions (newcomer k view settings) (length table) (length store)

    to : (start k view settings table store).admission ≡ Ok (newcomer k view settings) → AllYes questions
    to a = (begun k view settings table store (newcomer k view settings) a).asked

    from : AllYes questions → (start k view settings table store).admission ≡ Ok (newcomer k view settings)
    from y = unfold start in rw (none-says-no questions y)

    inits : Begun k view settings table store (newcomer k view settings) → (i : ℕ) → i < length table
        → HInit view (vars_of i (record { me = newcomer k view settings; table = (start k view settings table store).table; store = (start k view settings table store).store }))
    inits b i h = rw (b.table_after, get_or-replicate (length table) i (fresh_record (lowest view)) (fresh_record 0) h) (record {
      node_rcvd_acks = has-zero;
      node_state = refl;
      node_last_writer = low;
      version = refl;
      tie_breaker = low;
      last_version = refl;
      last_tie_breaker = low;
      value = refl;
    })
      where
        low : source.Lowest view (lowest view)
        low = lowest-lowest view k b.asked.1.1.0

view-follows : (n : Node) (epoch alive : ℕ) → ViewFollows n epoch alive
unfolding viewed view
view-follows n epoch alive = record {
  accepted = (to (first_no questions) refl, from);
  does = λ a. let q = (view-frame n epoch alive).accepted a in
      record { alive_nodes = ap (λ (x : Node). x.me.view) q; epoch_id = ap (λ (x : Node). x.me.epoch) q; node = ap (λ (x : Node). x.me.number) q; send = quiet (first_no questions) };
  unchanged = (refl, refl);
  refused = λ a. ((view-frame n epoch alive).refused a, quiet (first_no questions));
}
  where
    quiet : (k : ℕ) → sent_by (answer_of (admission_number (admission_of k (record { number = n.me.number; epoch = epoch; view = alive; settings = n.me.settings }))) None) ≡ None
    quiet zero = refl
    quiet (suc k) = refl

    questions : List Question
    questions = view_questions n.me epoch alive

    next : Replica
    next = record { number = n.me.number; epoch = epoch; view = alive; settings = n.me.settings }

    guard : AllYes questions → NodeFailureGuard n.me epoch alive
    guard y =
        let (p, q) = view-inside n.me epoch alive y in
        let w : Two 16 (has alive) = size-two alive q in
        record { later = view-later n.me epoch alive y; fewer = within-members alive n.me.view p; one = w.one; two = w.two; apart = w.apart; one_stays = w.one_passes; two_stays = w.two_passes }

    to : (k : ℕ) → first_no questions ≡ k → number_of (answer_of (admission_number (admission_of k next)) None) ≡ 0
        → AllYes (question1 n.me ∷ question3 n.me ∷ []) × NodeFailureGuard n.me epoch alive
    to zero z a = let y : AllYes questions = all_yes questions refl z in ((y.0, (y.1.0, tt)), guard y)
    to (suc k) z a = absurd (omega arith)

    from : AllYes (question1 n.me ∷ question3 n.me ∷ []) × NodeFailureGuard n.me epoch alive
        → number_of (answer_of (admission_number (admission_of (first_no questions) next)) None) ≡ 0
    from (y, g) = rw (none-says-no questions (y.0, (y.1.0, (lt-ltb n.me.epoch epoch g.later, (and_from _ _ (members-within alive n.me.view g.fewer) (two_size alive g.one g.two g.apart g.one_stays g.two_stays), tt)))))

-- ---- the theorems

pub conformance-by : (wins : Orders) → Demand2By wins
unfolding val_own
conformance-by wins = record {
  start = start-follows;
  read = follows-read wins;
  ask = follows-ask wins;
  write = follows-write wins;
  commit = λ n i t v. follows-commit wins n i v t;
  replay = follows-replay wins;
  inv = follows-inv wins;
  ack = follows-ack wins;
  val = follows-val wins;
  validate = follows-validate wins;
  resend = follows-resend wins;
  view = view-follows;
}

-- demand 2
pub conformance : Demand2
conformance = conformance-by ties
