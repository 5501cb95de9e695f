-- An entry that helps mends one of what is missing at most. The idea: only the saver can act. Nobody else has anything under way, or is the last writer of
-- what it shows, and the saver is in the view.
use Prim.Native.Nat.{ℕ, ◌+◌, ◌≤◌, ◌<◌}
use mathlib.Core.Path.{◌≡◌, refl, sym, ap, subst, ◌∙◌}
use mathlib.Core.Bool.{Bool, true, false, cond, false≢true, or-false}
use mathlib.Core.Logic.{◌⊎◌, inl, inr, ◌≢◌}
use mathlib.Core.List.{[], ◌∷◌}
use native.Mathlib.Omega.{arith}
use native.Mathlib.Decide.{ℕ_discrete}
use lib.ListN.{length}
use borrow.Author.Tests.{eqb-false, ne_eqb}
use Rattle.hermes_record.specs.declared.timestamp.Timestamp.{Timestamp}
use Rattle.hermes_record.specs.declared.record.Record.{Record}
use Rattle.hermes_record.specs.declared.record.State.TheVariants as state
use Rattle.hermes.specs.declared.message.Message.{Message}
use Rattle.hermes.specs.declared.message.Message.TheVariants.{Inv, Ack, Val}
use Rattle.std.specs.Prelude.{Some}
use Rattle.hermes.specs.declared.event.Event.TheVariants.{Replay, Deliver, Validate, Resend}
use Rattle.hermes_record.specs.Members.{has, count_below, others_in, with}
use Rattle.hermes_record.specs.Order.{TieOrder, later, same_timestamp}
use Rattle.hermes_record.specs.Record.{one_of}
use Rattle.hermes.specs.Guards.{AllYes}
use Rattle.hermes.specs.Event.{Step, own, inv_step, ack_step, val_step, completes, deliver_step}
use Rattle.hermes.specs.Node.{record_of, apply}
use Rattle.hermes.specs.Run as run
use Rattle.hermes.specs.Run.{Action, Entry, by, Group, Logged, Found, find, found, event, delivery, perform, result, advance, run, received}
use Rattle.hermes.specs.Agreement.{IsAccepted}
use Rattle.hermes.specs.Settling.{About, Helps}
use Rattle.hermes.specs.Recipe.{under_way, is_valid, other}
use Rattle.std.proofs.lemmas.Bool.{and_parts, false_from_ne_true}
use Rattle.hermes_record.proofs.Order.{equal-same, same-equal, later-apart}
use Rattle.hermes.proofs.Members.{Has, has-with, with-members}
use Rattle.hermes.proofs.Words.{count_same, count-near}
use Rattle.hermes.proofs.Guards.{KindOwn, DeliverOwn, deliver-own, ValidateOwn, validate-own, ReplayOwn, replay-own, ResendOwn, resend-own}
use Rattle.hermes.proofs.Progress.{Task, order, self, step_by, Did, did}
use Rattle.hermes.proofs.Drive.{other-yes, yes-other}
use Rattle.hermes.proofs.Missing.{asked, Falls, keeps, sent-once, total, Saving, waits, done, Hears, unheard, heard, Fine, Leaves, Stage, unaware, unshown, uncounted, missing, Nearer}

module _ (T : Task) (inside : T.i < T.count) (ord : TieOrder (order T)) (d : ℕ) (hd : Has T.set d) (M t0 : Timestamp) (newer : later (order T) M t0 ≡ true) where
  open T use {wins, set, i, old}

  pub apart : t0 ≢ M
  apart = later-apart (order T) ord M t0 newer

  pub different : same_timestamp t0 M ≡ false
  different = false_from_ne_true _ (λ h. apart (same-equal t0 M h))

  -- who is not the one added
  has-others : (s n m : ℕ) → m ≢ n → has (with s n) m ≡ has s m
  has-others s n m h = rw (has-with s n m, ne_eqb m n h, or-false (has s m))

  self-no-other : other set d d ≡ false
  self-no-other = false_from_ne_true _ (λ h. (other-yes set d d h).1 refl)

  module _ (sent : Bool) (g : Group) (p : Stage T d M t0 sent g) where
    abbrev r : ℕ → Record
    r u = record_of i (g.at u)

    -- ---- what an entry of w keeps
    module _ (w : ℕ) (what : Action) (s : Step) (D : Did T g (by w what) s) where
      abbrev f : Group
      f = advance wins g (by w what)

      abbrev r' : ℕ → Record
      r' u = record_of i (f.at u)

      -- who held M holds it
      rose : ((r w).timestamp ≡ M → s.after.timestamp ≡ M) → (u : ℕ) → (r u).timestamp ≡ M → (r' u).timestamp ≡ M
      rose h u e = go (ℕ_discrete u w)
        where
          go : Dec (u ≡ w) → (r' u).timestamp ≡ M
          go (yes z) = rw (z, D.here) (h (rw z at e))
          go (no n) = rw (D.others u n) e

      fine-on : (sent' : Bool) → (sent ≡ true → sent' ≡ true) → ((u : ℕ) → (r u).timestamp ≡ M → (r' u).timestamp ≡ M)
          → (sender : ℕ) (m : Message) → Fine T d M t0 sent g sender m → Fine T d M t0 sent' f sender m
      fine-on sent' up ro sender (Inv t) (a, b, c) = (a, b, up c)
      fine-on sent' up ro sender (Ack t) a = ro sender a
      fine-on sent' up ro sender (Val t) a = a

      hears-on : (sent' : Bool) → (sent ≡ true → sent' ≡ true) → (q : Record) → Hears T d M t0 sent q → Hears T d M t0 sent' q
      hears-on sent' up q (unheard a b) = unheard a b
      hears-on sent' up q (heard a b c e) = heard (up a) b c e

      -- the messages: those that were there, and what has just left
      messages-on : (sent' : Bool) → (sent ≡ true → sent' ≡ true) → ((u : ℕ) → (r u).timestamp ≡ M → (r' u).timestamp ≡ M)
          → Leaves T d M t0 sent' f s.sent
          → (k : ℕ) (x : Logged) → old ≤ k → find f.log k ≡ found x → x.header.index ≡ i → Fine T d M t0 sent' f x.header.sender x.message
      messages-on sent' up ro new k x l e j = go (D.before k x e)
        where
          go : (find g.log k ≡ found x) ⊎ (s.sent ≡ Some (x.message, x.header)) → Fine T d M t0 sent' f x.header.sender x.message
          go (inl z) = fine-on sent' up ro x.header.sender x.message (p.messages k x l z j)
          go (inr z) = subst (Leaves T d M t0 sent' f) z new

    -- ---- an entry of the saver
    module _ (what : Action) (s : Step) (D : Did T g (by d what) s) where
      by-saver : (sent' : Bool) → (sent ≡ true → sent' ≡ true) → s.after.timestamp ≡ M → s.after.written ≡ M → Saving T d M t0 s.after
          → ((u : ℕ) → has s.after.acks u ≡ true → (r u).timestamp ≡ M)
          → Leaves T d M t0 sent' (advance wins g (by d what)) s.sent
          → Stage T d M t0 sent' (advance wins g (by d what))
      by-saver sent' up t w o c new = record {
        alive = D.alive;
        held = rw D.here t;
        own = rw D.here w;
        saving = rw D.here o;
        hears = λ u h. rw (D.others u (other-yes set d u h).1) (hears-on d what s D sent' up (r u) (p.hears u h));
        counted = λ u h. ro u (c u (rw D.here at h));
        messages = messages-on d what s D sent' up ro new;
      }
        where
          ro : (u : ℕ) → (r u).timestamp ≡ M → (record_of i ((advance wins g (by d what)).at u)).timestamp ≡ M
          ro = rose d what s D (λ e. t)

      -- the others' records are as they were
      same-unaware : (u : ℕ) → unaware T d M t0 g u ≡ unaware T d M t0 (advance wins g (by d what)) u
      same-unaware u = go (ℕ_discrete u d)
        where
          go : Dec (u ≡ d) → unaware T d M t0 g u ≡ unaware T d M t0 (advance wins g (by d what)) u
          go (yes z) = rw (z, self-no-other)
          go (no n) = rw (D.others u n)

      same-unshown : (u : ℕ) → unshown T d M t0 g u ≡ unshown T d M t0 (advance wins g (by d what)) u
      same-unshown u = go (ℕ_discrete u d)
        where
          go : Dec (u ≡ d) → unshown T d M t0 g u ≡ unshown T d M t0 (advance wins g (by d what)) u
          go (yes z) = rw (z, self-no-other)
          go (no n) = rw (D.others u n)

      nearer : (sent' : Bool) {e c : ℕ} → Falls e (cond sent 0 1) (cond sent' 0 1) → Falls c (count_below 16 (uncounted T d M t0 g)) (count_below 16 (uncounted T d M t0 (advance wins g (by d what)))) → e + c ≤ 1
          → Falls 1 (missing T d M t0 sent g) (missing T d M t0 sent' (advance wins g (by d what)))
      nearer sent' x y l = total x (keeps (count_same 16 _ _ (λ u z. same-unaware u))) (keeps (count_same 16 _ _ (λ u z. same-unshown u))) y (omega arith)

      same-counted : s.after.acks ≡ (r d).acks → Falls 0 (count_below 16 (uncounted T d M t0 g)) (count_below 16 (uncounted T d M t0 (advance wins g (by d what))))
      same-counted e = keeps (count_same 16 (uncounted T d M t0 g) (uncounted T d M t0 (advance wins g (by d what))) (λ u z. rw (D.here, e)))

    -- what the saver may do
    abbrev Next : Entry → Type 0
    Next a = Nearer T d M t0 sent g (advance wins g a)

    saver-replays : IsAccepted (result wins g (by d (run.replay i))) → Next (by d (run.replay i))
    saver-replays c = absurd (go p.saving (replay-own (self T d) (r d) 0 (asked T g p.alive d hd (run.replay i) Replay [] refl c)).invalidated)
      where
        go : Saving T d M t0 (r d) → one_of (r d).state (state.Invalid ∷ state.InvalidWrite ∷ []) ≡ true → ⊥
        go (waits e) h = false≢true (rw e at h)
        go (done e o) h = false≢true (rw e at h)

    saver-validates : IsAccepted (result wins g (by d (run.validate i))) → Next (by d (run.validate i))
    saver-validates c = record {
      sent' = sent;
      stage = by-saver (run.validate i) _ D sent (λ e. e) p.held p.own (done refl y.acknowledged) p.counted (inl (p.held, refl));
      near = nearer (run.validate i) _ D sent (keeps refl) (same-counted (run.validate i) _ D refl) (omega arith);
    }
      where
        says : AllYes (own (self T d) (r d) Validate 0)
        says = asked T g p.alive d hd (run.validate i) Validate [] refl c

        y : ValidateOwn (self T d) (r d)
        y = validate-own (self T d) (r d) 0 says

        D : Did T g (by d (run.validate i)) (step_by T d (r d) Validate [])
        D = did T inside g p.alive d hd (run.validate i) Validate [] refl says

    saver-resends : IsAccepted (result wins g (by d (run.resend i))) → Next (by d (run.resend i))
    saver-resends c = go p.saving
      where
        says : AllYes (own (self T d) (r d) Resend 0)
        says = asked T g p.alive d hd (run.resend i) Resend [] refl c

        D : Did T g (by d (run.resend i)) (step_by T d (r d) Resend [])
        D = did T inside g p.alive d hd (run.resend i) Resend [] refl says

        to : (sent' : Bool) → (sent ≡ true → sent' ≡ true) → Falls 1 (cond sent 0 1) (cond sent' 0 1) → Leaves T d M t0 sent' (advance wins g (by d (run.resend i))) (step_by T d (r d) Resend []).sent
            → Next (by d (run.resend i))
        to sent' up l new = record {
          sent' = sent';
          stage = by-saver (run.resend i) _ D sent' up p.held p.own p.saving p.counted new;
          near = nearer (run.resend i) _ D sent' l (same-counted (run.resend i) _ D refl) (omega arith);
        }

        go : Saving T d M t0 (r d) → Next (by d (run.resend i))
        go (waits e) = to true (λ x. refl) (sent-once sent) (rw e (p.held, refl, refl))
        go (done e o) = to sent (λ x. x) (record { most = omega arith }) (rw e (inl (p.held, refl)))

    -- ---- a delivery to w
    module _ (w : ℕ) (hw : Has set w) (k : ℕ) (x : Logged) (since : old ≤ k) (e : find g.log k ≡ found x) (j : x.header.index ≡ i) (c : IsAccepted (result wins g (by w (run.deliver k)))) where
      does : perform wins (run.deliver k) g.log (g.at w) ≡ event (apply wins (g.at w) i (Deliver (received x)) x.body)
      does = ap (λ (y : Found). delivery wins y (g.at w)) e ∙ ap (λ (z : ℕ). event (apply wins (g.at w) z (Deliver (received x)) x.body)) j

      says-deliver : AllYes (own (self T w) (r w) (Deliver (received x)) (length x.body))
      says-deliver = asked T g p.alive w hw (run.deliver k) (Deliver (received x)) x.body does c

      came : Did T g (by w (run.deliver k)) (deliver_step wins (self T w) i (r w) x.header.sender x.message x.body)
      came = did T inside g p.alive w hw (run.deliver k) (Deliver (received x)) x.body does says-deliver

      passed : DeliverOwn (self T w) (r w) (received x) (length x.body)
      passed = deliver-own (self T w) (r w) (received x) (length x.body) says-deliver

      was-fine : Fine T d M t0 sent g x.header.sender x.message
      was-fine = p.messages k x since e j

    saver-takes : (k : ℕ) (x : Logged) → old ≤ k → find g.log k ≡ found x → x.header.index ≡ i → IsAccepted (result wins g (by d (run.deliver k))) → Next (by d (run.deliver k))
    saver-takes k x l e j c = go x.message (came d hd k x l e j c) y.kind (was-fine d hd k x l e j c)
      where
        y : DeliverOwn (self T d) (r d) (received x) (length x.body)
        y = passed d hd k x l e j c

        sender : ℕ
        sender = x.header.sender

        not_own : sender ≡ d → ⊥
        not_own = eqb-false sender d y.other

        -- an ACK
        counts : (b : Bool) → completes (self T d) (r d) sender ≡ b → Did T g (by d (run.deliver k)) (ack_step b (self T d) i (r d) sender)
            → one_of (r d).state (state.Write ∷ state.InvalidWrite ∷ state.Replay ∷ []) ≡ true → (r sender).timestamp ≡ M → Next (by d (run.deliver k))
        counts b q D o f = record {
          sent' = sent;
          stage = by-saver (run.deliver k) _ D sent (λ z. z) (held b) (own b) (saving b q) (counted b) (leaves b);
          near = nearer (run.deliver k) _ D sent (keeps refl) (record { most = count-near 16 sender (uncounted T d M t0 g) (uncounted T d M t0 (advance wins g (by d (run.deliver k)))) (λ u n. rw (D.here, acks b) (rw (has-others (r d).acks sender u n))) }) (omega arith);
        }
          where
            acks : (b : Bool) → (ack_step b (self T d) i (r d) sender).after.acks ≡ with (r d).acks sender
            acks true = refl
            acks false = refl

            held : (b : Bool) → (ack_step b (self T d) i (r d) sender).after.timestamp ≡ M
            held true = p.held
            held false = p.held

            own : (b : Bool) → (ack_step b (self T d) i (r d) sender).after.written ≡ M
            own true = p.own
            own false = p.own

            saving : (b : Bool) → completes (self T d) (r d) sender ≡ b → Saving T d M t0 (ack_step b (self T d) i (r d) sender).after
            saving true q = done refl (and_parts (under_way (r d)) (others_in d set (with (r d).acks sender)) q).1
            saving false q = still p.saving
              where
                still : Saving T d M t0 (r d) → Saving T d M t0 (ack_step false (self T d) i (r d) sender).after
                still (waits z) = waits z
                still (done z w) = absurd (false≢true (rw z at o))

            counted : (b : Bool) (u : ℕ) → has (ack_step b (self T d) i (r d) sender).after.acks u ≡ true → (r u).timestamp ≡ M
            counted b u h = before (with-members (r d).acks sender u (rw (acks b) at h))
              where
                before : Has (r d).acks u ⊎ (u ≡ sender) → (r u).timestamp ≡ M
                before (inl z) = p.counted u z
                before (inr z) = rw z f

            leaves : (b : Bool) → Leaves T d M t0 sent (advance wins g (by d (run.deliver k))) (ack_step b (self T d) i (r d) sender).sent
            leaves true = inl (p.held, refl)
            leaves false = tt

        go : (m : Message) → Did T g (by d (run.deliver k)) (deliver_step wins (self T d) i (r d) sender m x.body) → KindOwn m sender (r d) → Fine T d M t0 sent g sender m → Next (by d (run.deliver k))
        go (Inv t) D q (a, b, z) = absurd (not_own b)
        go (Ack t) D (q, a, b) f = counts (completes (self T d) (r d) sender) refl D q f
        go (Val t) D (q, a) (inl (b, z)) = absurd (not_own z)
        go (Val t) D (q, a) (inr b) = absurd (apart (sym b ∙ a ∙ p.held))

    -- ---- an entry of another, w
    module _ (w : ℕ) (ow : other set d w ≡ true) where
      hw : Has set w
      hw = (other-yes set d w ow).0

      nw : w ≢ d
      nw = (other-yes set d w ow).1

      module _ (what : Action) (s : Step) (D : Did T g (by w what) s) where
        the-saver : record_of i ((advance wins g (by w what)).at d) ≡ r d
        the-saver = D.others d (λ z. nw (sym z))

        by-other : Hears T d M t0 sent s.after → ((r w).timestamp ≡ M → s.after.timestamp ≡ M) → Leaves T d M t0 sent (advance wins g (by w what)) s.sent → Stage T d M t0 sent (advance wins g (by w what))
        by-other h up new = record {
          alive = D.alive;
          held = rw the-saver p.held;
          own = rw the-saver p.own;
          saving = rw the-saver p.saving;
          hears = λ u o. hears u o (ℕ_discrete u w);
          counted = λ u c. rose w what s D up u (p.counted u (rw the-saver at c));
          messages = messages-on w what s D sent (λ z. z) (rose w what s D up) new;
        }
          where
            hears : (u : ℕ) → other set d u ≡ true → Dec (u ≡ w) → Hears T d M t0 sent (record_of i ((advance wins g (by w what)).at u))
            hears u o (yes z) = rw (z, D.here) h
            hears u o (no n) = rw (D.others u n) (p.hears u o)

        nearer-other : {a b : ℕ} → Falls a (count_below 16 (unaware T d M t0 g)) (count_below 16 (unaware T d M t0 (advance wins g (by w what))))
            → Falls b (count_below 16 (unshown T d M t0 g)) (count_below 16 (unshown T d M t0 (advance wins g (by w what)))) → a + b ≤ 1
            → Falls 1 (missing T d M t0 sent g) (missing T d M t0 sent (advance wins g (by w what)))
        nearer-other x y l = total (keeps refl) x y (keeps (count_same 16 (uncounted T d M t0 g) (uncounted T d M t0 (advance wins g (by w what))) (λ u z. rw the-saver))) (omega arith)

        one-unaware : Falls 1 (count_below 16 (unaware T d M t0 g)) (count_below 16 (unaware T d M t0 (advance wins g (by w what))))
        one-unaware = record { most = count-near 16 w (unaware T d M t0 g) (unaware T d M t0 (advance wins g (by w what))) (λ u n. rw (D.others u n)) }

        one-unshown : Falls 1 (count_below 16 (unshown T d M t0 g)) (count_below 16 (unshown T d M t0 (advance wins g (by w what))))
        one-unshown = record { most = count-near 16 w (unshown T d M t0 g) (unshown T d M t0 (advance wins g (by w what))) (λ u n. rw (D.others u n)) }

        same-aware : unaware T d M t0 g w ≡ unaware T d M t0 (advance wins g (by w what)) w → Falls 0 (count_below 16 (unaware T d M t0 g)) (count_below 16 (unaware T d M t0 (advance wins g (by w what))))
        same-aware q = keeps (count_same 16 (unaware T d M t0 g) (unaware T d M t0 (advance wins g (by w what))) (λ u z. go u (ℕ_discrete u w)))
          where
            go : (u : ℕ) → Dec (u ≡ w) → unaware T d M t0 g u ≡ unaware T d M t0 (advance wins g (by w what)) u
            go u (yes z) = rw z q
            go u (no n) = rw (D.others u n)

        same-shown : unshown T d M t0 g w ≡ unshown T d M t0 (advance wins g (by w what)) w → Falls 0 (count_below 16 (unshown T d M t0 g)) (count_below 16 (unshown T d M t0 (advance wins g (by w what))))
        same-shown q = keeps (count_same 16 (unshown T d M t0 g) (unshown T d M t0 (advance wins g (by w what))) (λ u z. go u (ℕ_discrete u w)))
          where
            go : (u : ℕ) → Dec (u ≡ w) → unshown T d M t0 g u ≡ unshown T d M t0 (advance wins g (by w what)) u
            go u (yes z) = rw z q
            go u (no n) = rw (D.others u n)

        -- nothing moves
        stays : s.after ≡ r w → Leaves T d M t0 sent (advance wins g (by w what)) s.sent → Next (by w what)
        stays q new = record {
          sent' = sent;
          stage = by-other (rw q (p.hears w ow)) (λ z. rw q z) new;
          near = nearer-other (same-aware (rw (D.here, q))) (same-shown (rw (D.here, q))) (omega arith);
        }

      -- no save or replay of it is under way
      idle : Hears T d M t0 sent (r w) → under_way (r w) ≡ true → ⊥
      idle (unheard a b) h = false≢true (rw b at h)
      idle (heard z a b (inl c)) h = false≢true (rw c at h)
      idle (heard z a b (inr c)) h = false≢true (rw c at h)

      other-replays : IsAccepted (result wins g (by w (run.replay i))) → Next (by w (run.replay i))
      other-replays c = absurd (go (p.hears w ow))
        where
          y : ReplayOwn (self T w) (r w)
          y = replay-own (self T w) (r w) 0 (asked T g p.alive w hw (run.replay i) Replay [] refl c)

          go : Hears T d M t0 sent (r w) → ⊥
          go (unheard a b) = false≢true (rw b at y.invalidated)
          go (heard z a b (inl q)) = false≢true (sym (rw b at y.gone) ∙ hd)
          go (heard z a b (inr q)) = false≢true (rw q at y.invalidated)

      other-validates : IsAccepted (result wins g (by w (run.validate i))) → Next (by w (run.validate i))
      other-validates c = absurd (idle (p.hears w ow) (validate-own (self T w) (r w) 0 (asked T g p.alive w hw (run.validate i) Validate [] refl c)).pending)

      other-resends : IsAccepted (result wins g (by w (run.resend i))) → Next (by w (run.resend i))
      other-resends c = stays (run.resend i) _ (did T inside g p.alive w hw (run.resend i) Resend [] refl says) refl (go (resend-own (self T w) (r w) 0 says) (p.hears w ow))
        where
          says : AllYes (own (self T w) (r w) Resend 0)
          says = asked T g p.alive w hw (run.resend i) Resend [] refl c

          go : ResendOwn (self T w) (r w) → Hears T d M t0 sent (r w) → Leaves T d M t0 sent (advance wins g (by w (run.resend i))) (step_by T w (r w) Resend []).sent
          go (inl h) z = absurd (idle z h)
          go (inr (h, q)) (unheard a b) = rw b (inr a)
          go (inr (h, q)) (heard z a b o) = absurd (nw (sym q ∙ b))

      other-takes : (k : ℕ) (x : Logged) → old ≤ k → find g.log k ≡ found x → x.header.index ≡ i → IsAccepted (result wins g (by w (run.deliver k))) → Next (by w (run.deliver k))
      other-takes k x l e j c = go x.message (came w hw k x l e j c) (passed w hw k x l e j c).kind (was-fine w hw k x l e j c)
        where
          sender : ℕ
          sender = x.header.sender

          f : Group
          f = advance wins g (by w (run.deliver k))

          -- an INV: it is taken, or was before
          inv : (t : Timestamp) → t ≡ M → sender ≡ d → sent ≡ true → (b : Bool) → later (order T) t (r w).timestamp ≡ b
              → Did T g (by w (run.deliver k)) (inv_step b (self T w) i (r w) t sender x.body) → Hears T d M t0 sent (r w) → Next (by w (run.deliver k))
          inv t a v z true q D (heard y o b n) = absurd (later-apart (order T) ord t (r w).timestamp q (o ∙ sym a))
          inv t a v z true q D (unheard o b) = record {
            sent' = sent;
            stage = by-other (run.deliver k) _ D (heard z a v (inl (rw b))) (λ y. a) (rw D.here a);
            near = nearer-other (run.deliver k) _ D (one-unaware (run.deliver k) _ D) (same-shown (run.deliver k) _ D (rw (D.here, b, o, a, different, equal-same M M refl))) (omega arith);
          }
          inv t a v z false q D (unheard o b) = absurd (false≢true (sym q ∙ rw (a, o) newer))
          inv t a v z false q D (heard y o b n) = stays (run.deliver k) _ D refl (rw D.here o)

          -- a VAL: the record becomes valid
          val : Did T g (by w (run.deliver k)) (val_step (r w)) → is_valid (r w) ≡ false → Hears T d M t0 sent (r w) → Next (by w (run.deliver k))
          val D h (unheard o b) = absurd (false≢true (sym (rw b at h)))
          val D h (heard y o b n) = record {
            sent' = sent;
            stage = by-other (run.deliver k) _ D (heard y o b (inr refl)) (λ q. q) tt;
            near = nearer-other (run.deliver k) _ D (same-aware (run.deliver k) _ D (rw D.here)) (one-unshown (run.deliver k) _ D) (omega arith);
          }

          go : (m : Message) → Did T g (by w (run.deliver k)) (deliver_step wins (self T w) i (r w) sender m x.body) → KindOwn m sender (r w) → Fine T d M t0 sent g sender m → Next (by w (run.deliver k))
          go (Inv t) D q (a, b, z) = inv t a b z (later (order T) t (r w).timestamp) refl D (p.hears w ow)
          go (Ack t) D (q, a, b) v = absurd (none-counts (p.hears w ow) q)
            where
              none-counts : Hears T d M t0 sent (r w) → one_of (r w).state (state.Write ∷ state.InvalidWrite ∷ state.Replay ∷ []) ≡ true → ⊥
              none-counts (unheard a b) h = false≢true (rw b at h)
              none-counts (heard z a b (inl q)) h = false≢true (rw q at h)
              none-counts (heard z a b (inr q)) h = false≢true (rw q at h)
          go (Val t) D (q, a) v = val D q (p.hears w ow)

    -- ---- every entry

    -- what is found, and about record i
    data Delivers (k : ℕ) : Type 0 where
      it-is : (x : Logged) → old ≤ k → find g.log k ≡ found x → x.header.index ≡ i → Delivers k

    delivers : (k : ℕ) → old ≤ k → (y : Found) → find g.log k ≡ y → About i y → Delivers k
    delivers k l run.missing e h = absurd h
    delivers k l (run.found x) e h = it-is x l e h

    of-saver : (what : Action) → Helps i old g.log what → IsAccepted (result wins g (by d what)) → Next (by d what)
    of-saver (run.read j) h = absurd h
    of-saver (run.ask j) h = absurd h
    of-saver (run.write j v) h = absurd h
    of-saver (run.commit j t v) h = absurd h
    of-saver (run.replay j) h = rw h saver-replays
    of-saver (run.deliver k) (l, h) = go (delivers k l (find g.log k) refl h)
      where
        go : Delivers k → IsAccepted (result wins g (by d (run.deliver k))) → Next (by d (run.deliver k))
        go (it-is x l e j) = saver-takes k x l e j
    of-saver (run.validate j) h = rw h saver-validates
    of-saver (run.resend j) h = rw h saver-resends
    of-saver (run.view epoch next) h = absurd h

    of_other : (w : ℕ) → other set d w ≡ true → (what : Action) → Helps i old g.log what → IsAccepted (result wins g (by w what)) → Next (by w what)
    of_other w o (run.read j) h = absurd h
    of_other w o (run.ask j) h = absurd h
    of_other w o (run.write j v) h = absurd h
    of_other w o (run.commit j t v) h = absurd h
    of_other w o (run.replay j) h = rw h (other-replays w o)
    of_other w o (run.deliver k) (l, h) = go (delivers k l (find g.log k) refl h)
      where
        go : Delivers k → IsAccepted (result wins g (by w (run.deliver k))) → Next (by w (run.deliver k))
        go (it-is x l e j) = other-takes w o k x l e j
    of_other w o (run.validate j) h = rw h (other-validates w o)
    of_other w o (run.resend j) h = rw h (other-resends w o)
    of_other w o (run.view epoch next) h = absurd h

    pub any_entry : (a : Entry) → Has set a.who → Helps i old g.log a.what → IsAccepted (result wins g a) → Next a
    any_entry a hw h c = go (ℕ_discrete a.who d)
      where
        go : Dec (a.who ≡ d) → Next a
        go (yes z) = subst (λ (w : ℕ). IsAccepted (result wins g (by w a.what)) → Next (by w a.what)) (sym z) (of-saver a.what h) c
        go (no n) = of_other a.who (yes-other set d a.who hw n) a.what h c
