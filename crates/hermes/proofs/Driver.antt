-- The recipe settles a record. The idea: of those that hold the greatest timestamp M one can drive. It has a save or replay under way; or it shows the
-- record valid and is its own last writer; or it is invalid, and its last writer is gone. For a last writer in the view stands behind what it
-- sent, so that it is itself a driver of the first two kinds.
use Prim.Native.Nat.{ℕ, zero, suc, ◌+◌, ◌*◌, ◌≤◌, ◌<◌}
use mathlib.Core.Path.{◌≡◌, refl, sym, ap, subst, ◌∙◌}
use mathlib.Core.Bool.{Bool, true, false, cond, not, ◌&&◌, ◌||◌, false≢true, or-true}
use mathlib.Core.Logic.{◌⊎◌, inl, inr, ◌≢◌}
use mathlib.Core.List.{List, [], ◌∷◌}
use native.Mathlib.Omega.{arith}
use native.Mathlib.Decide.{ℕ_discrete}
use lib.Dec.{leb, eqb}
use lib.ListN.{length, length-append}
use borrow.Author.Tests.{eqb-true, eq-eqb, not-true}
use Rattle.hermes_record.specs.declared.timestamp.Timestamp.{Timestamp}
use Rattle.hermes_record.specs.declared.record.Record.{Record}
use Rattle.hermes_record.specs.declared.record.State.{State}
use Rattle.hermes_record.specs.declared.record.State.TheVariants as state
use Rattle.hermes.specs.declared.message.Message.TheVariants.{Inv, Val}
use Rattle.hermes.specs.declared.event.Replica.{Replica}
use Rattle.hermes.specs.declared.event.Event.TheVariants.{Replay, Validate, Resend}
use Rattle.hermes_record.specs.Members.{has, count_below, size, others_in}
use Rattle.hermes_record.specs.Order.{TieOrder, later, NotAfter, equal, rises}
use Rattle.hermes_record.specs.Record.{one_of}
use Rattle.hermes.specs.Event.{Step, resent, send}
use Rattle.hermes.specs.Node.{record_of}
use Rattle.hermes.specs.Run as run
use Rattle.hermes.specs.Run.{Action, Entry, by, Group, advance}
use Rattle.hermes.specs.Settling.{Helps}
use Rattle.hermes.specs.Recipe.{Choice, nobody, laptop, or_else, first, each, under_way, is_valid, is_invalid, other, due, leads, all_show, goes_on, says_again, takes_over, driver, late, vals, round, finish, drive, driven, recipe}
use Rattle.hermes_record.proofs.Tests.{implied}
use Rattle.std.proofs.lemmas.Bool.{and_parts, and_from, or_cases, false_from_ne_true}
use Rattle.hermes.proofs.Members.{Has, has-small, has-zero, all-at, all_of, others-members}
use Rattle.hermes_record.proofs.Order.{not_after-refl, not_after-trans, not_after-antisym, not_after-total, not-later}
use Rattle.hermes.proofs.Words.{is_state, state-is, Two, count-le, count-without, size-two}
use Rattle.hermes.proofs.Guards.{sound-passed}
use Rattle.hermes.proofs.Progress.{Task, order, self, Alive, Did, did, step_by, Plays, none, one, next, each-length}
use Rattle.hermes.proofs.Drive.{other-yes, yes-other, due-yes, AllShow, Shown, Asked, Told, tells, asks}

-- ---- words on choices and states

-- the first number that passes a test passes it, and where there is none no number does
data Picked (n : ℕ) (p : ℕ → Bool) (c : Choice) : Type 0 where
  some : (u : ℕ) → p u ≡ true → c ≡ laptop u → Picked n p c
  none_of : ((u : ℕ) → u < n → p u ≡ false) → c ≡ nobody → Picked n p c

picked : (n : ℕ) (p : ℕ → Bool) → Picked n p (first n p)
unfolding first
picked zero p = none_of (λ u l. absurd (omega arith)) refl
picked (suc n) p = go (picked n p) (p n) refl
  where
    go : Picked n p (first n p) → (b : Bool) → p n ≡ b → Picked (suc n) p (or_else (first n p) (cond b (laptop n) nobody))
    go (some u h e) b q = some u h (rw e)
    go (none_of f e) true q = some n q (rw e)
    go (none_of f e) false q = none_of (λ u l. at u l (ℕ_discrete u n)) (rw e)
      where
        at : (u : ℕ) → u < suc n → Dec (u ≡ n) → p u ≡ false
        at u l (yes z) = rw z q
        at u l (no d) = f u (omega arith)

-- there is no other state
valid-else : (r : Record) → under_way r ≡ false → is_invalid r ≡ false → r.state ≡ state.Valid
valid-else r = go r.state
  where
    go : (s : State) → one_of s (state.Write ∷ state.Replay ∷ []) ≡ false → one_of s (state.Invalid ∷ state.InvalidWrite ∷ []) ≡ false → s ≡ state.Valid
    go state.Valid p q = refl
    go state.Invalid p q = absurd (false≢true (sym q))
    go state.InvalidWrite p q = absurd (false≢true (sym q))
    go state.Write p q = absurd (false≢true (sym p))
    go state.Replay p q = absurd (false≢true (sym p))

-- what a resend sends
resent-inv : (me : Replica) (i : ℕ) (s : State) (t : Timestamp) → one_of s (state.Write ∷ state.Replay ∷ []) ≡ true → resent me i s t ≡ send me i (Inv t)
resent-inv me i state.Valid t h = absurd (false≢true h)
resent-inv me i state.Invalid t h = absurd (false≢true h)
resent-inv me i state.InvalidWrite t h = absurd (false≢true h)
resent-inv me i state.Write t h = refl
resent-inv me i state.Replay t h = refl

-- what a driver does, by its state
module _ (wins : ℕ → ℕ → Bool) (set i : ℕ) (g : Group) (d : ℕ) where
  drive-under-way : (s : State) → one_of s (state.Write ∷ state.Replay ∷ []) ≡ true → drive wins set i g d s ≡ finish wins set i g d (others_in d set (record_of i (g.at d)).acks)
  drive-under-way state.Valid h = absurd (false≢true h)
  drive-under-way state.Invalid h = absurd (false≢true h)
  drive-under-way state.InvalidWrite h = absurd (false≢true h)
  drive-under-way state.Write h = refl
  drive-under-way state.Replay h = refl

  drive-invalid : (s : State) → one_of s (state.Invalid ∷ state.InvalidWrite ∷ []) ≡ true → drive wins set i g d s ≡ by d (run.replay i) ∷ round wins set i g d (length g.log) 0
  drive-invalid state.Valid h = absurd (false≢true h)
  drive-invalid state.Invalid h = refl
  drive-invalid state.InvalidWrite h = refl
  drive-invalid state.Write h = absurd (false≢true h)
  drive-invalid state.Replay h = absurd (false≢true h)

-- ---- how many

module _ (wins : ℕ → ℕ → Bool) (set i : ℕ) (g : Group) (d : ℕ) (hd : Has set d) where
  pub others-size : count_below 16 (other set d) + 1 ≡ size set
  unfolding size
  others-size = count-without 16 d (has set) (has-small set d hd) hd

  due-size : (acks : ℕ) → count_below 16 (due set d acks) ≤ count_below 16 (other set d)
  due-size acks = count-le 16 (due set d acks) (other set d) (λ u h. (due-yes set d acks u h).0)

  late-size : count_below 16 (late wins set i g d) ≤ count_below 16 (other set d)
  late-size = count-le 16 (late wins set i g d) (other set d) (λ u h. (and_parts (other set d u) _ h).0)

  vals-length : (k : ℕ) → length (vals wins set i g d k) ≤ count_below 16 (other set d)
  vals-length k = rw (each-length 16 (late wins set i g d) (λ u. by u (run.deliver k))) late-size

  round-length : (k acks : ℕ) → length (round wins set i g d k acks) ≤ count_below 16 (other set d) + count_below 16 (other set d) + count_below 16 (other set d)
  round-length k acks = rw (
    length-append _ (vals wins set i g d (k + 1 + count_below 16 (due set d acks))),
    length-append (each 16 (due set d acks) (λ u. by u (run.deliver k))) _,
    each-length 16 (due set d acks) (λ u. by u (run.deliver k)),
    each-length 16 (due set d acks) (λ u. by d (run.deliver (k + 1 + count_below u (due set d acks)))),
  )
      (omega (arith, due-size acks, vals-length (k + 1 + count_below 16 (due set d acks))))

  -- somebody else is in a set of two, and nobody has yet answered
  not-alone : leb 2 (size set) ≡ true → others_in d set 0 ≡ false
  not-alone two = false_from_ne_true (others_in d set 0) (λ h. none_of (size-two set two) h)
    where
      only : others_in d set 0 ≡ true → (u : ℕ) → Has set u → u ≡ d
      only h u k = go (others-members d set 0 h u k)
        where
          go : (u ≡ d) ⊎ Has 0 u → u ≡ d
          go (inl e) = e
          go (inr z) = absurd (false≢true (sym (has-zero u) ∙ z))

      none_of : Two 16 (has set) → others_in d set 0 ≡ true → ⊥
      none_of w h = w.apart (only h w.one w.one_passes ∙ sym (only h w.two w.two_passes))

-- ---- the outset: what is known of the replicas of the view `set`

-- replica v, whose record is r, stands behind the timestamp s (`Standing`)
abbrev pub Behind : (ℕ → ℕ → Bool) → ℕ → Record → Timestamp → Type 0
Behind wins v r s = (later wins r.timestamp s ≡ true) ⊎ ((r.timestamp ≡ s) × (r.writer ≡ v) × ((is_valid r ≡ true) ⊎ (under_way r ≡ true)))

pub record Outset (T : Task) (g : Group) : Type 0 where
  pub alive : Alive T g
  pub settled : (u v : ℕ) → Has T.set u → Has T.set v → is_valid (record_of T.i (g.at u)) ≡ true → NotAfter (order T) (record_of T.i (g.at u)).timestamp (record_of T.i (g.at v)).timestamp
  pub acked : (u v : ℕ) → Has T.set u → Has T.set v → Has (record_of T.i (g.at u)).acks v → NotAfter (order T) (record_of T.i (g.at u)).written (record_of T.i (g.at v)).timestamp
  pub mine : (u : ℕ) → Has T.set u → under_way (record_of T.i (g.at u)) ≡ true → (record_of T.i (g.at u)).written ≡ (record_of T.i (g.at u)).timestamp
  -- the last writer v of u stands behind what u holds
  pub writers : (u v : ℕ) → Has T.set u → Has T.set v → (record_of T.i (g.at u)).writer ≡ v → Behind (order T) v (record_of T.i (g.at v)) (record_of T.i (g.at u)).timestamp

-- one of the view, `who`, holds a timestamp that is not before those of the others below k
pub record Top (T : Task) (g : Group) (k : ℕ) : Type 0 where
  pub who : ℕ
  pub seen : Has T.set who
  pub most : (u : ℕ) → u < k → Has T.set u → NotAfter (order T) (record_of T.i (g.at u)).timestamp (record_of T.i (g.at who)).timestamp

module _ (T : Task) (inside : T.i < T.count) (ord : TieOrder (order T)) (g : Group) where
  open T use {wins, set, i, old}

  abbrev r : ℕ → Record
  r u = record_of i (g.at u)

  -- ---- the greatest timestamp

  -- the greater of two: m itself is in the view
  pub top : (m : ℕ) → Has set m → (k : ℕ) → Top T g k
  top m hm zero = record { who = m; seen = hm; most = λ u l h. absurd (omega arith) }
  top m hm (suc k) = go (top m hm k) (has set k) refl
    where
      go : Top T g k → (b : Bool) → has set k ≡ b → Top T g (suc k)
      go t false q = record { who = t.who; seen = t.seen; most = λ u l h. at u l h (ℕ_discrete u k) }
        where
          at : (u : ℕ) → u < suc k → Has set u → Dec (u ≡ k) → NotAfter (order T) (r u).timestamp (r t.who).timestamp
          at u l h (yes z) = absurd (false≢true (sym q ∙ (rw z at h)))
          at u l h (no d) = t.most u (omega arith) h
      go t true q = pick (later (order T) (r k).timestamp (r t.who).timestamp) refl
        where
          pick : (b : Bool) → later (order T) (r k).timestamp (r t.who).timestamp ≡ b → Top T g (suc k)
          pick true z = record { who = k; seen = q; most = λ u l h. at u l h (ℕ_discrete u k) }
            where
              at : (u : ℕ) → u < suc k → Has set u → Dec (u ≡ k) → NotAfter (order T) (r u).timestamp (r k).timestamp
              at u l h (yes y) = rw y (not_after-refl (order T) (r k).timestamp)
              at u l h (no d) = not_after-trans (order T) ord (t.most u (omega arith) h) (rises z)
          pick false z = record { who = t.who; seen = t.seen; most = λ u l h. at u l h (ℕ_discrete u k) }
            where
              at : (u : ℕ) → u < suc k → Has set u → Dec (u ≡ k) → NotAfter (order T) (r u).timestamp (r t.who).timestamp
              at u l h (yes y) = rw y (not_after-total (order T) ord (r k).timestamp (r t.who).timestamp z)
              at u l h (no d) = t.most u (omega arith) h

  module _ (o : Outset T g) (M : Timestamp) (holder : ℕ) (hh : Has set holder) (held : (r holder).timestamp ≡ M) (most : (u : ℕ) → Has set u → NotAfter (order T) (r u).timestamp M) where
    low : M.tie ≤ 15
    low = subst (λ (t : Timestamp). t.tie ≤ 15) held (sound-passed (g.at holder).me (r holder) ((o.alive.live holder hh).sound.fifth i inside)).tie

    -- whoever has reached M holds M
    at_most : (u : ℕ) → Has set u → NotAfter (order T) M (r u).timestamp → (r u).timestamp ≡ M
    at_most u h k = not_after-antisym (order T) ord (most u h) k

    -- v is not ahead of u
    abbrev not_ahead : ℕ → ℕ → Bool
    not_ahead u v = not (has set v && later (order T) (r v).timestamp (r u).timestamp)

    -- who leads holds M
    leads-yes : (u : ℕ) → leads (order T) set i g u ≡ true → Has set u × ((r u).timestamp ≡ M)
    unfolding leads
    leads-yes u h = let (p, q) = and_parts (has set u) _ h in (
      p,
      at_most u p (subst (λ (t : Timestamp). NotAfter (order T) t (r u).timestamp) held (not_after-total (order T) ord (r holder).timestamp (r u).timestamp
          (false_from_ne_true _ (λ k. false≢true (sym (not-true _ (all-at 16 (not_ahead u) q holder (has-small set holder hh))) ∙ and_from (has set holder) _ hh k))))),
    )

    yes-leads : (u : ℕ) → Has set u → (r u).timestamp ≡ M → leads (order T) set i g u ≡ true
    unfolding leads
    yes-leads u h e = and_from (has set u) _ h (all_of 16 (not_ahead u) (λ v l. rw (false_from_ne_true (has set v && later (order T) (r v).timestamp (r u).timestamp)
        (λ k. let (p, q) = and_parts (has set v) _ k in not-later (order T) ord (r v).timestamp (r u).timestamp (rw e (most v p)) q))))

    -- these entries leave all showing M, and are at most 3k − 2
    pub record Achieves (entries : List Entry) : Type 0 where
      pub plays : Plays T g entries (AllShow T M)
      pub few : length entries + 2 ≤ 3 * size set

    -- ---- a driver d
    module _ (d : ℕ) (hd : Has set d) (stamp : (r d).timestamp ≡ M) where
      abbrev late_of : ℕ → Bool
      late_of = late (order T) set i g d

      lates : (u : ℕ) → late_of u ≡ true → Has set u × (u ≢ d)
      lates u h = other-yes set d u (and_parts (other set d u) _ h).0

      shown : Shown T d M late_of g
      shown = record {
        no = λ u h e. false_from_ne_true (is_valid (r u)) (λ v. false≢true (sym (not-true _ (and_parts (other set d u) _ h).1) ∙ and_from (leads (order T) set i g u) (is_valid (r u)) (yes-leads u (lates u h).0 e) v));
        yes = λ u h n z. let (p, q) = and_parts (leads (order T) set i g u) (is_valid (r u)) (shows u h n z (leads (order T) set i g u && is_valid (r u)) refl) in (is_state (r u).state state.Valid q, (leads-yes u p).1);
      }
        where
          shows : (u : ℕ) → Has set u → u ≢ d → late_of u ≡ false → (b : Bool) → (leads (order T) set i g u && is_valid (r u)) ≡ b → b ≡ true
          shows u h n z true q = refl
          shows u h n z false q = absurd (false≢true (sym z ∙ rw (yes-other set d u h n, q)))

      -- after an entry of d
      still-shown : (what : Action) (s : Step) → Did T g (by d what) s → Shown T d M late_of (advance wins g (by d what))
      still-shown what s D = record {
        no = λ u h e. rw (D.others u (lates u h).1) (shown.no u h (rw (D.others u (lates u h).1) at e));
        yes = λ u h n z. rw (D.others u n) (shown.yes u h n z);
      }

      -- after one entry of d, which leaves its save or replay under way at M, and by which its INV leaves
      by-asking : (what : Action) (s : Step) → Helps i old g.log what → Did T g (by d what) s
          → s.after.timestamp ≡ M → s.after.written ≡ M → under_way s.after ≡ true → s.sent ≡ send (self T d) i (Inv M)
          → ((u : ℕ) → Has set u → Has s.after.acks u → (r u).timestamp ≡ M) → others_in d set s.after.acks ≡ false
          → Achieves (by d what ∷ round (order T) set i g d (length g.log) s.after.acks)
      by-asking what s k D t t' c q counted n = record {
        plays = next T (one T g (by d what) hd k D.accepted start) (λ f p. asks T inside ord d hd M low late_of lates (length g.log) s.after.acks s.after f p refl c t t' n);
        few = omega (arith, others-size (order T) set i g d hd, round-length (order T) set i g d hd (length g.log) s.after.acks);
      }
        where
          now : ℕ → Record
          now u = record_of i ((advance wins g (by d what)).at u)

          below : (u : ℕ) → Has set u → Dec (u ≡ d) → NotAfter (order T) (now u).timestamp M
          below u h (yes z) = rw (z, D.here) (equal t)
          below u h (no f) = rw (D.others u f) (most u h)

          came : (u : ℕ) → Has set u → Has s.after.acks u → Dec (u ≡ d) → (now u).timestamp ≡ M
          came u h z (yes y) = rw (y, D.here) t
          came u h z (no f) = rw (D.others u f) (counted u h z)

          start : Asked T d M late_of (length g.log) s.after.acks s.after 0 (advance wins g (by d what))
          start = record {
            alive = D.alive;
            shown = still-shown what s D;
            driver = D.here;
            inv = D.left (Inv M) q low;
            sent = omega (arith, D.longer _ _ q);
            below = λ u h. below u h (ℕ_discrete u d);
            counted = λ u h z. came u h z (ℕ_discrete u d);
            replied = λ u l z. absurd (omega arith);
          }

      -- after one entry of d, which leaves it valid at M, as all others hold M, and by which its VAL leaves
      by-telling : (what : Action) (s : Step) → Helps i old g.log what → Did T g (by d what) s
          → s.after.timestamp ≡ M → s.after.state ≡ state.Valid → s.sent ≡ send (self T d) i (Val M)
          → ((u : ℕ) → Has set u → (r u).timestamp ≡ M) → Achieves (by d what ∷ vals (order T) set i g d (length g.log))
      by-telling what s k D t v q all = record {
        plays = next T (one T g (by d what) hd k D.accepted start) (tells T inside ord d hd M low late_of lates (length g.log));
        few = omega (arith, others-size (order T) set i g d hd, vals-length (order T) set i g d hd (length g.log));
      }
        where
          now : ℕ → Record
          now u = record_of i ((advance wins g (by d what)).at u)

          stamps : (u : ℕ) → Has set u → Dec (u ≡ d) → (now u).timestamp ≡ M
          stamps u h (yes z) = rw (z, D.here) t
          stamps u h (no f) = rw (D.others u f) (all u h)

          valid : (u : ℕ) → Has set u → (late_of u ≡ false) ⊎ (u < 0) → Dec (u ≡ d) → (now u).state ≡ state.Valid
          valid u h z (yes y) = rw (y, D.here) v
          valid u h (inl z) (no f) = ((still-shown what s D).yes u h f z).0
          valid u h (inr z) (no f) = absurd (omega arith)

          start : Told T d M late_of (length g.log) 0 (advance wins g (by d what))
          start = record {
            alive = D.alive;
            val = D.left (Val M) q low;
            stamps = λ u h. stamps u h (ℕ_discrete u d);
            unshown = λ u l h. (still-shown what s D).no u h (stamps u (lates u h).0 (ℕ_discrete u d));
            valid = λ u h z. valid u h z (ℕ_discrete u d);
          }

      -- a save or replay is under way: it validates at once if all others are counted, and else resends its INV
      working : under_way (r d) ≡ true → Achieves (drive (order T) set i g d (r d).state)
      working c = subst Achieves (sym (drive-under-way (order T) set i g d (r d).state c)) (go (others_in d set (r d).acks) refl)
        where
          counted : (u : ℕ) → Has set u → Has (r d).acks u → (r u).timestamp ≡ M
          counted u h k = at_most u h (subst (λ (t : Timestamp). NotAfter (order T) t (r u).timestamp) (o.mine d hd c ∙ stamp) (o.acked d u hd h k))

          all : (u : ℕ) → Has set u → (u ≡ d) ⊎ Has (r d).acks u → (r u).timestamp ≡ M
          all u h (inl z) = rw z stamp
          all u h (inr z) = counted u h z

          go : (b : Bool) → others_in d set (r d).acks ≡ b → Achieves (finish (order T) set i g d b)
          go true q = by-telling (run.validate i) (step_by T d (r d) Validate []) refl
              (did T inside g o.alive d hd (run.validate i) Validate [] refl (and_from (under_way (r d)) (others_in d set (r d).acks) c q, tt))
              stamp refl (ap (λ (t : Timestamp). send (self T d) i (Val t)) stamp) (λ u h. all u h (others-members d set (r d).acks q u h))
          go false q = by-asking (run.resend i) (step_by T d (r d) Resend []) refl
              (did T inside g o.alive d hd (run.resend i) Resend [] refl (rw c, tt))
              stamp (o.mine d hd c ∙ stamp) c (resent-inv (self T d) i (r d).state (r d).timestamp c ∙ ap (λ (t : Timestamp). send (self T d) i (Inv t)) stamp) counted q

      -- it is valid and its own last writer: it resends its VAL
      writer : is_valid (r d) ≡ true → (r d).writer ≡ d → Achieves (drive (order T) set i g d (r d).state)
      writer v w = subst (λ (s : State). Achieves (drive (order T) set i g d s)) (sym is) (by-telling (run.resend i) (step_by T d (r d) Resend []) refl
          (did T inside g o.alive d hd (run.resend i) Resend [] refl (rw (is, eq-eqb (r d).writer d w), tt))
          stamp is (rw (is, stamp)) (λ u h. at_most u h (subst (λ (t : Timestamp). NotAfter (order T) t (r u).timestamp) stamp (o.settled d u hd h v))))
        where
          is : (r d).state ≡ state.Valid
          is = is_state (r d).state state.Valid v

      -- it is invalid or invalid-write, and its last writer is not in the view: it replays
      waiting : is_invalid (r d) ≡ true → has set (r d).writer ≡ false → Achieves (drive (order T) set i g d (r d).state)
      waiting v w = subst Achieves (sym (drive-invalid (order T) set i g d (r d).state v)) (by-asking (run.replay i) (step_by T d (r d) Replay []) refl
          (did T inside g o.alive d hd (run.replay i) Replay [] refl (rw (v, w), tt))
          stamp stamp refl (ap (λ (t : Timestamp). send (self T d) i (Inv t)) stamp) (λ u h k. absurd (false≢true (sym (has-zero u) ∙ k))) (not-alone (order T) set i g d hd two))
        where
          two : leb 2 (size set) ≡ true
          two = subst (λ (x : ℕ). leb 2 (size x) ≡ true) (o.alive.live d hd).view (and_parts (leb (g.at d).me.number 15) (leb 2 (size (g.at d).me.view)) (o.alive.live d hd).sound.first).1

    -- whichever drives
    pub by-driver : (d : ℕ) → (goes_on (order T) set i g d || (says_again (order T) set i g d || takes_over (order T) set i g d)) ≡ true → Achieves (drive (order T) set i g d (r d).state)
    by-driver d h = go (or_cases (goes_on (order T) set i g d) _ h)
      where
        last : (says_again (order T) set i g d ≡ true) ⊎ (takes_over (order T) set i g d ≡ true) → Achieves (drive (order T) set i g d (r d).state)
        last (inl z) = let (p, q) = and_parts (leads (order T) set i g d) _ z in let (k, t) = leads-yes d p in let (v, w) = and_parts (is_valid (r d)) (eqb (r d).writer d) q in writer d k t v (eqb-true _ _ w)
        last (inr z) = let (p, q) = and_parts (leads (order T) set i g d) _ z in let (k, t) = leads-yes d p in let (v, w) = and_parts (is_invalid (r d)) (not (has set (r d).writer)) q in waiting d k t v (not-true _ w)

        go : (goes_on (order T) set i g d ≡ true) ⊎ ((says_again (order T) set i g d || takes_over (order T) set i g d) ≡ true) → Achieves (drive (order T) set i g d (r d).state)
        go (inl z) = let (p, q) = and_parts (leads (order T) set i g d) (under_way (r d)) z in let (k, t) = leads-yes d p in working d k t q
        go (inr z) = last (or_cases (says_again (order T) set i g d) _ z)

    -- ---- there is a driver, or all is done
    -- nobody who leads has a save or replay under way, or is valid and its own last writer: so the last writer of who leads is not in the view
    gone : ((u : ℕ) → u < 16 → goes_on (order T) set i g u ≡ false) → ((u : ℕ) → u < 16 → says_again (order T) set i g u ≡ false) → (d : ℕ) → Has set d → (r d).timestamp ≡ M → has set (r d).writer ≡ false
    gone a b d hd t = false_from_ne_true (has set (r d).writer) (λ h. never h (o.writers d (r d).writer hd h refl))
      where
        w : ℕ
        w = (r d).writer

        never : Has set w → Behind (order T) w (r w) (r d).timestamp → ⊥
        never h (inl z) = not-later (order T) ord (r w).timestamp M (most w h) (subst (λ (x : Timestamp). later (order T) (r w).timestamp x ≡ true) t z)
        never h (inr (p, q, inl v)) = false≢true (sym (b w (has-small set w h)) ∙ and_from (leads (order T) set i g w) _ (yes-leads w h (p ∙ t)) (and_from (is_valid (r w)) (eqb (r w).writer w) v (eq-eqb (r w).writer w q)))
        never h (inr (p, q, inr v)) = false≢true (sym (a w (has-small set w h)) ∙ and_from (leads (order T) set i g w) (under_way (r w)) (yes-leads w h (p ∙ t)) v)

    -- who shows it valid at the outset holds M where all do
    all_hold : ((u : ℕ) → Has set u → (r u).state ≡ state.Valid) → Achieves []
    all_hold v = record {
      plays = none T g (λ u h. (v u h, at_most u h (subst (λ (t : Timestamp). NotAfter (order T) t (r u).timestamp) held (o.settled holder u hh h (state-is _ state.Valid (v holder hh))))));
      few = omega (arith, others-size (order T) set i g holder hh);
    }

    pub by-recipe : Achieves (recipe (order T) set i g)
    unfolding recipe all_show driver
    by-recipe = go (all_show (order T) set i g) refl
      where
        -- nobody can drive: all who lead show the record valid, so all hold M
        rest : ((u : ℕ) → u < 16 → goes_on (order T) set i g u ≡ false) → ((u : ℕ) → u < 16 → says_again (order T) set i g u ≡ false) → ((u : ℕ) → u < 16 → takes_over (order T) set i g u ≡ false)
            → (u : ℕ) → Has set u → (r u).state ≡ state.Valid
        rest a b c u h = shows u h (all u h)
          where
            shows : (v : ℕ) → Has set v → (r v).timestamp ≡ M → (r v).state ≡ state.Valid
            shows v k t = valid-else (r v) (false_from_ne_true (under_way (r v)) (λ z. false≢true (sym (a v (has-small set v k)) ∙ and_from (leads (order T) set i g v) (under_way (r v)) (yes-leads v k t) z)))
                (false_from_ne_true (is_invalid (r v)) (λ z. false≢true (sym (c v (has-small set v k)) ∙ and_from (leads (order T) set i g v) _ (yes-leads v k t) (rw (z, gone a b v k t)))))

            all : (v : ℕ) → Has set v → (r v).timestamp ≡ M
            all v k = at_most v k (subst (λ (t : Timestamp). NotAfter (order T) t (r v).timestamp) held (o.settled holder v hh k (state-is _ state.Valid (shows holder hh held))))

        third : ((u : ℕ) → u < 16 → goes_on (order T) set i g u ≡ false) → ((u : ℕ) → u < 16 → says_again (order T) set i g u ≡ false) → (c : Choice) → Picked 16 (takes_over (order T) set i g) c → Achieves (driven (order T) set i g c)
        third a b c (some d h e) = rw e (by-driver d (rw (h, or-true (says_again (order T) set i g d), or-true (goes_on (order T) set i g d))))
        third a b c (none_of f e) = rw e (all_hold (rest a b f))

        second : ((u : ℕ) → u < 16 → goes_on (order T) set i g u ≡ false) → (c : Choice) → Picked 16 (says_again (order T) set i g) c → Achieves (driven (order T) set i g (or_else c (first 16 (takes_over (order T) set i g))))
        second a c (some d h e) = rw e (by-driver d (rw (h, or-true (goes_on (order T) set i g d))))
        second a c (none_of f e) = rw e (third a f (first 16 (takes_over (order T) set i g)) (picked 16 (takes_over (order T) set i g)))

        start : (c : Choice) → Picked 16 (goes_on (order T) set i g) c → Achieves (driven (order T) set i g (or_else c (or_else (first 16 (says_again (order T) set i g)) (first 16 (takes_over (order T) set i g)))))
        start c (some d h e) = rw e (by-driver d (rw h))
        start c (none_of f e) = rw e (second f (first 16 (says_again (order T) set i g)) (picked 16 (says_again (order T) set i g)))

        go : (b : Bool) → all_show (order T) set i g ≡ b → Achieves (cond b [] (driven (order T) set i g (driver (order T) set i g)))
        go true q = all_hold (λ u h. is_state (r u).state state.Valid (implied (has set u) (is_valid (r u)) (all-at 16 (λ (x : ℕ). not (has set x) || is_valid (r x)) q u (has-small set u h)) h))
        go false q = start (first 16 (goes_on (order T) set i g)) (picked 16 (goes_on (order T) set i g))
