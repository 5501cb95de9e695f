-- One replica of the view, the driver, settles a record that it holds at the greatest timestamp M. The idea: its INV goes to those that it has not
-- counted, their ACKs come back, of which the last validates the record, and its VAL goes to those that do not show M yet.
use Prim.Native.Nat.{ℕ, suc, ◌+◌, ◌≤◌, ◌<◌}
use mathlib.Core.Path.{◌≡◌, refl, sym, ap, ◌∙◌}
use mathlib.Core.Bool.{Bool, true, false, cond, not, ◌&&◌, false≢true}
use mathlib.Core.Logic.{◌⊎◌, inl, inr, ◌≢◌}
use mathlib.Core.List.{List, [], ◌∷◌, ◌++◌}
use native.Mathlib.Omega.{arith}
use native.Mathlib.Decide.{ℕ_discrete}
use lib.Dec.{eqb}
use lib.ListN.{length}
use borrow.Author.Tests.{eqb-false, eq-eqb, ne_eqb, not-true}
use Rattle.hermes_record.specs.declared.timestamp.Timestamp.{Timestamp}
use Rattle.hermes_record.specs.declared.record.Record.{Record}
use Rattle.hermes_record.specs.declared.record.State.{State}
use Rattle.hermes_record.specs.declared.record.State.TheVariants as state
use Rattle.hermes.specs.declared.message.Message.TheVariants.{Inv, Ack, Val}
use Rattle.hermes.specs.declared.event.Event.TheVariants.{Deliver}
use Rattle.hermes_record.specs.Members.{has, count_below, others_in, with}
use Rattle.hermes_record.specs.Order.{TieOrder, later, NotAfter, equal}
use Rattle.hermes_record.specs.Record.{one_of}
use Rattle.hermes_record.proofs.Moves.{invalid-shown}
use Rattle.hermes.specs.Guards.{AllYes}
use Rattle.hermes.specs.Event.{Step, own, inv_step, ack_step, completes, send}
use Rattle.hermes.specs.Node.{record_of}
use Rattle.hermes.specs.Run.{deliver, Entry, by, Group, advance}
use Rattle.hermes.specs.Recipe.{each, under_way, is_valid, other, due}
use Rattle.std.proofs.lemmas.Bool.{and_parts, and_from, false_from_ne_true}
use Rattle.hermes.proofs.Members.{Has, has-small, others-members, members-others, with-members, members-with}
use Rattle.hermes_record.proofs.Order.{equal-same, not_after-antisym, not_after-total, later-apart}
use Rattle.hermes.proofs.Progress.{Task, order, self, Post, incoming, step_by, Alive, Did, did, delivers, Plays, none, one, next, for-each}

-- ---- the others of the view

pub other-yes : (set d u : ℕ) → other set d u ≡ true → Has set u × (u ≢ d)
other-yes set d u h = let (p, q) = and_parts (has set u) (not (eqb u d)) h in (p, eqb-false u d (not-true _ q))

pub yes-other : (set d u : ℕ) → Has set u → u ≢ d → other set d u ≡ true
yes-other set d u h n = rw (h, ne_eqb u d n)

pub due-yes : (set d acks u : ℕ) → due set d acks u ≡ true → (other set d u ≡ true) × (has acks u ≡ false)
due-yes set d acks u h = let (p, q) = and_parts (other set d u) (not (has acks u)) h in (p, not-true _ q)

-- every replica of the view is d, is counted or is due
which : (set d acks u : ℕ) → Has set u → (u ≡ d) ⊎ (Has acks u ⊎ (due set d acks u ≡ true))
which set d acks u h = go (ℕ_discrete u d) (has acks u) refl
  where
    go : Dec (u ≡ d) → (b : Bool) → has acks u ≡ b → (u ≡ d) ⊎ (Has acks u ⊎ (due set d acks u ≡ true))
    go (yes e) b q = inl e
    go (no n) true q = inr (inl q)
    go (no n) false q = inr (inr (rw (yes-other set d u h n, q)))

under-way-counts : (s : State) → one_of s (state.Write ∷ state.Replay ∷ []) ≡ true → one_of s (state.Write ∷ state.InvalidWrite ∷ state.Replay ∷ []) ≡ true
under-way-counts state.Valid h = h
under-way-counts state.Invalid h = h
under-way-counts state.InvalidWrite h = refl
under-way-counts state.Write h = refl
under-way-counts state.Replay h = refl

-- ---- the invariants of the three phases, with the driver d and the greatest timestamp M

-- the record of replica u
abbrev at : Task → Group → ℕ → Record
at T g u = record_of T.i (g.at u)

-- all show M valid
abbrev pub AllShow : Task → Timestamp → Group → Type 0
AllShow T M g = (u : ℕ) → Has T.set u → ((record_of T.i (g.at u)).state ≡ state.Valid) × ((record_of T.i (g.at u)).timestamp ≡ M)

-- of the others those that are late do not show M, and the rest do
pub record Shown (T : Task) (d : ℕ) (M : Timestamp) (late : ℕ → Bool) (g : Group) : Type 0 where
  pub no : (u : ℕ) → late u ≡ true → (record_of T.i (g.at u)).timestamp ≡ M → is_valid (record_of T.i (g.at u)) ≡ false
  pub yes : (u : ℕ) → Has T.set u → u ≢ d → late u ≡ false → ((record_of T.i (g.at u)).state ≡ state.Valid) × ((record_of T.i (g.at u)).timestamp ≡ M)

-- the INV, message m, has reached those below k that are due, while the driver's record is r; `acks` are those counted when it left
pub record Asked (T : Task) (d : ℕ) (M : Timestamp) (late : ℕ → Bool) (m acks : ℕ) (r : Record) (k : ℕ) (g : Group) : Type 0 where
  pub alive : Alive T g
  pub shown : Shown T d M late g
  pub driver : record_of T.i (g.at d) ≡ r
  pub inv : Post T g.log m d (Inv M)
  pub sent : length g.log ≡ m + 1 + count_below k (due T.set d acks)
  pub below : (u : ℕ) → Has T.set u → NotAfter (order T) (record_of T.i (g.at u)).timestamp M
  pub counted : (u : ℕ) → Has T.set u → Has acks u → (record_of T.i (g.at u)).timestamp ≡ M
  pub replied : (u : ℕ) → u < k → due T.set d acks u ≡ true → ((record_of T.i (g.at u)).timestamp ≡ M) × Post T g.log (m + 1 + count_below u (due T.set d acks)) u (Ack M)

-- the ACKs of those below k have come, and some are missing: the driver's record r
record Pending (set d : ℕ) (M : Timestamp) (acks k : ℕ) (r : Record) : Type 0 where
  working : under_way r ≡ true
  own : r.written ≡ M
  uncounted : (u : ℕ) → k ≤ u → due set d acks u ≡ true → has r.acks u ≡ false
  awaited : (u : ℕ) → Has set u → (u ≡ d) ⊎ (Has r.acks u ⊎ ((k ≤ u) × (due set d acks u ≡ true)))
  missing : others_in d set r.acks ≡ false

-- or the last has come, and the VAL, message v, has left
record Over (T : Task) (d : ℕ) (M : Timestamp) (v acks k : ℕ) (g : Group) : Type 0 where
  valid : (at T g d).state ≡ state.Valid
  val : Post T g.log v d (Val M)
  nobody : (u : ℕ) → k ≤ u → due T.set d acks u ≡ true → ⊥

record Heard (T : Task) (d : ℕ) (M : Timestamp) (late : ℕ → Bool) (m acks k : ℕ) (g : Group) : Type 0 where
  alive : Alive T g
  shown : Shown T d M late g
  stamps : (u : ℕ) → Has T.set u → (at T g u).timestamp ≡ M
  replies : (u : ℕ) → k ≤ u → due T.set d acks u ≡ true → Post T g.log (m + 1 + count_below u (due T.set d acks)) u (Ack M)
  driver : (Pending T.set d M acks k (at T g d) × (length g.log ≡ m + 1 + count_below 16 (due T.set d acks))) ⊎ Over T d M (m + 1 + count_below 16 (due T.set d acks)) acks k g

-- the VAL, message v, has reached those below k that are late
pub record Told (T : Task) (d : ℕ) (M : Timestamp) (late : ℕ → Bool) (v k : ℕ) (g : Group) : Type 0 where
  pub alive : Alive T g
  pub val : Post T g.log v d (Val M)
  pub stamps : (u : ℕ) → Has T.set u → (record_of T.i (g.at u)).timestamp ≡ M
  pub unshown : (u : ℕ) → k ≤ u → late u ≡ true → is_valid (record_of T.i (g.at u)) ≡ false
  pub valid : (u : ℕ) → Has T.set u → (late u ≡ false) ⊎ (u < k) → (record_of T.i (g.at u)).state ≡ state.Valid

module _ (T : Task) (inside : T.i < T.count) (ord : TieOrder (order T)) (d : ℕ) (hd : Has T.set d) (M : Timestamp) (low : M.tie ≤ 15)
    (late : ℕ → Bool) (lates : (u : ℕ) → late u ≡ true → Has T.set u × (u ≢ d)) where
  open T use {wins, e, set, i}

  -- questions 10 and 11 of a message from v to u
  ten : eqb e e ≡ true
  ten = eq-eqb e e refl

  eleven : (u v : ℕ) → Has set v → v ≢ u → (has set v && not (eqb v u)) ≡ true
  eleven u v h n = rw (h, ne_eqb v u n)

  -- ---- the VAL goes to those that are late
  module _ (v : ℕ) where
    tell-one : (k : ℕ) → k < 16 → (g : Group) → Told T d M late v k g → Plays T g (cond (late k) (by k (deliver v) ∷ []) []) (Told T d M late v (suc k))
    tell-one k l g p = go (late k) refl
      where
        go : (b : Bool) → late k ≡ b → Plays T g (cond b (by k (deliver v) ∷ []) []) (Told T d M late v (suc k))
        go false q = none T g (record { alive = p.alive; val = p.val; stamps = p.stamps; unshown = λ u t. p.unshown u (omega arith); valid = λ u h w. valid u h w (ℕ_discrete u k) })
          where
            valid : (u : ℕ) → Has set u → (late u ≡ false) ⊎ (u < suc k) → Dec (u ≡ k) → (at T g u).state ≡ state.Valid
            valid u h w (yes z) = p.valid u h (inl (rw z q))
            valid u h (inl w) (no n) = p.valid u h (inl w)
            valid u h (inr w) (no n) = p.valid u h (inr (omega arith))
        go true q = one T g (by k (deliver v)) hk (x.since, rw x.there) D.accepted (record {
          alive = D.alive;
          val = D.keeps v d (Val M) x;
          stamps = λ u t. stamp u t (ℕ_discrete u k);
          unshown = λ u t w. rw (D.others u (λ z. omega (arith, z))) (p.unshown u (omega arith) w);
          valid = λ u t z. valid u t z (ℕ_discrete u k);
        })
          where
            x : Post T g.log v d (Val M)
            x = p.val

            hk : Has set k
            hk = (lates k q).0

            asked : AllYes (own (self T k) (at T g k) (Deliver (incoming T d (Val M))) (length x.body))
            asked = (ten, (eleven k d hd (λ r. (lates k q).1 (sym r)), (x.shape, (rw (p.unshown k (omega arith) q, equal-same M (at T g k).timestamp (sym (p.stamps k hk))), tt))))

            D : Did T g (by k (deliver v)) (step_by T k (at T g k) (Deliver (incoming T d (Val M))) x.body)
            D = did T inside g p.alive k hk (deliver v) (Deliver (incoming T d (Val M))) x.body (delivers T g (g.at k) v d (Val M) x) asked

            stamp : (u : ℕ) → Has set u → Dec (u ≡ k) → (at T (advance wins g (by k (deliver v))) u).timestamp ≡ M
            stamp u t (yes r) = rw (r, D.here) (p.stamps k hk)
            stamp u t (no n) = rw (D.others u n) (p.stamps u t)

            valid : (u : ℕ) → Has set u → (late u ≡ false) ⊎ (u < suc k) → Dec (u ≡ k) → (at T (advance wins g (by k (deliver v))) u).state ≡ state.Valid
            valid u t z (yes r) = rw (r, D.here)
            valid u t (inl z) (no n) = rw (D.others u n) (p.valid u t (inl z))
            valid u t (inr z) (no n) = rw (D.others u n) (p.valid u t (inr (omega arith)))

    pub tells : (g : Group) → Told T d M late v 0 g → Plays T g (each 16 late (λ u. by u (deliver v))) (AllShow T M)
    tells g p = let r = for-each T late (λ u. by u (deliver v)) (Told T d M late v) tell-one 16 (omega arith) g p in
        record { help = r.help; then = λ u h. (r.then.valid u h (inr (has-small set u h)), r.then.stamps u h) }

  -- ---- the INV, message m, goes to those that are not counted; `acks` are those counted when it left
  module _ (m acks : ℕ) where
    -- the number of the ACK of u
    abbrev ack_of : ℕ → ℕ
    ack_of u = m + 1 + count_below u (due set d acks)

    -- whether it is greater or not, it leaves M there, and an ACK of M; and who then shows M has shown it before
    taken : (k : ℕ) (r : Record) (v : List ℕ) → NotAfter (order T) r.timestamp M → (b : Bool) → later (order T) M r.timestamp ≡ b
        → ((inv_step b (self T k) i r M d v).after.timestamp ≡ M) × ((inv_step b (self T k) i r M d v).sent ≡ send (self T k) i (Ack M))
        × (((r.timestamp ≢ M) × (is_valid (inv_step b (self T k) i r M d v).after ≡ false)) ⊎ ((r.timestamp ≡ M) × ((inv_step b (self T k) i r M d v).after ≡ r)))
    taken k r v h true q = (refl, refl, inl (later-apart (order T) ord M r.timestamp q, invalid-shown r.state))
    taken k r v h false q = let e = not_after-antisym (order T) ord h (not_after-total (order T) ord M r.timestamp q) in (e, refl, inr (e, refl))

    ask-one : (r : Record) (k : ℕ) → k < 16 → (g : Group) → Asked T d M late m acks r k g → Plays T g (cond (due set d acks k) (by k (deliver m) ∷ []) []) (Asked T d M late m acks r (suc k))
    ask-one r k l g p = go (due set d acks k) refl
      where
        go : (b : Bool) → due set d acks k ≡ b → Plays T g (cond b (by k (deliver m) ∷ []) []) (Asked T d M late m acks r (suc k))
        go false q = none T g (record {
          alive = p.alive;
          shown = p.shown;
          driver = p.driver;
          inv = p.inv;
          sent = rw q (omega (arith, p.sent));
          below = p.below;
          counted = p.counted;
          replied = λ u t w. replied u t w (ℕ_discrete u k);
        })
          where
            replied : (u : ℕ) → u < suc k → due set d acks u ≡ true → Dec (u ≡ k) → ((at T g u).timestamp ≡ M) × Post T g.log (ack_of u) u (Ack M)
            replied u t w (yes z) = absurd (false≢true (sym q ∙ (rw z at w)))
            replied u t w (no n) = p.replied u (omega arith) w
        go true q = one T g a hk (x.since, rw x.there) D.accepted (record {
          alive = D.alive;
          shown = record { no = λ u w z. unshown u w z (ℕ_discrete u k); yes = λ u h n w. still u h n w (ℕ_discrete u k) };
          driver = D.others d (λ z. apart (sym z)) ∙ p.driver;
          inv = D.keeps m d (Inv M) x;
          sent = rw q (D.longer _ _ t.1 ∙ omega (arith, p.sent));
          below = λ u t. below u t (ℕ_discrete u k);
          counted = λ u t w. counted u t w (ℕ_discrete u k);
          replied = λ u t w. replied u t w (ℕ_discrete u k);
        })
          where
            x : Post T g.log m d (Inv M)
            x = p.inv

            hk : Has set k
            hk = (other-yes set d k (due-yes set d acks k q).0).0

            apart : k ≢ d
            apart = (other-yes set d k (due-yes set d acks k q).0).1

            a : Entry
            a = by k (deliver m)

            s : Step
            s = step_by T k (at T g k) (Deliver (incoming T d (Inv M))) x.body

            D : Did T g a s
            D = did T inside g p.alive k hk (deliver m) (Deliver (incoming T d (Inv M))) x.body (delivers T g (g.at k) m d (Inv M) x)
                (ten, (eleven k d hd (λ z. apart (sym z)), (x.shape, tt)))

            t : (s.after.timestamp ≡ M) × (s.sent ≡ send (self T k) i (Ack M)) × ((((at T g k).timestamp ≢ M) × (is_valid s.after ≡ false)) ⊎ (((at T g k).timestamp ≡ M) × (s.after ≡ at T g k)))
            t = taken k (at T g k) x.body (p.below k hk) (later (order T) M (at T g k).timestamp) refl

            here : (at T (advance wins g a) k).timestamp ≡ M
            here = ap (λ (z : Record). z.timestamp) D.here ∙ t.0

            below : (u : ℕ) → Has set u → Dec (u ≡ k) → NotAfter (order T) (at T (advance wins g a) u).timestamp M
            below u h (yes z) = rw z (equal here)
            below u h (no n) = rw (D.others u n) (p.below u h)

            counted : (u : ℕ) → Has set u → Has acks u → Dec (u ≡ k) → (at T (advance wins g a) u).timestamp ≡ M
            counted u h w (yes z) = rw z here
            counted u h w (no n) = rw (D.others u n) (p.counted u h w)

            unshown : (u : ℕ) → late u ≡ true → (at T (advance wins g a) u).timestamp ≡ M → Dec (u ≡ k) → is_valid (at T (advance wins g a) u) ≡ false
            unshown u w z (no n) = rw (D.others u n) (p.shown.no u w (rw (D.others u n) at z))
            unshown u w z (yes y) = rw (y, D.here) (by_kind t.2)
              where
                by_kind : (((at T g k).timestamp ≢ M) × (is_valid s.after ≡ false)) ⊎ (((at T g k).timestamp ≡ M) × (s.after ≡ at T g k)) → is_valid s.after ≡ false
                by_kind (inl c) = c.1
                by_kind (inr (c, f)) = rw f (p.shown.no k (rw y at w) c)

            still : (u : ℕ) → Has set u → u ≢ d → late u ≡ false → Dec (u ≡ k) → ((at T (advance wins g a) u).state ≡ state.Valid) × ((at T (advance wins g a) u).timestamp ≡ M)
            still u h n w (no z) = rw (D.others u z) (p.shown.yes u h n w)
            still u h n w (yes y) = rw y (rw D.here (by_kind t.2), here)
              where
                -- it held M before
                was : ((at T g k).state ≡ state.Valid) × ((at T g k).timestamp ≡ M)
                was = p.shown.yes k hk (rw y at n) (rw y at w)

                by_kind : (((at T g k).timestamp ≢ M) × (is_valid s.after ≡ false)) ⊎ (((at T g k).timestamp ≡ M) × (s.after ≡ at T g k)) → s.after.state ≡ state.Valid
                by_kind (inl c) = absurd (c.0 was.1)
                by_kind (inr (c, f)) = rw f was.0

            replied : (u : ℕ) → u < suc k → due set d acks u ≡ true → Dec (u ≡ k) → ((at T (advance wins g a) u).timestamp ≡ M) × Post T (advance wins g a).log (ack_of u) u (Ack M)
            replied u h w (yes z) = rw z (here, rw p.sent at (D.left (Ack M) t.1 low))
            replied u h w (no n) = let b = p.replied u (omega arith) w in (rw (D.others u n) b.0, D.keeps (ack_of u) u (Ack M) b.1)

    -- ---- the ACKs come back

    -- the VAL's number
    abbrev val_of : ℕ
    val_of = m + 1 + count_below 16 (due set d acks)

    hear-one : (k : ℕ) → k < 16 → (g : Group) → Heard T d M late m acks k g → Plays T g (cond (due set d acks k) (by d (deliver (ack_of k)) ∷ []) []) (Heard T d M late m acks (suc k))
    hear-one k l g p = go (due set d acks k) refl p.driver
      where
        go : (b : Bool) → due set d acks k ≡ b → (Pending set d M acks k (at T g d) × (length g.log ≡ val_of)) ⊎ Over T d M val_of acks k g
            → Plays T g (cond b (by d (deliver (ack_of k)) ∷ []) []) (Heard T d M late m acks (suc k))
        go false q s = none T g (record { alive = p.alive; shown = p.shown; stamps = p.stamps; replies = λ u t. p.replies u (omega arith); driver = on s })
          where
            wait : (u : ℕ) → (u ≡ d) ⊎ (Has (at T g d).acks u ⊎ ((k ≤ u) × (due set d acks u ≡ true))) → Dec (u ≡ k) → (u ≡ d) ⊎ (Has (at T g d).acks u ⊎ ((suc k ≤ u) × (due set d acks u ≡ true)))
            wait u (inl w) z = inl w
            wait u (inr (inl w)) z = inr (inl w)
            wait u (inr (inr (w, t))) (yes z) = absurd (false≢true (sym q ∙ (rw z at t)))
            wait u (inr (inr (w, t))) (no n) = inr (inr (omega arith, t))

            on : (Pending set d M acks k (at T g d) × (length g.log ≡ val_of)) ⊎ Over T d M val_of acks k g → (Pending set d M acks (suc k) (at T g d) × (length g.log ≡ val_of)) ⊎ Over T d M val_of acks (suc k) g
            on (inl (w, n)) = inl (record { working = w.working; own = w.own; uncounted = λ u t. w.uncounted u (omega arith); awaited = λ u t. wait u (w.awaited u t) (ℕ_discrete u k); missing = w.missing }, n)
            on (inr w) = inr (record { valid = w.valid; val = w.val; nobody = λ u t. w.nobody u (omega arith) })
        go true q (inr w) = absurd (w.nobody k (omega arith) q)
        go true q (inl (w, number)) = one T g a hd (x.since, rw x.there) D.accepted (record {
          alive = D.alive;
          shown = record {
            no = λ u h z. let n = (lates u h).1 in rw (D.others u n) (p.shown.no u h (rw (D.others u n) at z));
            yes = λ u h n z. rw (D.others u n) (p.shown.yes u h n z);
          };
          stamps = λ u t. stamp u t (ℕ_discrete u d);
          replies = λ u t z. D.keeps (ack_of u) u (Ack M) (p.replies u (omega arith) z);
          driver = driver (completes (self T d) r k) refl;
        })
          where
            x : Post T g.log (ack_of k) k (Ack M)
            x = p.replies k (omega arith) q

            r : Record
            r = at T g d

            hk : Has set k
            hk = (other-yes set d k (due-yes set d acks k q).0).0

            apart : k ≢ d
            apart = (other-yes set d k (due-yes set d acks k q).0).1

            a : Entry
            a = by d (deliver (ack_of k))

            s : Bool → Step
            s b = ack_step b (self T d) i r k

            D : Did T g a (s (completes (self T d) r k))
            D = did T inside g p.alive d hd (deliver (ack_of k)) (Deliver (incoming T k (Ack M))) x.body (delivers T g (g.at d) (ack_of k) k (Ack M) x)
                (ten, (eleven d k hk apart, (x.shape, (rw (under-way-counts r.state w.working, equal-same M r.written (sym w.own), w.uncounted k (omega arith) q), tt))))

            same-stamp : (b : Bool) → (s b).after.timestamp ≡ r.timestamp
            same-stamp true = refl
            same-stamp false = refl

            stamp : (u : ℕ) → Has set u → Dec (u ≡ d) → (at T (advance wins g a) u).timestamp ≡ M
            stamp u t (yes z) = rw (z, D.here) (same-stamp (completes (self T d) r k) ∙ p.stamps d hd)
            stamp u t (no n) = rw (D.others u n) (p.stamps u t)

            -- who is due from here on is not counted
            counted : (u : ℕ) → suc k ≤ u → due set d acks u ≡ true → Has r.acks u ⊎ (u ≡ k) → ⊥
            counted u t z (inl h) = false≢true (sym (w.uncounted u (omega arith) z) ∙ h)
            counted u t z (inr h) = omega arith

            driver : (b : Bool) → completes (self T d) r k ≡ b → (Pending set d M acks (suc k) (at T (advance wins g a) d) × (length (advance wins g a).log ≡ val_of)) ⊎ Over T d M val_of acks (suc k) (advance wins g a)
            driver true c = inr (record {
              valid = rw (D.here, c);
              val = rw number at (D.left (Val M) (rw (c, p.stamps d hd)) low);
              nobody = λ u t z. last u t z (others-members d set (with r.acks k) (and_parts (under_way r) (others_in d set (with r.acks k)) c).1 u (other-yes set d u (due-yes set d acks u z).0).0);
            })
              where
                last : (u : ℕ) → suc k ≤ u → due set d acks u ≡ true → (u ≡ d) ⊎ Has (with r.acks k) u → ⊥
                last u t z (inl h) = (other-yes set d u (due-yes set d acks u z).0).1 h
                last u t z (inr h) = counted u t z (with-members r.acks k u h)
            driver false c = inl (
              rw (D.here, c) (record {
                working = w.working;
                own = w.own;
                uncounted = λ u t z. false_from_ne_true _ (λ h. counted u t z (with-members r.acks k u h));
                awaited = λ u t. wait u (w.awaited u t) (ℕ_discrete u k);
                missing = false_from_ne_true _ (λ h. false≢true (sym c ∙ and_from (under_way r) (others_in d set (with r.acks k)) w.working h));
              }),
              D.silent (rw c) ∙ number,
            )
              where
                wait : (u : ℕ) → (u ≡ d) ⊎ (Has r.acks u ⊎ ((k ≤ u) × (due set d acks u ≡ true))) → Dec (u ≡ k) → (u ≡ d) ⊎ (Has (with r.acks k) u ⊎ ((suc k ≤ u) × (due set d acks u ≡ true)))
                wait u (inl h) z = inl h
                wait u (inr (inl h)) z = inr (inl (members-with r.acks k u l (inl h)))
                wait u (inr (inr h)) (yes z) = inr (inl (members-with r.acks k u l (inr z)))
                wait u (inr (inr (h, t))) (no n) = inr (inr (omega arith, t))

    -- ---- the three together
    pub asks : (r : Record) (g : Group) → Asked T d M late m acks r 0 g → r.acks ≡ acks → under_way r ≡ true → r.timestamp ≡ M → r.written ≡ M → others_in d set acks ≡ false
        → Plays T g (each 16 (due set d acks) (λ u. by u (deliver m)) ++ each 16 (due set d acks) (λ u. by d (deliver (ack_of u))) ++ each 16 late (λ u. by u (deliver val_of))) (AllShow T M)
    asks r g p same o t w n =
        next T (next T (for-each T (due set d acks) (λ u. by u (deliver m)) (Asked T d M late m acks r) (ask-one r) 16 (omega arith) g p)
        (λ f q. for-each T (due set d acks) (λ u. by d (deliver (ack_of u))) (Heard T d M late m acks) hear-one 16 (omega arith) f (heard f q)))
        (λ f q. tells val_of f (told f q q.driver))
      where
        heard : (f : Group) → Asked T d M late m acks r 16 f → Heard T d M late m acks 0 f
        heard f q = record {
          alive = q.alive;
          shown = q.shown;
          stamps = λ u h. stamp u h (which set d acks u h);
          replies = λ u l z. (q.replied u (has-small set u (other-yes set d u (due-yes set d acks u z).0).0) z).1;
          driver = inl (
            rw q.driver (record {
              working = o;
              own = w;
              uncounted = λ u l z. rw same (due-yes set d acks u z).1;
              awaited = λ u h. rw same (wait u (which set d acks u h));
              missing = rw same n;
            }),
            q.sent,
          );
        }
          where
            stamp : (u : ℕ) → Has set u → (u ≡ d) ⊎ (Has acks u ⊎ (due set d acks u ≡ true)) → (at T f u).timestamp ≡ M
            stamp u h (inl z) = rw (z, q.driver) t
            stamp u h (inr (inl z)) = q.counted u h z
            stamp u h (inr (inr z)) = (q.replied u (has-small set u h) z).0

            wait : (u : ℕ) → (u ≡ d) ⊎ (Has acks u ⊎ (due set d acks u ≡ true)) → (u ≡ d) ⊎ (Has acks u ⊎ ((0 ≤ u) × (due set d acks u ≡ true)))
            wait u (inl z) = inl z
            wait u (inr (inl z)) = inr (inl z)
            wait u (inr (inr z)) = inr (inr (omega arith, z))

        told : (f : Group) → Heard T d M late m acks 16 f → (Pending set d M acks 16 (at T f d) × (length f.log ≡ val_of)) ⊎ Over T d M val_of acks 16 f → Told T d M late val_of 0 f
        told f q (inl (z, y)) = absurd (false≢true (sym z.missing ∙ members-others d set (at T f d).acks (λ u h. all u h (z.awaited u h))))
          where
            all : (u : ℕ) → Has set u → (u ≡ d) ⊎ (Has (at T f d).acks u ⊎ ((16 ≤ u) × (due set d acks u ≡ true))) → (u ≡ d) ⊎ Has (at T f d).acks u
            all u h (inl y) = inl y
            all u h (inr (inl y)) = inr y
            all u h (inr (inr (y, x))) = absurd (omega (arith, has-small set u h))
        told f q (inr z) = record {
          alive = q.alive;
          val = z.val;
          stamps = q.stamps;
          unshown = λ u l h. q.shown.no u h (q.stamps u (lates u h).0);
          valid = λ u h y. valid u h y (ℕ_discrete u d);
        }
          where
            valid : (u : ℕ) → Has set u → (late u ≡ false) ⊎ (u < 0) → Dec (u ≡ d) → (at T f u).state ≡ state.Valid
            valid u h y (yes w) = rw w z.valid
            valid u h (inl y) (no n) = (q.shown.yes u h n y).0
            valid u h (inr y) (no n) = absurd (omega arith)
