-- Demand 3: agreement over every list of entries of a group. The idea: the invariant of the protocol holds of every record once all
-- have started fresh, and each entry keeps it.
use Prim.Native.Nat.{ℕ, ◌<◌}
use mathlib.Core.Path.{◌≡◌, refl, sym, ap, ap₂, subst, ◌∙◌}
use mathlib.Core.Bool.{Bool, true, false, cond, false≢true}
use mathlib.Core.Logic.{◌⊎◌, ◌≢◌}
use mathlib.Core.List.Memᴰ
use mathlib.Core.List.{List, [], ◌∷◌, ◌++◌}
use native.Mathlib.Omega.{arith}
use native.Mathlib.Decide.{ℕ_discrete}
use lib.ListN.{length, get_or-replicate}
use borrow.Author.Tests.{eq-eqb, ne_eqb}
use Rattle.hermes_record.specs.declared.record.Record.{Record}
use Rattle.hermes_record.specs.declared.record.State.{State}
use Rattle.hermes_record.specs.declared.record.State.TheVariants.{Valid}
use Rattle.hermes.specs.declared.event.Replica.{Replica}
use Rattle.hermes.specs.declared.event.Settings.{Settings}
use Rattle.hermes.specs.declared.event.Event.{Event}
use Rattle.hermes.specs.declared.event.Event.TheVariants.{Deliver, Validate}
use Rattle.hermes_record.specs.Members.{lowest}
use Rattle.hermes_record.specs.Order.{ties, Orders, TieOrder, NotAfter}
use Rattle.hermes.specs.Settings.{under}
use Rattle.hermes_record.specs.Record.{one_of, fresh_record}
use Rattle.hermes.specs.Store.{slot, padded}
use Rattle.hermes.specs.Event.{number_of}
use Rattle.hermes.specs.Node.{Node, record_of, apply, newcomer}
use Rattle.hermes.specs.Run.{Entry, Group, received, node_after, result, advance, run}
use Rattle.hermes.specs.Agreement.{FreshStart, Started, AsIssued, Entries, Sees, Shows, Alike, Validation, validates, acknowledges, Agreement, Demand3Any, Demand3}
use Rattle.hermes.proofs.Members.{has-zero}
use Rattle.hermes_record.proofs.Order.{ties-order, not_after-refl, not_after-trans, not_after-antisym}
use Rattle.hermes.proofs.Store.{zeros, slot-zero}
use Rattle.hermes.proofs.Start.{sized, Begun, begun}
use Rattle.hermes.proofs.Apply.{step_of, changed, was-accepted}
use Rattle.hermes.proofs.Protocol as protocol
use Rattle.hermes.proofs.Protocol.{Copy, Msg, Move, Honest, Invariant, Step, preserve, rises, same-cells}
use Rattle.hermes.proofs.Standing.{Standing, standing, stands-first}
use Rattle.hermes.proofs.Refine.{Cell, clean-cell, setting, copy, copy_of, Known, Refined, refined}

-- ---- lists of entries

pub run-append : (wins : Orders) (g : Group) (xs ys : List Entry) → run wins g (xs ++ ys) ≡ run wins (run wins g xs) ys
run-append wins g [] ys = refl
run-append wins g (x ∷ xs) ys = run-append wins (advance wins g x) xs ys

pub entries-append : (member : ℕ → Bool) (issued : ℕ → ℕ) (xs ys : List Entry) → Entries member issued (xs ++ ys) → Entries member issued xs × Entries member issued ys
entries-append member issued [] ys c = (tt, c)
entries-append member issued (x ∷ xs) ys c = let (p, q) = entries-append member issued xs ys c.2 in ((c.0, c.1, p), q)

module _ (wins : Orders) (g : Group) (a : Entry) where
  pub at-who : (advance wins g a).at a.who ≡ node_after (result wins g a) (g.at a.who)
  unfolding advance
  at-who = rw (eq-eqb a.who a.who refl)

  pub at_other : (m : ℕ) → m ≢ a.who → (advance wins g a).at m ≡ g.at m
  unfolding advance
  at_other m d = rw (ne_eqb m a.who d)

-- ---- what a validation leaves of its record

record Finished (i : ℕ) (n n' : Node) : Type 0 where
  valid : (copy i n').valid ≡ true
  timestamp : (copy i n').timestamp ≡ (record_of i n).timestamp
  view : (copy i n').view ≡ n.me.view

-- an accepted event whose step makes the record valid and keeps its timestamp
finishes : (wins : Orders) (i : ℕ) (n : Node) (ev : Event) (v : List ℕ)
    → (step_of wins n i ev v).after.state ≡ Valid → (step_of wins n i ev v).after.timestamp ≡ (record_of i n).timestamp
    → number_of (apply wins n i ev v).answer ≡ 0 → Finished i n (apply wins n i ev v).node
finishes wins i n ev v p t a =
    let (y, q) = was-accepted wins n i ev v a in
    let c = changed wins n i ev v y in
    rw q (record {
      valid = ap (λ (s : Record). one_of s.state (Valid ∷ [])) c.here ∙ ap (λ (s : State). one_of s (Valid ∷ [])) p;
      timestamp = ap (λ (s : Record). s.timestamp) c.here ∙ t;
      view = refl;
    })

module _ (wins : Orders) (settings : Settings) (ord : TieOrder (under wins settings)) (member : ℕ → Bool) (count : ℕ) (issued : ℕ → ℕ) where
  -- a number that no replica has stands as a fresh one that never moves
  absent : Copy Cell
  absent = copy_of (newcomer 0 (issued 0) settings) (fresh_record (lowest (issued 0))) (zeros 192)

  pub copies : ℕ → Group → ℕ → Copy Cell
  copies i g k = cond (member k) (copy i (g.at k)) absent

  pub copies-member : (i : ℕ) (g : Group) (k : ℕ) → member k ≡ true → copies i g k ≡ copy i (g.at k)
  unfolding copies
  copies-member i g k e = rw e

  pub record Ok (g : Group) : Type 0 where
    pub numbers : (k : ℕ) → member k ≡ true → (g.at k).me.number ≡ k
    pub fixed : (k : ℕ) → member k ≡ true → (g.at k).me.settings ≡ settings
    pub holds : (i : ℕ) → i < count → Invariant (setting wins settings issued) (copies i g) (Known i g.log)
    pub stands : (i : ℕ) → i < count → Standing (setting wins settings issued) (copies i g) (Known i g.log)

  -- ---- one entry
  module _ (g : Group) (ok : Ok g) (a : Entry) (mem : member a.who ≡ true) (due : AsIssued issued a.what) where
    fine : (i : ℕ) → Refined wins settings issued g.log i (g.at a.who) (result wins g a)
    unfolding result
    fine = refined wins settings ord issued g.log (g.at a.who) (ok.fixed a.who mem) a.what due

    number : (node_after (result wins g a) (g.at a.who)).me.number ≡ a.who
    number = (fine 0).number ∙ ok.numbers a.who mem

    here : (i : ℕ) → copies i (advance wins g a) a.who ≡ copy i (node_after (result wins g a) (g.at a.who))
    here i = copies-member i (advance wins g a) a.who mem ∙ ap (copy i) (at-who wins g a)

    elsewhere : (i m : ℕ) → m ≢ a.who → copies i (advance wins g a) m ≡ copies i g m
    unfolding copies
    elsewhere i m d = rw (at_other wins g a m d)

    left : (i : ℕ) (p : Msg Cell) → Known i (advance wins g a).log p → Known i g.log p ⊎ Honest (setting wins settings issued) a.who (copies i (advance wins g a) a.who) p
    unfolding advance
    left i p k = rw (here i) (subst (λ (x : ℕ). Known i g.log p ⊎ Honest (setting wins settings issued) x (copy i (node_after (result wins g a) (g.at a.who))) p) (ok.numbers a.who mem) ((fine i).left p k))

    one-step : (i : ℕ) → Step (setting wins settings issued) (copies i g) (copies i (advance wins g a)) (Known i g.log) (Known i (advance wins g a).log)
    one-step i = record {
      who = a.who;
      move = rw (copies-member i g a.who mem, here i) (subst (λ (x : ℕ). Move (setting wins settings issued) x (Known i g.log) (copy i (g.at a.who)) (copy i (node_after (result wins g a) (g.at a.who)))) (ok.numbers a.who mem) (fine i).moves);
      others = elsewhere i;
      left = left i;
    }

    next-ok : Ok (advance wins g a)
    next-ok = record { numbers = λ m k. go m k (ℕ_discrete m a.who); fixed = λ m k. same m k (ℕ_discrete m a.who); holds = λ i h. preserve (setting wins settings issued) ord (one-step i) (ok.holds i h); stands = λ i h. standing (setting wins settings issued) ord (one-step i) (ok.stands i h) }
      where
        go : (m : ℕ) → member m ≡ true → Dec (m ≡ a.who) → ((advance wins g a).at m).me.number ≡ m
        go m k (yes e) = rw (e, at-who wins g a) number
        go m k (no d) = rw (at_other wins g a m d) (ok.numbers m k)

        same : (m : ℕ) → member m ≡ true → Dec (m ≡ a.who) → ((advance wins g a).at m).me.settings ≡ settings
        same m k (yes e) = rw (e, at-who wins g a) ((fine 0).fixed ∙ ok.fixed a.who mem)
        same m k (no d) = rw (at_other wins g a m d) (ok.fixed m k)

  -- ---- every list
  pub run_ok : (g : Group) → Ok g → (entries : List Entry) → Entries member issued entries → Ok (run wins g entries)
  run_ok g ok [] c = ok
  run_ok g ok (a ∷ rest) c = run_ok (advance wins g a) (next-ok g ok a c.0 c.1) rest c.2

  pub run-rises : (g : Group) → Ok g → (entries : List Entry) → Entries member issued entries → (i m : ℕ) → NotAfter (under wins settings) (copies i g m).timestamp (copies i (run wins g entries) m).timestamp
  run-rises g ok [] c i m = not_after-refl (under wins settings) (copies i g m).timestamp
  run-rises g ok (a ∷ rest) c i m =
      not_after-trans (under wins settings) ord (rises (setting wins settings issued) ord (one-step g ok a c.0 c.1 i) m) (run-rises (advance wins g a) (next-ok g ok a c.0 c.1) rest c.2 i m)

  -- who has kept its timestamp has kept its text
  pub run-cells : (g : Group) → Ok g → (entries : List Entry) → Entries member issued entries → (i m : ℕ) → (copies i (run wins g entries) m).timestamp ≡ (copies i g m).timestamp
      → (copies i (run wins g entries) m).cell ≡ (copies i g m).cell
  run-cells g ok [] c i m e = refl
  run-cells g ok (a ∷ rest) c i m e = run-cells (advance wins g a) ok2 rest c.2 i m (e ∙ sym still) ∙ same-cells (setting wins settings issued) ord st m still
    where
      ok2 : Ok (advance wins g a)
      ok2 = next-ok g ok a c.0 c.1

      st : Step (setting wins settings issued) (copies i g) (copies i (advance wins g a)) (Known i g.log) (Known i (advance wins g a).log)
      st = one-step g ok a c.0 c.1 i

      still : (copies i (advance wins g a) m).timestamp ≡ (copies i g m).timestamp
      still = not_after-antisym (under wins settings) ord (rw e at (run-rises (advance wins g a) ok2 rest c.2 i m)) (rises (setting wins settings issued) ord st m)

  -- ---- the start
  module _ (g : Group) (s : Started member count issued settings g) where
    starts : (k : ℕ) (e : member k ≡ true) → Begun k (issued 0) settings (s.fresh k e).table (s.fresh k e).store (g.at k).me
    starts k e = begun k (issued 0) settings (s.fresh k e).table (s.fresh k e).store (g.at k).me (s.fresh k e).accepted

    all-absent : (i : ℕ) → i < count → (k : ℕ) → copies i g k ≡ absent
    unfolding copies absent
    all-absent i h k = go (member k) refl
      where
        go : (b : Bool) → member k ≡ b → cond b (copy i (g.at k)) (copy_of (newcomer 0 (issued 0) settings) (fresh_record (lowest (issued 0))) (zeros 192))
            ≡ copy_of (newcomer 0 (issued 0) settings) (fresh_record (lowest (issued 0))) (zeros 192)
        go false e = refl
        go true e = ap (λ (me : Replica). copy_of me (record_of i (g.at k)) (slot i (g.at k).store)) b.identity ∙ ap₂ (copy_of (newcomer k (issued 0) settings)) p q
          where
            f : FreshStart count issued settings k (g.at k)
            f = s.fresh k e

            b : Begun k (issued 0) settings f.table f.store (g.at k).me
            b = starts k e

            p : record_of i (g.at k) ≡ fresh_record (lowest (issued 0))
            p = rw (f.table_after, b.table_after) (get_or-replicate (length f.table) i _ _ (omega (arith, f.records)))

            q : slot i (g.at k).store ≡ zeros 192
            q = rw (f.store_after, b.store_after) (slot-zero i (length f.store) (omega (arith, f.records, sized (length f.table) (length f.store) b.asked.1.0)))

    pub start-ok : Ok g
    unfolding absent padded
    start-ok = record {
      numbers = λ k e. ap (λ (me : Replica). me.number) (starts k e).identity;
      fixed = λ k e. ap (λ (me : Replica). me.settings) (starts k e).identity;
      holds = λ i h. protocol.initially (setting wins settings issued) ord absent refl (clean-cell []) refl (λ m t. false≢true (sym (has-zero m) ∙ t)) refl
          (copies i g) (all-absent i h) (Known i g.log) (λ p t. Memᴰ.not-nil (rw s.silent at t.1));
      stands = λ i h. stands-first (setting wins settings issued) ord absent refl refl
          (copies i g) (all-absent i h) (Known i g.log) (λ p t. Memᴰ.not-nil (rw s.silent at t.1));
    }

  -- ---- validations
  finished : (g : Group) (a : Entry) (i : ℕ) → Validation wins g a i → Finished i (g.at a.who) (node_after (result wins g a) (g.at a.who))
  unfolding result
  finished g a i (validates e z) = rw e (finishes wins i (g.at a.who) Validate [] refl refl (rw e at z))
  finished g a i (acknowledges k x t e f j m c z) =
      rw (e, f, j) (finishes wins i (g.at a.who) (Deliver (received x)) x.body (rw (m, c)) (rw (m, c)) (rw (e, f, j) at z))

  -- once a replica has validated, its view has reached the validated timestamp, and keeps it
  reached : (g : Group) → Ok g → (i m : ℕ) → i < count → (a : Entry) (rest : List Entry) → Entries member issued (a ∷ rest)
      → Validation wins g a i → Sees (g.at a.who) m
      → NotAfter (under wins settings) (record_of i (g.at a.who)).timestamp (copies i (run wins g (a ∷ rest)) m).timestamp
  reached g ok i m h a rest c z hm =
      not_after-trans (under wins settings) ord
      (rw (ap (λ (b : Copy Cell). b.timestamp) v ∙ f.timestamp) at
      (((ok2.holds i h).copies a.who).settled (ap (λ (b : Copy Cell). b.valid) v ∙ f.valid) m (rw (ap (λ (b : Copy Cell). b.view) v ∙ f.view) hm)))
      (run-rises (advance wins g a) ok2 rest c.2 i m)
    where
      f : Finished i (g.at a.who) (node_after (result wins g a) (g.at a.who))
      f = finished g a i z

      ok2 : Ok (advance wins g a)
      ok2 = next-ok g ok a c.0 c.1

      v : copies i (advance wins g a) a.who ≡ copy i (node_after (result wins g a) (g.at a.who))
      v = here g ok a c.0 c.1 i

  -- ---- the claim
  shown : (i : ℕ) (n : Node) → Shows n i → (copy i n).valid ≡ true
  shown i n e = ap (λ (s : State). one_of s (Valid ∷ [])) e

  claim : (g : Group) → Started member count issued settings g → (entries : List Entry) → Entries member issued entries → Agreement wins member count settings g entries
  claim g s entries c = record { alike = alike; lasting = lasting }
    where
      end : Group
      end = run wins g entries

      ok : Ok end
      ok = run_ok g (start-ok g s) entries c

      alike : (i k m : ℕ) → i < count → member k ≡ true → member m ≡ true → Sees (end.at k) m → Sees (end.at m) k → Shows (end.at k) i → Shows (end.at m) i
          → Alike i (end.at k) (end.at m)
      alike i k m h ek em hm hk vk vm =
          let pk : copies i end k ≡ copy i (end.at k) = copies-member i end k ek in
          let pm : copies i end m ≡ copy i (end.at m) = copies-member i end m em in
          let r : ((copy i (end.at k)).timestamp ≡ (copy i (end.at m)).timestamp) × ((copy i (end.at k)).cell ≡ (copy i (end.at m)).cell) =
          rw (pk, pm) at (protocol.agree (setting wins settings issued) ord (ok.holds i h) k m (rw pk hm) (rw pm hk) (rw pk (shown i (end.at k) vk)) (rw pm (shown i (end.at m) vm))) in
          record { timestamps = r.0; lengths = ap (λ (x : Cell). x.len) r.1; bytes = ap (λ (x : Cell). x.bytes) r.1 }

      lasting : (i m : ℕ) (before rest : List Entry) (a : Entry) → i < count → member m ≡ true → entries ≡ before ++ a ∷ rest → Validation wins (run wins g before) a i
          → Sees ((run wins g before).at a.who) m → Shows (end.at m) i → NotAfter (under wins settings) (record_of i ((run wins g before).at a.who)).timestamp (record_of i (end.at m)).timestamp
      lasting i m before rest a h em e z hm vm =
          rw (← ap (λ (b : Copy Cell). b.timestamp) (copies-member i end m em), e, run-append wins g before (a ∷ rest))
          (reached (run wins g before) (run_ok g (start-ok g s) before parts.0) i m h a rest parts.1 z hm)
        where
          parts : Entries member issued before × Entries member issued (a ∷ rest)
          parts = entries-append member issued before (a ∷ rest) (rw e at c)

-- ---- the theorems

-- over every strict total order of ties
pub agreement-by : Demand3Any
agreement-by wins ord member count issued settings = claim wins settings (ord settings.rule) member count issued

-- demand 3
pub agreement : Demand3
agreement = agreement-by ties ties-order
