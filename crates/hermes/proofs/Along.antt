-- What every accepted event keeps of its record holds along every list of entries. Here is what an event makes of its record, case by case, and the
-- record that a list begins with; who has shown that the cases keep something need not look at lists.
use Prim.Native.Nat.{ℕ, zero, suc, ◌+◌, ◌<◌}
use mathlib.Core.Path.{◌≡◌, refl, sym, subst}
use mathlib.Core.Bool.{Bool, true, false, false≢true}
use mathlib.Core.Logic.{◌≢◌}
use mathlib.Core.List.{List, [], ◌∷◌}
use native.Mathlib.Omega.{arith}
use native.Mathlib.Decide.{ℕ_discrete}
use lib.ListN.{length, get_or-replicate}
use borrow.Author.Tests.{eqb-false}
use Rattle.hermes_record.specs.declared.timestamp.Timestamp.{Timestamp}
use Rattle.hermes_record.specs.declared.record.Record.{Record}
use Rattle.hermes_record.specs.declared.record.State.{State}
use Rattle.hermes_record.specs.declared.record.State.TheVariants as state
use Rattle.hermes.specs.declared.message.Message.{Message}
use Rattle.hermes.specs.declared.message.Message.TheVariants.{Inv, Ack, Val}
use Rattle.hermes.specs.declared.event.Replica.{Replica}
use Rattle.hermes.specs.declared.event.Settings.{Settings}
use Rattle.hermes.specs.declared.event.Event.{Event}
use Rattle.hermes.specs.declared.event.Event.TheVariants.{Read, Ask, Write, Commit, Replay, Deliver, Validate, Resend}
use Rattle.hermes_record.specs.Members.{lowest}
use Rattle.hermes_record.specs.Order.{Orders, later}
use Rattle.hermes.specs.Settings.{under}
use Rattle.hermes_record.specs.Record.{one_of, next_version, written_by, replayed, invalidated, acknowledged, validated, fresh_record}
use Rattle.hermes.specs.Guards.{AllYes, first_no, question1}
use Rattle.hermes.specs.Event.{Step, own, inv_step, ack_step, completes, deliver_step, step}
use Rattle.hermes.specs.Node.{Node, Outcome, record_of, apply, identity, admission_of, view_questions, view, viewed}
use Rattle.hermes.specs.Run as run
use Rattle.hermes.specs.Run.{Action, Entry, Group, Found, find, received, node_after, perform, delivery, result, advance}
use Rattle.hermes.specs.Agreement.{FreshStart, Started, after}
use Rattle.hermes.proofs.Guards.{deliver-own, replay-own}
use Rattle.hermes.proofs.Steps.{next-version}
use Rattle.hermes.proofs.Apply.{step_of, done, Applied, refused, accepted, applied, its_own}
use Rattle.hermes.proofs.Start.{Begun, begun}
use Rattle.hermes.proofs.Agreement.{at-who, at_other}

-- the record that a list begins with
pub fresh-record : (member : ℕ → Bool) (count : ℕ) (issued : ℕ → ℕ) (settings : Settings) (g : Group) → Started member count issued settings g
    → (i k : ℕ) → i < count → member k ≡ true → record_of i (g.at k) ≡ fresh_record (lowest (issued 0))
fresh-record member count issued settings g s i k l m = rw (f.table_after, b.table_after) (get_or-replicate (length f.table) i _ _ (omega (arith, f.records)))
  where
    f : FreshStart count issued settings k (g.at k)
    f = s.fresh k m

    b : Begun k (issued 0) settings f.table f.store (g.at k).me
    b = begun k (issued 0) settings f.table f.store (g.at k).me f.accepted

-- ---- one event

-- what an accepted event of replica me makes of its record r; `wins` is the order of ties of its group
pub data Becomes (wins : ℕ → ℕ → Bool) (me : Replica) (r b : Record) : Type 0 where
  same : b ≡ r → Becomes wins me r b
  writes : (n : ℕ) → next_version r.timestamp.version ≡ r.timestamp.version + 1 → b ≡ written_by r me.number n → Becomes wins me r b
  replays : r.state ≢ state.Valid → b ≡ replayed r me.number → Becomes wins me r b
  invalidates : (t : Timestamp) (sender n : ℕ) → later wins t r.timestamp ≡ true → sender ≢ me.number → b ≡ invalidated r t sender n → Becomes wins me r b
  counts : (sender : ℕ) → completes me r sender ≡ false → b ≡ acknowledged r sender → Becomes wins me r b
  settles : (sender : ℕ) → b ≡ validated (acknowledged r sender) → Becomes wins me r b
  validates : b ≡ validated r → Becomes wins me r b

module _ (wins : Orders) (me : Replica) (i : ℕ) (r : Record) (v : List ℕ) where
  abbrev order : ℕ → ℕ → Bool
  order = under wins me.settings

  delivered : (sender : ℕ) (m : Message) → sender ≢ me.number → Becomes order me r (deliver_step wins me i r sender m v).after
  delivered sender (Inv t) d = go (later order t r.timestamp) refl
    where
      go : (l : Bool) → later order t r.timestamp ≡ l → Becomes order me r (inv_step l me i r t sender v).after
      go true l = invalidates t sender (length v) l d refl
      go false l = same refl
  delivered sender (Ack t) d = go (completes me r sender) refl
    where
      go : (c : Bool) → completes me r sender ≡ c → Becomes order me r (ack_step c me i r sender).after
      go true c = settles sender refl
      go false c = counts sender c refl
  delivered sender (Val t) d = validates refl

  becomes : (e : Event) → AllYes (own me r e (length v)) → Becomes order me r (step wins me i r e v).after
  becomes Read y = same refl
  becomes Ask y = same refl
  becomes Write y = writes (length v) (next-version r.timestamp.version y.1.1.0) refl
  becomes (Commit t) y = writes (length v) (next-version r.timestamp.version y.1.1.0) refl
  becomes Replay y =
      replays (λ e. false≢true (subst (λ (s : State). one_of s (state.Invalid ∷ state.InvalidWrite ∷ []) ≡ true) e (replay-own me r (length v) y).invalidated)) refl
  becomes (Deliver m) y = delivered m.sender m.message (eqb-false _ _ (deliver-own me r m (length v) y).other)
  becomes Validate y = validates refl
  becomes Resend y = same refl

-- ---- lists of entries

-- P is the property; question 1 says yes at every accepted event. A list that passes `May` has only entries of replica k that pass `Fine`
module _ (wins : Orders) (i : ℕ) (P : Replica → Record → Type 0)
    (steps : (me : Replica) (r b : Record) → (question1 me).yes ≡ true → Becomes (under wins me.settings) me r b → P me r → P me b)
    (Fine : Action → Type 0)
    (views : (n : Node) (epoch set : ℕ) → Fine (run.view epoch set) → P n.me (record_of i n) → P (viewed n epoch set).node.me (record_of i (viewed n epoch set).node)) where
  abbrev Holds : Node → Type 0
  Holds n = P n.me (record_of i n)

  -- an event on record j, as record i sees it
  event-keeps : (n : Node) (j : ℕ) (e : Event) (v : List ℕ) → Holds n → Holds (apply wins n j e v).node
  event-keeps n j e v before = go (apply wins n j e v) (applied wins n j e v)
    where
      s : Step
      s = step_of wins n j e v

      go : (o : Outcome) → Applied wins n j e v o → Holds o.node
      go o (refused k z q) = rw q before
      go o (accepted y c q) = rw q (side (ℕ_discrete i j))
        where
          side : Dec (i ≡ j) → Holds (done n j s)
          side (yes d) = rw (d, c.here) (steps n.me (record_of j n) s.after y.0 (becomes wins n.me j (record_of j n) v e (its_own n j e v y)) (rw d at before))
          side (no d) = rw (c.others i d) before

  entry-keeps : (a : Action) (log : List run.Logged) (n : Node) → Fine a → Holds n → Holds (node_after (perform wins a log n) n)
  entry-keeps (run.read j) log n f = event-keeps n j Read []
  entry-keeps (run.ask j) log n f = event-keeps n j Ask []
  entry-keeps (run.write j v) log n f = event-keeps n j Write v
  entry-keeps (run.commit j t v) log n f = event-keeps n j (Commit t) v
  entry-keeps (run.replay j) log n f = event-keeps n j Replay []
  entry-keeps (run.deliver k) log n f = go (find log k)
    where
      go : (x : Found) → Holds n → Holds (node_after (delivery wins x n) n)
      go run.missing = λ before. before
      go (run.found x) = event-keeps n x.header.index (Deliver (received x)) x.body
  entry-keeps (run.validate j) log n f = event-keeps n j Validate []
  entry-keeps (run.resend j) log n f = event-keeps n j Resend []
  entry-keeps (run.view epoch set) log n f = views n epoch set f

  pub along : (k : ℕ) (May : List Entry → Type 0) → ((a : Entry) (rest : List Entry) → May (a ∷ rest) → (a.who ≡ k → Fine a.what) × May rest)
      → (g : Group) → Holds (g.at k) → (entries : List Entry) → May entries → Holds (after wins g entries k)
  unfolding result
  along k May split g before [] m = before
  along k May split g before (a ∷ rest) m = along k May split (advance wins g a) (side (ℕ_discrete k a.who)) rest (split a rest m).1
    where
      side : Dec (k ≡ a.who) → Holds ((advance wins g a).at k)
      side (yes e) = rw (e, at-who wins g a) (entry-keeps a.what g.log (g.at a.who) ((split a rest m).0 (sym e)) (rw e at before))
      side (no d) = rw (at_other wins g a k d) before

-- a change of view leaves number and settings
viewed-keeps : (n : Node) (epoch set : ℕ) → ((viewed n epoch set).node.me.number ≡ n.me.number) × ((viewed n epoch set).node.me.settings ≡ n.me.settings)
unfolding viewed view
viewed-keeps n epoch set = go (first_no (view_questions n.me epoch set))
  where
    to : ℕ → Replica
    to z = identity (admission_of z (record { number = n.me.number; epoch = epoch; view = set; settings = n.me.settings })) n.me

    go : (z : ℕ) → ((to z).number ≡ n.me.number) × ((to z).settings ≡ n.me.settings)
    go zero = (refl, refl)
    go (suc z) = (refl, refl)

-- the same of a property that looks at no view: it holds after every list
module _ (wins : Orders) (i : ℕ) (P : ℕ → Settings → Record → Type 0)
    (steps : (me : Replica) (r b : Record) → Becomes (under wins me.settings) me r b → P me.number me.settings r → P me.number me.settings b) where
  abbrev Has : Node → Type 0
  Has n = P n.me.number n.me.settings (record_of i n)

  view-keeps : (n : Node) (epoch set : ℕ) → Has n → Has (viewed n epoch set).node
  unfolding viewed
  view-keeps n epoch set h = rw ((viewed-keeps n epoch set).0, (viewed-keeps n epoch set).1) h

  pub always : (k : ℕ) (g : Group) → Has (g.at k) → (entries : List Entry) → Has (after wins g entries k)
  always k g before entries =
      along wins i (λ me r. P me.number me.settings r) (λ me r b y. steps me r b) (λ a. Unit) (λ n epoch set f. view-keeps n epoch set) k (λ l. Unit) (λ a rest m. (λ e. tt, tt)) g before entries tt
