-- The replicas of a group stay sound along every list of entries; so a replica in its own view answers a read with 0 exactly where it
-- shows the record valid.
use Prim.Native.Nat.{ℕ, zero, suc, ◌≤◌, ◌<◌}
use mathlib.Core.Path.{◌≡◌, refl, sym, ap, ◌∙◌}
use mathlib.Core.Bool.{true}
use mathlib.Core.Logic.{◌↔◌}
use mathlib.Core.List.{List, [], ◌∷◌}
use native.Mathlib.Omega.{arith}
use native.Mathlib.Decide.{ℕ_discrete}
use lib.Dec.{leb}
use lib.ListN.{length, length-replicate, get_or-replicate}
use borrow.Author.Tests.{lt-ltb}
use Rattle.hermes_record.specs.declared.record.State.TheVariants as state
use Rattle.hermes.specs.declared.event.Replica.{Replica}
use Rattle.hermes.specs.declared.event.Settings.{Settings}
use Rattle.hermes.specs.declared.event.Event.{Event}
use Rattle.hermes.specs.declared.event.Event.TheVariants.{Read, Ask, Write, Commit, Replay, Deliver, Validate, Resend}
use Rattle.hermes_record.specs.Members.{size, lowest}
use Rattle.hermes_record.specs.Order.{Orders}
use Rattle.hermes_record.specs.Record.{fresh_record}
use Rattle.hermes.specs.Guards.{AllYes, first_no, question5}
use Rattle.hermes.specs.Event.{Step, number_of, read_part}
use Rattle.hermes.specs.Node.{Node, Outcome, record_of, apply, view, viewed, view_questions, admission_of, identity}
use Rattle.hermes.specs.Run as run
use Rattle.hermes.specs.Run.{Action, Entry, Group, Logged, Found, find, received, delivery, perform, node_after, result, advance, run}
use Rattle.hermes.specs.Agreement.{FreshStart, Sees, Shows, after}
use Rattle.hermes.specs.Reads.{Sound, ReadGives, StaySound, ReadsTell}
use Rattle.std.proofs.lemmas.Bool.{and_parts}
use Rattle.hermes.proofs.Members.{has-zero}
use Rattle.hermes.proofs.Guards.{view-inside, all_yes}
use Rattle.hermes.proofs.Steps.{sound-yes}
use Rattle.hermes.proofs.Apply.{passed-zero, own_of, questions_of, step_of, done, Applied, refused, accepted, applied, was-accepted, was-refused, answered, its_own, sound-step}
use Rattle.hermes.proofs.Words.{is_state}
use Rattle.hermes.proofs.Start.{Begun, begun, lowest-small}
use Rattle.hermes.proofs.Agreement.{at-who, at_other}

module _ (wins : Orders) (count : ℕ) (settings : Settings) (k : ℕ) where
  -- ---- one entry
  event-sound : (n : Node) → Sound count settings k n → (j : ℕ) (e : Event) (v : List ℕ) → Sound count settings k (apply wins n j e v).node
  event-sound n ok j e v = go (apply wins n j e v) (applied wins n j e v)
    where
      s : Step
      s = step_of wins n j e v

      go : (o : Outcome) → Applied wins n j e v o → Sound count settings k o.node
      go o (refused z y q) = rw q ok
      go o (accepted y c q) = rw q (record {
        number = ok.number;
        fixed = ok.fixed;
        records = c.count ∙ ok.records;
        first = ok.first;
        second = rw (c.count, c.room) ok.second;
        fifth = λ i h. fifth i h (ℕ_discrete i j);
      })
        where
          fifth : (i : ℕ) → i < count → Dec (i ≡ j) → (question5 n.me (record_of i (done n j s))).yes ≡ true
          fifth i h (yes d) = rw (d, c.here) (sound-yes n.me s.after (sound-step wins n j e v y).after)
          fifth i h (no d) = rw (c.others i d) (ok.fifth i h)

  viewed-sound : (n : Node) → Sound count settings k n → (epoch next : ℕ) → Sound count settings k (viewed n epoch next).node
  unfolding viewed view
  viewed-sound n ok epoch next = go (first_no (view_questions n.me epoch next)) refl
    where
      to : Replica
      to = record { number = n.me.number; epoch = epoch; view = next; settings = n.me.settings }

      go : (z : ℕ) → first_no (view_questions n.me epoch next) ≡ z → Sound count settings k (record { me = identity (admission_of z to) n.me; table = n.table; store = n.store })
      go zero z = record {
        number = ok.number;
        fixed = ok.fixed;
        records = ok.records;
        first = rw (and_parts (leb n.me.number 15) (leb 2 (size n.me.view)) ok.first).0 (view-inside n.me epoch next (all_yes (view_questions n.me epoch next) refl z)).1;
        second = ok.second;
        fifth = ok.fifth;
      }
      go (suc z) e = ok

  entry-sound : (n : Node) → Sound count settings k n → (log : List Logged) (a : Action) → Sound count settings k (node_after (perform wins a log n) n)
  entry-sound n ok log (run.read j) = event-sound n ok j Read []
  entry-sound n ok log (run.ask j) = event-sound n ok j Ask []
  entry-sound n ok log (run.write j v) = event-sound n ok j Write v
  entry-sound n ok log (run.commit j t v) = event-sound n ok j (Commit t) v
  entry-sound n ok log (run.replay j) = event-sound n ok j Replay []
  entry-sound n ok log (run.deliver z) = go (find log z)
    where
      go : (f : Found) → Sound count settings k (node_after (delivery wins f n) n)
      go run.missing = ok
      go (run.found x) = event-sound n ok x.header.index (Deliver (received x)) x.body
  entry-sound n ok log (run.validate j) = event-sound n ok j Validate []
  entry-sound n ok log (run.resend j) = event-sound n ok j Resend []
  entry-sound n ok log (run.view epoch next) = viewed-sound n ok epoch next

  pub advance-sound : (g : Group) (a : Entry) → Sound count settings k (g.at k) → Sound count settings k ((advance wins g a).at k)
  unfolding result
  advance-sound g a ok = go (ℕ_discrete k a.who)
    where
      moved : ℕ → Node
      moved m = node_after (perform wins a.what g.log (g.at m)) (g.at m)

      go : Dec (k ≡ a.who) → Sound count settings k ((advance wins g a).at k)
      go (yes e) = rw (ap (λ (m : ℕ). (advance wins g a).at m) e ∙ at-who wins g a ∙ ap moved (sym e)) (entry-sound (g.at k) ok g.log a.what)
      go (no d) = rw (at_other wins g a k d) ok

  run_sound : (g : Group) → Sound count settings k (g.at k) → (entries : List Entry) → Sound count settings k ((run wins g entries).at k)
  run_sound g ok [] = ok
  run_sound g ok (a ∷ rest) = run_sound (advance wins g a) (advance-sound g a ok) rest

  -- ---- the start
  start-sound : (issued : ℕ → ℕ) (n : Node) → FreshStart count issued settings k n → Sound count settings k n
  start-sound issued n f = record {
    number = ap (λ (me : Replica). me.number) b.identity;
    fixed = ap (λ (me : Replica). me.settings) b.identity;
    records = rw (f.table_after, b.table_after) (length-replicate (length f.table) (fresh_record (lowest (issued 0))) ∙ f.records);
    first = rw b.identity b.asked.0;
    second = rw (f.table_after, b.table_after, f.store_after, b.store_after, length-replicate (length f.table) (fresh_record (lowest (issued 0))), length-replicate {A = ℕ} (length f.store) 0) b.asked.1.0;
    fifth = λ i h. rw (f.table_after, b.table_after, get_or-replicate (length f.table) i (fresh_record (lowest (issued 0))) (fresh_record 0) (omega (arith, f.records)))
        (sound-yes n.me (fresh_record (lowest (issued 0))) (record { short = omega arith; tie = low; own-tie = low; writer = low; uncounted = has-zero n.me.number }));
  }
    where
      b : Begun k (issued 0) settings f.table f.store n.me
      b = begun k (issued 0) settings f.table f.store n.me f.accepted

      low : lowest (issued 0) ≤ 15
      low = lowest-small (issued 0) k b.asked.1.1.0

pub stay-sound : (wins : Orders) → StaySound wins
stay-sound wins member count issued settings g s entries c k e = run_sound wins count settings k g (start-sound wins count settings k issued (g.at k) (s.fresh k e)) entries

-- ---- reads

-- of a sound replica in its own view questions 1 to 5 say yes
pub five-say-yes : (count : ℕ) (settings : Settings) (k : ℕ) (n : Node) → Sound count settings k n → (i : ℕ) → i < count → Sees n k → (e : Event) (v : List ℕ) → AllYes (own_of n i e v) → AllYes (questions_of n i e v)
five-say-yes count settings k n ok i h s e v y = (ok.first, (ok.second, (rw ok.number s, (lt-ltb i (length n.table) (omega (arith, ok.records)), (ok.fifth i h, y)))))

-- a sound replica in its own view answers a read with 0 exactly where the record is valid
read-tells : (wins : Orders) (count : ℕ) (settings : Settings) (k : ℕ) (n : Node) → Sound count settings k n → (i : ℕ) → i < count → Sees n k → Shows n i ↔ (number_of (apply wins n i Read []).answer ≡ 0)
read-tells wins count settings k n ok i h v = (
  λ e. (answered wins n i Read [] (five-say-yes count settings k n ok i h v Read [] (rw e, tt))).0,
  λ a. is_state (record_of i n).state state.Valid (its_own n i Read [] (was-accepted wins n i Read [] a).0).0,
)

pub reads-tell : (wins : Orders) → ReadsTell wins
reads-tell wins member count issued settings g s entries c i k h e = read-tells wins count settings k (after wins g entries k) (stay-sound wins member count issued settings g s entries c k e) i h

-- what a read hands out
pub read-gives : (wins : Orders) (n : Node) (i : ℕ) → ReadGives wins n i
unfolding read_part
read-gives wins n i = record {
  accepted = λ a. rw (passed-zero n i Read [] (was-accepted wins n i Read [] a).0);
  refused = λ a. let (k, z, q) = was-refused wins n i Read [] a in rw z;
}
