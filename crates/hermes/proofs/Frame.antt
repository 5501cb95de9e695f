-- An accepted event changes its record and that record's 192 bytes, as its step says, and nothing else; a refused one changes nothing.
use Prim.Native.Nat.{ℕ, zero, suc}
use mathlib.Core.Path.{◌≡◌, refl, ap}
use mathlib.Core.List.{List}
use native.Mathlib.Omega.{arith}
use Rattle.hermes.specs.declared.event.Event.{Event}
use Rattle.hermes.specs.declared.event.Replica.{Replica}
use Rattle.hermes.specs.declared.event.Settings.{Settings}
use Rattle.hermes_record.specs.declared.record.Record.{Record}
use Rattle.std.specs.Prelude.{None}
use Rattle.hermes_record.specs.Order.{Orders}
use Rattle.hermes.specs.Guards.{first_no}
use Rattle.hermes.specs.Event.{number_of, answer_of}
use Rattle.hermes.specs.Node.{Node, Outcome, view, viewed, view_questions, admission_of, admission_number, identity}
use Rattle.hermes.specs.Frame.{EventFrame, ViewFrame, StartFrame}
use Rattle.hermes.proofs.Start.{Begun, begun}
use Rattle.hermes.proofs.Filling.{start-refused}
use Rattle.hermes.proofs.Apply.{changed, was-accepted, was-refused}

pub event-frame : (wins : Orders) (n : Node) (i : ℕ) (e : Event) (v : List ℕ) → EventFrame wins n i e v
event-frame wins n i e v = record {
  accepted = λ a. let (y, q) = was-accepted wins n i e v a in rw q (changed wins n i e v y);
  refused = λ a. let (k, z, q) = was-refused wins n i e v a in ap (λ (x : Outcome). x.node) q;
}

-- ---- a view event

pub view-frame : (n : Node) (epoch next : ℕ) → ViewFrame n epoch next
unfolding viewed view
view-frame n epoch next = record { accepted = yes-case (first_no (view_questions n.me epoch next)); refused = no-case (first_no (view_questions n.me epoch next)) }
  where
    to : Replica
    to = record { number = n.me.number; epoch = epoch; view = next; settings = n.me.settings }

    at : Replica → Node
    at me = record { me = me; table = n.table; store = n.store }

    yes-case : (k : ℕ) → number_of (answer_of (admission_number (admission_of k to)) None) ≡ 0 → at (identity (admission_of k to) n.me) ≡ at to
    yes-case zero a = refl
    yes-case (suc k) a = absurd (omega arith)

    no-case : (k : ℕ) → (number_of (answer_of (admission_number (admission_of k to)) None) ≡ 0 → ⊥) → at (identity (admission_of k to) n.me) ≡ n
    no-case zero a = absurd (a refl)
    no-case (suc k) a = refl

-- ---- a fresh start

pub start-frame : (k view : ℕ) (settings : Settings) (table : List Record) (store : List ℕ) → StartFrame k view settings table store
start-frame k view settings table store = record {
  accepted = λ me a. let b : Begun k view settings table store me = begun k view settings table store me a in (b.identity, b.table_after, b.store_after);
  refused = start-refused k view settings table store;
}
