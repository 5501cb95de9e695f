-- An exported event's end: what the parts of its code give is what hermes's `apply` says of the replica with its bytes.
use Prim.Native.Nat.{ℕ}
use mathlib.Core.Path.{◌≡◌, sym, ap, ◌∙◌}
use mathlib.Core.List.{List}
use lib.ListN.{length}
use Rattle.std.specs.Prelude.{Ok}
use Rattle.hermes_record.specs.declared.record.Record.{Record}
use Rattle.hermes.specs.declared.event.Replica.{Replica}
use Rattle.hermes.specs.declared.event.Event.{Event}
use Rattle.hermes.specs.declared.event.Moved.{Moved}
use Rattle.hermes_record.specs.Order.{ties}
use Rattle.hermes.specs.Event.{Effect, effect, step, refusal}
use Rattle.hermes.specs.Node.{record_at, effect_of, apply}
use Rattle.replica_asking.specs.Cascade.{Asked}
use Rattle.export_numbers.specs.declared.numbers.CetskobiReplica.{CetskobiReplica}
use Rattle.export_numbers.specs.declared.numbers.CetskobiAnswer.{CetskobiAnswer}
use Rattle.export_numbers.specs.Crossing.{replica_of, answer_out}
use Rattle.export_records.specs.Layout.{count_of, table_of}
use Rattle.export_records.proofs.Lent.{length-table}
use Rattle.export_storing.specs.Storing.{bytes_after, table_after}
use Rattle.export_storing.proofs.Table.{settled-step}
use Rattle.export_calls.specs.Calls.{node_of, beginning, Finished, Done}
use Rattle.export_calls.proofs.Beginnings.{begun-passed}

-- what the code takes out of the bytes and hands to the engine
pub record Taken (me : CetskobiReplica) (bytes : List ℕ) (i : ℕ) (who : Replica) (count : ℕ) (r : Record) : Type 0 where
  pub identity : who ≡ replica_of me
  pub counted : count ≡ count_of (length bytes)
  pub found : r ≡ record_at (table_of bytes) i

-- the same where the event began with that record
pub taken_here : (me : CetskobiReplica) (bytes : List ℕ) (n i : ℕ) (who : Replica) (count : ℕ) (a : Asked) (r : Record) → who ≡ replica_of me → count ≡ count_of (length bytes)
    → a ≡ beginning who bytes n i → a ≡ Ok r → Taken me bytes i who count r
taken_here me bytes n i who count a r hw hc begins passed = record { identity = hw; counted = hc; found = begun-passed who bytes n i r (sym begins ∙ passed) }

module _ (me : CetskobiReplica) (bytes : List ℕ) (i : ℕ) (who : Replica) (count : ℕ) (r : Record) (t : Taken me bytes i who count r) where
  -- the engine's effect is that of the node
  pub same : (store : List ℕ) (e : Event) (v : List ℕ) → effect ties who count i r store e v ≡ effect_of ties (node_of me bytes store) i e v
  same store e v = rw (t.identity, t.counted, t.found, length-table bytes)

  -- the moved record and the store of its effect are what the event does
  pub done : (store : List ℕ) (e : Event) (v : List ℕ) (m : Moved) (a : CetskobiAnswer) (bytes' store' : List ℕ)
      → (m ≡ (effect ties who count i r store e v).moved) × (store' ≡ (effect ties who count i r store e v).store)
      → Finished bytes i m a bytes' → Done (node_of me bytes store) bytes i e v a bytes' store'
  unfolding apply effect
  done store e v m a bytes' store' (hm, hs) f =
      let moves : m ≡ (effect_of ties (node_of me bytes store) i e v).moved = hm ∙ ap (λ (x : Effect). x.moved) (same store e v) in
      record {
        answer = f.answer ∙ ap (λ (x : Moved). answer_out x.answer) moves;
        bytes = f.bytes ∙ ap (λ (x : Moved). bytes_after x bytes i) moves;
        table = f.table ∙ ap (λ (x : Moved). table_after x (table_of bytes) i) moves ∙ settled-step (refusal (replica_of me) (length (table_of bytes)) (length store) i (record_at (table_of bytes) i) e (length v)) (table_of bytes) i (step ties (replica_of me) i (record_at (table_of bytes) i) e v);
        store = hs ∙ ap (λ (x : Effect). x.store) (same store e v);
      }
