-- An exported event that leaves its record as found leaves every byte of the table as found.
use Prim.Native.Nat.{ℕ, zero, suc}
use mathlib.Core.Path.{◌≡◌, refl, ◌∙◌}
use mathlib.Core.Bool.{false}
use mathlib.Core.List.{List}
use lib.ListN.{length}
use Rattle.hermes_record.specs.declared.timestamp.Timestamp.{Timestamp}
use Rattle.hermes_record.specs.declared.record.Record.{Record}
use Rattle.hermes.specs.declared.message.Message.TheVariants.{Inv}
use Rattle.hermes.specs.declared.message.Received.{Received}
use Rattle.hermes.specs.declared.event.Event.{Event}
use Rattle.hermes.specs.declared.event.Event.TheVariants.{Deliver, Resend}
use Rattle.hermes_record.specs.Order.{ties, later}
use Rattle.hermes.specs.Settings.{under}
use Rattle.hermes.specs.Store.{Bytes}
use Rattle.hermes.specs.Event.{Step, moved_by, effect}
use Rattle.hermes.specs.Node.{record_at, effect_of}
use Rattle.hermes.proofs.Guards.{event-passed}
use Rattle.hermes.proofs.Apply.{refusal_of, step_of}
use Rattle.export_records.specs.Layout.{table_of}
use Rattle.export_records.proofs.Lent.{length-table}
use Rattle.export_storing.proofs.Back.{settled_back}
use Rattle.export_numbers.specs.declared.numbers.CetskobiReplica.{CetskobiReplica}
use Rattle.export_numbers.specs.declared.numbers.CetskobiAnswer.{CetskobiAnswer}
use Rattle.export_numbers.specs.Crossing.{settings_of, replica_of}
use Rattle.export_calls.specs.Calls.{node_of, Done}

-- a step that leaves the record, done or refused
same_after : (k : ℕ) (r : Record) (s : Step) → s.after ≡ r → (moved_by k r s).after ≡ r
same_after zero r s e = e
same_after (suc k) r s e = refl

module _ (me : CetskobiReplica) (bytes store : List ℕ) (i : ℕ) (v : List ℕ) (a : CetskobiAnswer) (bytes' store' : List ℕ) (lent : Bytes bytes) where
  pub unmoved : (e : Event) → Done (node_of me bytes store) bytes i e v a bytes' store'
      → (effect_of ties (node_of me bytes store) i e v).moved.after ≡ record_at (table_of bytes) i → bytes' ≡ bytes
  unfolding effect
  unmoved e d h =
      d.bytes ∙ settled_back (refusal_of (node_of me bytes store) i e v) bytes i (step_of ties (node_of me bytes store) i e v) lent (λ z.
      let c = event-passed (replica_of me) (length (table_of bytes)) (length store) i (record_at (table_of bytes) i) e (length v) z in
      (rw (length-table bytes) at c.inside, c.sound.short)) h

  step-unmoved : (e : Event) → (step_of ties (node_of me bytes store) i e v).after ≡ record_at (table_of bytes) i
      → (effect_of ties (node_of me bytes store) i e v).moved.after ≡ record_at (table_of bytes) i
  unfolding effect
  step-unmoved e h = same_after (refusal_of (node_of me bytes store) i e v) (record_at (table_of bytes) i) (step_of ties (node_of me bytes store) i e v) h

  -- 01, Resend: the record is unchanged
  pub resend-unmoved : Done (node_of me bytes store) bytes i Resend v a bytes' store' → bytes' ≡ bytes
  resend-unmoved d = unmoved Resend d (step-unmoved Resend refl)

  -- 01, Deliver INV: "only if that stamp is greater" is it taken
  pub inv-unmoved : (m : Received) (t : Timestamp) → m.message ≡ Inv t → later (under ties (settings_of me.settings)) t (record_at (table_of bytes) i).timestamp ≡ false
      → Done (node_of me bytes store) bytes i (Deliver m) v a bytes' store' → bytes' ≡ bytes
  inv-unmoved m t e g d = unmoved (Deliver m) d (step-unmoved (Deliver m) (rw (e, g)))
