-- What the parts of the exported fresh start give is what hermes's `start` says of the table that the bytes hold.
use Prim.Native.Nat.{ℕ}
use mathlib.Core.Path.{◌≡◌, refl, sym, ap, ◌∙◌}
use mathlib.Core.Bool.{true, false}
use mathlib.Core.List.{List}
use lib.ListN.{length, replicate}
use Rattle.hermes_record.specs.declared.record.Record.{Record}
use Rattle.hermes.specs.declared.event.Settings.{Settings}
use Rattle.hermes.specs.Answer.{Admission}
use Rattle.std.specs.Prelude.{Err, Ok, is_ok}
use Rattle.hermes.specs.Node.{newcomer, admit, first_record, start}
use Rattle.hermes.proofs.Start.{begun}
use Rattle.hermes.proofs.Filling.{start-admission, start-refused}
use Rattle.export_numbers.specs.declared.numbers.CetskobiAdmission.{CetskobiAdmission}
use Rattle.export_numbers.specs.Crossing.{identity_of, admission_out}
use Rattle.export_records.specs.Layout.{count_of, table_of}
use Rattle.export_storing.specs.Storing.{fill}
use Rattle.export_membership.specs.Admission.{StartDone}
use Rattle.export_records.proofs.Lent.{length-table}

module _ (number view : ℕ) (settings : Settings) (bytes store : List ℕ) (count : ℕ) (a : Admission) (counted : count ≡ count_of (length bytes)) (asked : a ≡ admit number view settings count (length store)) where
  admitted : a ≡ (start number view settings (table_of bytes) store).admission
  admitted = asked ∙ rw (counted, ← length-table bytes) (start-admission number view settings (table_of bytes) store)

  module _ (out : CetskobiAdmission) (bytes' store' : List ℕ) (given : out ≡ admission_out a (identity_of (newcomer number view settings))) where
    answered : out ≡ admission_out (start number view settings (table_of bytes) store).admission (identity_of (newcomer number view settings))
    answered = given ∙ ap (λ (x : Admission). admission_out x (identity_of (newcomer number view settings))) admitted

    pub started : (r : Record) → is_ok a ≡ true → r ≡ first_record view → bytes' ≡ fill (count_of (length bytes)) bytes r
        → table_of bytes' ≡ replicate (length (table_of bytes)) r → store' ≡ replicate (length store) 0 → StartDone number view settings bytes store out bytes' store'
    started r h first hw ht hs = go a refl h
      where
        go : (x : Admission) → a ≡ x → is_ok x ≡ true → StartDone number view settings bytes store out bytes' store'
        go (Ok me) hy y =
            let b = begun number view settings (table_of bytes) store me (sym admitted ∙ hy) in
            record {
              admission = answered;
              bytes = rw (← admitted, hy) (hw ∙ rw first);
              table = ht ∙ ap (replicate (length (table_of bytes))) first ∙ sym b.table_after;
              store = hs ∙ sym b.store_after;
            }
        go (Err k) hn y = cc

    pub not_started : is_ok a ≡ false → bytes' ≡ bytes → store' ≡ store → StartDone number view settings bytes store out bytes' store'
    not_started h hw hs = go a refl h
      where
        go : (x : Admission) → a ≡ x → is_ok x ≡ false → StartDone number view settings bytes store out bytes' store'
        go (Ok me) hy n = cc
        go (Err k) hn n =
            let same = start-refused number view settings (table_of bytes) store k.0 (sym admitted ∙ hn) in
            record {
              admission = answered;
              bytes = rw (← admitted, hn) hw;
              table = ap table_of hw ∙ sym same.0;
              store = hs ∙ sym same.1;
            }
