-- What an exported fresh start does: that of hermes's `start` on the table that the bytes hold.
use Rattle.std.specs.Prelude.{ℕ, ◌≡◌, List, length, Err, Ok}
use Rattle.hermes.specs.declared.event.Settings.{Settings}
use Rattle.hermes.specs.Answer.{Admission}
use Rattle.hermes.specs.Node.{newcomer, first_record, start}
use Rattle.export_numbers.specs.declared.numbers.CetskobiAdmission.{CetskobiAdmission}
use Rattle.export_numbers.specs.Crossing.{identity_of, admission_out}
use Rattle.export_records.specs.Layout.{count_of, table_of}
use Rattle.export_storing.specs.Storing.{fill}

-- the bytes after an admission: every record the first one; after a refusal as they were
abbrev pub filled_by : Admission → List ℕ → ℕ → List ℕ
filled_by (Ok me) bytes view = fill (count_of (length bytes)) bytes (first_record view)
filled_by (Err k) bytes view = bytes

-- the admission, the bytes, the table that they hold, and the store after a fresh start in a group with these settings
pub record StartDone (number view : ℕ) (settings : Settings) (before : List ℕ) (memory : List ℕ) (a : CetskobiAdmission) (bytes' store' : List ℕ) : Type 0 where
  pub admission : a ≡ admission_out (start number view settings (table_of before) memory).admission (identity_of (newcomer number view settings))
  pub bytes : bytes' ≡ filled_by (start number view settings (table_of before) memory).admission before view
  pub table : table_of bytes' ≡ (start number view settings (table_of before) memory).table
  pub store : store' ≡ (start number view settings (table_of before) memory).store
