-- What `src/calls.rt` says of the exported functions, beside `Returns` and `Begun` of check_air's `Callers`.
use Rattle.std.specs.Prelude.{ℕ, ◌≡◌, List, length}
use Rattle.export_records.specs.Layout.{count_of}
use Rattle.export_numbers.specs.declared.numbers.CetskobiReplica.{CetskobiReplica}
use Rattle.export_numbers.specs.declared.numbers.CetskobiAdmission.{CetskobiAdmission}
use Rattle.export_numbers.specs.declared.numbers.CetskobiSettings.{CetskobiSettings}
use Rattle.export_numbers.specs.Crossing.{settings_of}
use Rattle.check_air.specs.Callers.{Laptop, Call, Returns, Begun}

-- the laptop of this identity, table and store
abbrev pub held : CetskobiReplica → List ℕ → List ℕ → Laptop
held me table store = record { me = me; table = table; store = store }

-- a view touches no memory: whatever the laptop's table and store are, they stay
abbrev pub ReturnsView : ℕ → ℕ → CetskobiReplica → CetskobiAdmission → Type 0
ReturnsView epoch set me a = (table store : List ℕ) → Returns (Call.view epoch set) (held me table store) a.number (held a.replica table store)

-- a start that is accepted, on this table and with this view and these settings, begins a laptop of every group whose first view and settings they are
abbrev pub Begins : ℕ → ℕ → CetskobiSettings → List ℕ → CetskobiAdmission → Laptop → Type 0
Begins number view settings table a l = a.number ≡ 0 → (issued : ℕ → ℕ) → issued 0 ≡ view → Begun (count_of (length table)) issued (settings_of settings) number l
