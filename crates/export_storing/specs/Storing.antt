-- A record put into its sixteen bytes, and the bytes after an event and after a fresh start.
use Rattle.std.specs.Prelude.{ℕ, zero, suc, ◌*◌, ◌/◌, ◌%◌, cond, List, [], ◌∷◌, ◌++◌, ltb, length, set, Err, Ok}
use Rattle.std.proofs.lemmas.List.Edits.{sets}
use Rattle.hermes_record.specs.declared.record.Record.{Record}
use Rattle.hermes.specs.Answer.{Answer}
use Rattle.hermes.specs.declared.event.Moved.{Moved}
use Rattle.hermes_record.specs.Record.{code}
use Rattle.export_records.specs.Layout.{count_of}

-- numbers, the least significant byte first
abbrev pub in_two : ℕ → List ℕ
in_two n = n % 256 ∷ n / 256 ∷ []

abbrev pub in_four : ℕ → List ℕ
in_four n = n % 256 ∷ n / 256 % 256 ∷ n / 65536 % 256 ∷ n / 16777216 ∷ []

-- a record as its fifteen bytes
abbrev pub record_bytes : Record → List ℕ
record_bytes r =
    code r.state ∷ r.timestamp.tie ∷ r.writer ∷ r.written.tie ∷ (in_four r.timestamp.version ++ (in_four r.written.version ++ (in_two r.acks ++ (r.len ∷ []))))

-- ---- the bytes after an event on record i

-- record i's bytes replaced
abbrev pub put : List ℕ → ℕ → Record → List ℕ
put bytes i r = sets bytes (16 * i) (record_bytes r)

-- the first k records all replaced by r
abbrev pub fill : ℕ → List ℕ → Record → List ℕ
fill zero bytes r = bytes
fill (suc k) bytes r = put (fill k bytes r) k r

-- 01, "A "no" .. leaves every lent byte and record as found"; an accepted event replaces the bytes of its record
abbrev pub bytes_by : Answer → List ℕ → ℕ → Record → List ℕ
bytes_by (Ok o) bytes i r = cond (ltb i (count_of (length bytes))) (put bytes i r) bytes
bytes_by (Err k) bytes i r = bytes

abbrev pub bytes_after : Moved → List ℕ → ℕ → List ℕ
bytes_after m bytes i = bytes_by m.answer bytes i m.after

-- the table that they hold then
abbrev pub table_by : Answer → List Record → ℕ → Record → List Record
table_by (Ok o) table i r = set table i r
table_by (Err k) table i r = table

abbrev pub table_after : Moved → List Record → ℕ → List Record
table_after m table i = table_by m.answer table i m.after
