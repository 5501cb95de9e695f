-- The lent table as bytes, sixteen for each record (`Decoding` of export_decoding).
use Rattle.std.specs.Prelude.{ℕ, zero, suc, ◌+◌, ◌*◌, ◌/◌, ◌%◌, cond, Option, Some, None, List, [], ◌∷◌, ltb, eqb, length, get_or}
use Rattle.hermes_record.specs.declared.record.Record.{Record}
use Rattle.hermes.specs.Node.{record_at}
use Rattle.export_decoding.specs.Decoding.{decode_at}

-- how many records bytes hold; bytes that are not sixteen for each hold none, so that question 2 refuses them
abbrev pub count_of : ℕ → ℕ
count_of n = cond (eqb (n % 16) 0) (n / 16) 0

-- n records from a place on
abbrev pub records : ℕ → ℕ → List ℕ → List Record
records zero at bytes = []
records (suc n) at bytes = decode_at bytes at ∷ records n (at + 16) bytes

-- the table that bytes hold
unfoldable pub table_of : List ℕ → List Record
table_of bytes = records (count_of (length bytes)) 0 bytes

-- what an event finds at number i: the record, unless it lies past the table's end or its bytes have no state
abbrev pub found_at : List ℕ → ℕ → Option Record
found_at bytes i =
    cond (ltb i (count_of (length bytes))) (cond (ltb 4 (get_or bytes (16 * i) 0)) None (Some (record_at (table_of bytes) i))) None
