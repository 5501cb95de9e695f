-- The way back: bytes taken as a record and put back are the same bytes.
use Rattle.std.specs.Prelude.{ℕ, ◌<◌, ◌≤◌, ◌≡◌, List, length}
use Rattle.hermes.specs.Store.{Bytes}
use Rattle.hermes.specs.Node.{record_at}
use Rattle.export_records.specs.Layout.{count_of, table_of}
use Rattle.export_storing.specs.Storing.{put}

-- a record of the table whose length question 5 finds sound, as of every accepted event, leaves every byte as found when it is put back
abbrev pub PutBack : Type 0
PutBack = (bytes : List ℕ) (i : ℕ) → Bytes bytes → i < count_of (length bytes) → (record_at (table_of bytes) i).len ≤ 192
    → put bytes i (record_at (table_of bytes) i) ≡ bytes
