-- A record as sixteen bytes: 0 state, 1 tie-breaker, 2 last writer, 3 last-write tie-breaker, 4 to 7 version, 8 to 11 last-write version,
-- 12 and 13 acknowledgements, 14 value length. Byte 15 is nobody's.
use Rattle.std.specs.Prelude.{ℕ, ◌+◌, ◌*◌, Bool, true, false, cond, Option, Some, None, List, ltb, eqb, get_or}
use Rattle.hermes_record.specs.declared.record.Record.{Record}
use Rattle.hermes_record.specs.declared.record.State.{State}
use Rattle.hermes_record.specs.declared.record.State.TheVariants.{Valid, Invalid, InvalidWrite, Write, Replay}

-- ---- numbers, the least significant byte first

-- of two bytes
abbrev pub two : ℕ → ℕ → ℕ
two a b = a + b * 256

-- of four bytes
abbrev pub four : ℕ → ℕ → ℕ → ℕ → ℕ
four a b c d = a + b * 256 + c * 65536 + d * 16777216

-- ---- one record

-- the first state where the test says yes, else the second
abbrev pub pick_state : Bool → State → State → State
pick_state true a b = a
pick_state false a b = b

-- the state of a number; above 3, replay (a number above 4 is no state, and `decode` asks that first)
abbrev pub state_of : ℕ → State
state_of k = pick_state (eqb k 0) Valid (pick_state (eqb k 1) Invalid (pick_state (eqb k 2) InvalidWrite (pick_state (eqb k 3) Write Replay)))

-- what bytes with no state stand for: a length above 192, so that question 5 refuses it
abbrev pub unsound : Record
unsound = record { state = Valid; timestamp = record { version = 0; tie = 0 }; writer = 0; written = record { version = 0; tie = 0 }; acks = 0; len = 255 }

-- a record, unless its bytes have no state
abbrev pub or_unsound : Bool → Record → Record
or_unsound true r = unsound
or_unsound false r = r

-- the numbers of a record, as they stand in its bytes
unfoldable pub decode : ℕ → ℕ → ℕ → ℕ → ℕ → ℕ → ℕ → ℕ → Record
decode state tie writer writtenTie version writtenVersion acks len =
    or_unsound (ltb 4 state)
    (record {
      state = state_of state;
      timestamp = record { version = version; tie = tie };
      writer = writer;
      written = record { version = writtenVersion; tie = writtenTie };
      acks = acks;
      len = len;
    })

-- ---- the bytes

-- the record of the bytes from a place on
abbrev pub decode_at : List ℕ → ℕ → Record
decode_at bytes at =
    decode (get_or bytes at 0) (get_or bytes (at + 1) 0) (get_or bytes (at + 2) 0) (get_or bytes (at + 3) 0)
    (four (get_or bytes (at + 4) 0) (get_or bytes (at + 5) 0) (get_or bytes (at + 6) 0) (get_or bytes (at + 7) 0))
    (four (get_or bytes (at + 8) 0) (get_or bytes (at + 9) 0) (get_or bytes (at + 10) 0) (get_or bytes (at + 11) 0))
    (two (get_or bytes (at + 12) 0) (get_or bytes (at + 13) 0))
    (get_or bytes (at + 14) 0)

-- the record of sixteen bytes, unless they have no state
abbrev pub found_in : List ℕ → Option Record
found_in bytes = cond (ltb 4 (get_or bytes 0 0)) None (Some (decode_at bytes 0))
