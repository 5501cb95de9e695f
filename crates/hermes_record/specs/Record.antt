-- One record: its states, and what each step makes of it (01, "Steps").
use Rattle.std.specs.Prelude.{ℕ, ◌+◌, Bool, false, cond, ◌||◌, List, [], ◌∷◌, ltb, eqb, Result, Ok, Err}
use Rattle.hermes_record.specs.declared.timestamp.Timestamp.{Timestamp}
use Rattle.hermes_record.specs.declared.record.Record.{Record}
use Rattle.hermes_record.specs.declared.record.State.{State}
use Rattle.hermes_record.specs.declared.record.State.TheVariants.{Valid, Invalid, InvalidWrite, Write, Replay}
use Rattle.hermes_record.specs.declared.record.UnknownState.{UnknownState}
use Rattle.hermes_record.specs.Members.{with}

-- a number for each state, to tell them apart
abbrev pub code : State → ℕ
code Valid = 0
code Invalid = 1
code InvalidWrite = 2
code Write = 3
code Replay = 4

-- the state with this number, or no state
abbrev pub state_of : ℕ → Result State UnknownState
state_of n = cond (eqb n 0) (Ok Valid) (cond (eqb n 1) (Ok Invalid) (cond (eqb n 2) (Ok InvalidWrite) (cond (eqb n 3) (Ok Write) (cond (eqb n 4) (Ok Replay) (Err (record { 0 = n }))))))

-- the state is one of those listed
abbrev pub one_of : State → List State → Bool
one_of s [] = false
one_of s (t ∷ ts) = eqb (code s) (code t) || one_of s ts

-- 01, fresh start: valid and empty; both timestamps version 0 with the lowest number, that number as last writer; no acknowledgements
abbrev pub fresh_record : ℕ → Record
fresh_record lowest = record {
  state = Valid;  -- fresh
  timestamp = record { version = 0; tie = lowest };
  writer = lowest;
  written = record { version = 0; tie = lowest };
  acks = 0;
  len = 0;
}

-- 01, Write, "version plus one"; the greatest version, which question 9 refuses, stays
abbrev pub next_version : ℕ → ℕ
next_version v = cond (ltb v 4294967295) (v + 1) v

-- 01, Write: version plus one, own number as tie-breaker
abbrev pub next_timestamp : Timestamp → ℕ → Timestamp
next_timestamp t me = record { version = next_version t.version; tie = me }

-- 01, Write: the new timestamp for both; last writer is self; acknowledgements emptied; state write
abbrev pub written_by : Record → ℕ → ℕ → Record
written_by r me n = record {
  state = Write;
  timestamp = next_timestamp r.timestamp me;
  writer = me;
  written = next_timestamp r.timestamp me;
  acks = 0;  -- emptied by a write
  len = n;
}

-- 01, Replay: timestamp and value kept; last-write timestamp becomes the timestamp; last writer is self; acknowledgements emptied; state replay
abbrev pub replayed : Record → ℕ → Record
replayed r me = record {
  state = Replay;
  timestamp = r.timestamp;
  writer = me;
  written = r.timestamp;
  acks = 0;  -- emptied by a replay
  len = r.len;
}

-- 01, Deliver INV: valid, invalid and replay become invalid, write and invalid-write become invalid-write
abbrev pub invalidated_state : State → State
invalidated_state Valid = Invalid
invalidated_state Invalid = Invalid
invalidated_state Replay = Invalid
invalidated_state Write = InvalidWrite
invalidated_state InvalidWrite = InvalidWrite

-- 01, Deliver INV of a greater timestamp: timestamp and value are taken, last writer is the sender
abbrev pub invalidated : Record → Timestamp → ℕ → ℕ → Record
invalidated r t sender n = record {
  state = invalidated_state r.state;
  timestamp = t;
  writer = sender;
  written = r.written;
  acks = r.acks;
  len = n;
}

-- 01, Deliver ACK: its sender is added to the acknowledgements
abbrev pub acknowledged : Record → ℕ → Record
acknowledged r sender = record {
  state = r.state;
  timestamp = r.timestamp;
  writer = r.writer;
  written = r.written;
  acks = with r.acks sender;
  len = r.len;
}

-- 01, Deliver VAL and Validate: the state becomes valid
abbrev pub validated : Record → Record
validated r = record {
  state = Valid;  -- the one change
  timestamp = r.timestamp;
  writer = r.writer;
  written = r.written;
  acks = r.acks;
  len = r.len;
}
