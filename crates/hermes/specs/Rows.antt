-- The rows about events: document 01's own, "From the ringing table", marked P, of laptop 2 with view {1,2,5} at epoch 0 unless said; and those of `Limits`.
use Rattle.std.specs.Prelude.{ℕ, List, [], ◌∷◌, ◌++◌, replicate}
use Rattle.hermes_record.specs.declared.timestamp.Rule.TheVariants.{Higher, Lower}
use Rattle.hermes_record.specs.declared.record.Record.{Record}
use Rattle.hermes.specs.declared.message.Message.{Message}
use Rattle.hermes.specs.declared.message.Message.TheVariants.{Inv, Ack, Val}
use Rattle.hermes_record.specs.declared.record.State.TheVariants as state
use Rattle.hermes.specs.declared.event.Event.TheVariants.{Read, Ask, Write, Commit, Replay, Deliver, Validate}
use Rattle.hermes_record.specs.Record.{fresh_record}
use Rattle.hermes.specs.Settings.{old_settings, new_settings}
use Rattle.hermes.specs.Node.{Node, newcomer}
use Rattle.hermes.specs.Worked.{Deed, starts, lays, does, turns, answers, leaves, stamps, last_writer, ties_by, last_write, acknowledged_by, holding, sends, hands_out, silent, unchanged, Row, row}
use Rattle.hermes.specs.Limits.{limits}

-- the laptop before its start: one record, and memory that holds something else
unfoldable pub unstarted : Node
unstarted = record { me = newcomer 9 0 old_settings; table = fresh_record 9 ∷ []; store = replicate 192 7 }

-- views, as 16-bit sets: {1,2,5} is 38, {1,2} is 6, {1,5} is 34, {1} is 2 and {1,2,5,7} is 166
abbrev group : ℕ
group = 38

-- the value that an INV brings, and the one that is saved
abbrev brought : List ℕ
brought = 65 ∷ []

abbrev saved : List ℕ
saved = 66 ∷ 49 ∷ []

-- a message of that kind and timestamp, from a sender at an epoch
abbrev inv : ℕ → ℕ → ℕ → ℕ → Deed
inv v t from e = does (Deliver (record { sender = from; epoch = e; message = Inv (record { version = v; tie = t }) })) brought

abbrev ack : ℕ → ℕ → ℕ → ℕ → Deed
ack v t from e = does (Deliver (record { sender = from; epoch = e; message = Ack (record { version = v; tie = t }) })) []

abbrev val : ℕ → ℕ → ℕ → ℕ → Deed
val v t from e = does (Deliver (record { sender = from; epoch = e; message = Val (record { version = v; tie = t }) })) []

abbrev save : Deed
save = does Write saved

-- a save over what was asked for with that timestamp
abbrev save_over : ℕ → ℕ → Deed
save_over v t = does (Commit (record { version = v; tie = t })) saved

abbrev inv_of : ℕ → ℕ → Message
inv_of v t = Inv (record { version = v; tie = t })

abbrev ack_of : ℕ → ℕ → Message
ack_of v t = Ack (record { version = v; tie = t })

abbrev val_of : ℕ → ℕ → Message
val_of v t = Val (record { version = v; tie = t })

-- a fresh start, then the deeds
abbrev fresh : List Deed → List Deed
fresh ds = starts 2 group old_settings ∷ ds

-- the same in a group with the new rule (02, Wish 6)
abbrev fresh_lower : List Deed → List Deed
fresh_lower ds = starts 2 group new_settings ∷ ds

-- a replay of 5's save (1,5) by this laptop, one byte long
abbrev replaying : Record
replaying = record {
  state = state.Replay;
  timestamp = record { version = 1; tie = 5 };
  writer = 2;
  written = record { version = 1; tie = 5 };
  acks = 0;
  len = 1;
}

-- 01, "From the ringing table"
unfoldable pub ringing : List Row
ringing =
    -- fresh: (0,1), valid
    row [] (starts 2 group old_settings) (answers 0 ∷ leaves state.Valid ∷ stamps 0 1 ∷ last_writer 1 ∷ last_write 0 1 ∷ acknowledged_by 0 ∷ holding [] ∷ silent ∷ [])
    -- write: (1,2), state write
    ∷ row (fresh []) save (answers 0 ∷ leaves state.Write ∷ stamps 1 2 ∷ last_writer 2 ∷ last_write 1 2 ∷ acknowledged_by 0 ∷ holding saved ∷ sends (inv_of 1 2) ∷ [])
    -- no row of the paper: after a finished one a write of 1 byte, which empties the acknowledgements and leaves none of the 2 bytes
    ∷ row (fresh (save ∷ ack 1 2 1 0 ∷ ack 1 2 5 0 ∷ [])) (does Write (67 ∷ [])) (answers 0 ∷ leaves state.Write ∷ stamps 2 2 ∷ last_writer 2 ∷ last_write 2 2 ∷ acknowledged_by 0 ∷ holding (67 ∷ []) ∷ sends (inv_of 2 2) ∷ [])
    -- write at (1,2), INV (1,5): invalid-write (1,5)
    ∷ row (fresh (save ∷ [])) (inv 1 5 5 0) (answers 0 ∷ leaves state.InvalidWrite ∷ stamps 1 5 ∷ last_writer 5 ∷ last_write 1 2 ∷ acknowledged_by 0 ∷ holding brought ∷ sends (ack_of 1 5) ∷ [])
    -- same, INV (1,1): ACK leaves, record unchanged
    ∷ row (fresh (save ∷ [])) (inv 1 1 1 0) (answers 0 ∷ sends (ack_of 1 1) ∷ unchanged ∷ [])
    -- no rows of the paper: the other states that an INV finds; in the last 5's save comes from 1, which replays it: the last writer is the sender
    ∷ row (fresh []) (inv 1 5 5 0) (answers 0 ∷ leaves state.Invalid ∷ stamps 1 5 ∷ last_writer 5 ∷ last_write 0 1 ∷ acknowledged_by 0 ∷ holding brought ∷ sends (ack_of 1 5) ∷ [])
    ∷ row (fresh (inv 1 5 5 0 ∷ [])) (inv 2 5 5 0) (answers 0 ∷ leaves state.Invalid ∷ stamps 2 5 ∷ last_writer 5 ∷ last_write 0 1 ∷ acknowledged_by 0 ∷ holding brought ∷ sends (ack_of 2 5) ∷ [])
    ∷ row (fresh (save ∷ ack 1 2 1 0 ∷ inv 1 5 5 0 ∷ [])) (inv 2 5 1 0) (answers 0 ∷ leaves state.InvalidWrite ∷ stamps 2 5 ∷ last_writer 1 ∷ last_write 1 2 ∷ acknowledged_by 2 ∷ holding brought ∷ sends (ack_of 2 5) ∷ [])
    -- replay at (1,5), INV (2,1): invalid
    ∷ row (fresh (lays replaying (66 ∷ []) ∷ [])) (inv 2 1 1 0) (answers 0 ∷ leaves state.Invalid ∷ stamps 2 1 ∷ last_writer 1 ∷ last_write 1 5 ∷ acknowledged_by 0 ∷ holding brought ∷ sends (ack_of 2 1) ∷ [])
    -- no rows of the paper: how an event leads there, once a view is without 5; a replay empties the acknowledgements
    ∷ row (fresh (inv 1 5 5 0 ∷ turns 1 6 ∷ [])) (does Replay []) (answers 0 ∷ leaves state.Replay ∷ stamps 1 5 ∷ last_writer 2 ∷ last_write 1 5 ∷ acknowledged_by 0 ∷ holding brought ∷ sends (inv_of 1 5) ∷ [])
    ∷ row (fresh (save ∷ ack 1 2 1 0 ∷ inv 1 5 5 0 ∷ val 1 5 5 0 ∷ inv 2 5 5 0 ∷ turns 1 6 ∷ [])) (does Replay []) (answers 0 ∷ leaves state.Replay ∷ stamps 2 5 ∷ last_writer 2 ∷ last_write 2 5 ∷ acknowledged_by 0 ∷ holding brought ∷ sends (inv_of 2 5) ∷ [])
    -- 02, Wish 2: the same in invalid-write, its own save (1,2) acknowledged by 1; with 5 in the view: 16
    ∷ row (fresh (save ∷ ack 1 2 1 0 ∷ inv 1 5 5 0 ∷ turns 1 6 ∷ [])) (does Replay []) (answers 0 ∷ leaves state.Replay ∷ stamps 1 5 ∷ last_writer 2 ∷ last_write 1 5 ∷ acknowledged_by 0 ∷ holding brought ∷ sends (inv_of 1 5) ∷ [])
    ∷ row (fresh (save ∷ ack 1 2 1 0 ∷ inv 1 5 5 0 ∷ [])) (does Replay []) (answers 16 ∷ unchanged ∷ silent ∷ [])
    -- "The laptop's own overtaken save is given up": an ACK of it, 13; that of (1,5) is the last; and a greater INV: invalid, not invalid-write
    ∷ row (fresh (save ∷ inv 1 5 5 0 ∷ turns 1 6 ∷ does Replay [] ∷ [])) (ack 1 2 1 1) (answers 13 ∷ unchanged ∷ silent ∷ [])
    ∷ row (fresh (save ∷ inv 1 5 5 0 ∷ turns 1 6 ∷ does Replay [] ∷ [])) (ack 1 5 1 1) (answers 0 ∷ leaves state.Valid ∷ stamps 1 5 ∷ last_writer 2 ∷ last_write 1 5 ∷ acknowledged_by 2 ∷ holding brought ∷ sends (val_of 1 5) ∷ [])
    ∷ row (fresh (save ∷ inv 1 5 5 0 ∷ turns 1 6 ∷ does Replay [] ∷ [])) (inv 2 1 1 1) (answers 0 ∷ leaves state.Invalid ∷ stamps 2 1 ∷ last_writer 1 ∷ last_write 1 5 ∷ acknowledged_by 0 ∷ holding brought ∷ sends (ack_of 2 1) ∷ [])
    -- ACK (1,2) from 5: counted; a second time: 13
    ∷ row (fresh (save ∷ [])) (ack 1 2 5 0) (answers 0 ∷ leaves state.Write ∷ stamps 1 2 ∷ last_writer 2 ∷ last_write 1 2 ∷ acknowledged_by 32 ∷ holding saved ∷ silent ∷ [])
    ∷ row (fresh (save ∷ ack 1 2 5 0 ∷ [])) (ack 1 2 5 0) (answers 13 ∷ unchanged ∷ silent ∷ [])
    -- 02, Wish 1: the ACK that completes the view, in write and in replay: valid, and the VAL leaves; then validate: 15
    ∷ row (fresh (save ∷ ack 1 2 5 0 ∷ [])) (ack 1 2 1 0) (answers 0 ∷ leaves state.Valid ∷ stamps 1 2 ∷ last_writer 2 ∷ last_write 1 2 ∷ acknowledged_by 34 ∷ holding saved ∷ sends (val_of 1 2) ∷ [])
    ∷ row (fresh (inv 1 5 5 0 ∷ turns 1 6 ∷ does Replay [] ∷ [])) (ack 1 5 1 1) (answers 0 ∷ leaves state.Valid ∷ stamps 1 5 ∷ last_writer 2 ∷ last_write 1 5 ∷ acknowledged_by 2 ∷ holding brought ∷ sends (val_of 1 5) ∷ [])
    ∷ row (fresh (save ∷ ack 1 2 5 0 ∷ ack 1 2 1 0 ∷ [])) (does Validate []) (answers 15 ∷ unchanged ∷ silent ∷ [])
    -- the same in invalid-write: counted, and nothing else
    ∷ row (fresh (save ∷ ack 1 2 1 0 ∷ inv 1 5 5 0 ∷ [])) (ack 1 2 5 0) (answers 0 ∷ leaves state.InvalidWrite ∷ stamps 1 5 ∷ last_writer 5 ∷ last_write 1 2 ∷ acknowledged_by 34 ∷ holding brought ∷ silent ∷ [])
    -- the view is the one held: with 5 struck off, 1's ACK is the last; an ACK of 5 from before neither helps nor hinders
    ∷ row (fresh (save ∷ turns 1 6 ∷ [])) (ack 1 2 1 1) (answers 0 ∷ leaves state.Valid ∷ stamps 1 2 ∷ last_writer 2 ∷ last_write 1 2 ∷ acknowledged_by 2 ∷ holding saved ∷ sends (val_of 1 2) ∷ [])
    ∷ row (fresh (save ∷ ack 1 2 5 0 ∷ turns 1 6 ∷ [])) (ack 1 2 1 1) (answers 0 ∷ leaves state.Valid ∷ stamps 1 2 ∷ last_writer 2 ∷ last_write 1 2 ∷ acknowledged_by 34 ∷ holding saved ∷ sends (val_of 1 2) ∷ [])
    -- nor does that of 7, struck off from {1,2,5,7}, stand for 5's: as many are counted as there are others
    ∷ row (starts 2 166 old_settings ∷ save ∷ ack 1 2 7 0 ∷ turns 1 group ∷ []) (ack 1 2 1 1) (answers 0 ∷ leaves state.Write ∷ stamps 1 2 ∷ last_writer 2 ∷ last_write 1 2 ∷ acknowledged_by 130 ∷ holding saved ∷ silent ∷ [])
    -- invalid-write (1,5): VAL (1,5) valid, VAL (1,2) 14
    ∷ row (fresh (save ∷ inv 1 5 5 0 ∷ [])) (val 1 5 5 0) (answers 0 ∷ leaves state.Valid ∷ stamps 1 5 ∷ last_writer 5 ∷ last_write 1 2 ∷ acknowledged_by 0 ∷ holding brought ∷ silent ∷ [])
    ∷ row (fresh (save ∷ inv 1 5 5 0 ∷ [])) (val 1 2 5 0) (answers 14 ∷ unchanged ∷ silent ∷ [])
    -- write, acknowledged by 1: validate 15; after view {1,2}, epoch 1, accepted
    ∷ row (fresh (save ∷ ack 1 2 1 0 ∷ [])) (does Validate []) (answers 15 ∷ unchanged ∷ silent ∷ [])
    ∷ row (fresh (save ∷ ack 1 2 1 0 ∷ turns 1 6 ∷ [])) (does Validate []) (answers 0 ∷ leaves state.Valid ∷ stamps 1 2 ∷ last_writer 2 ∷ last_write 1 2 ∷ acknowledged_by 2 ∷ holding saved ∷ sends (val_of 1 2) ∷ [])
    -- write at version 4,294,967,294 accepted, at 4,294,967,295: 9
    ∷ row (fresh (inv 4294967294 5 5 0 ∷ [])) save (answers 0 ∷ leaves state.Write ∷ stamps 4294967295 2 ∷ [])
    ∷ row (fresh (inv 4294967295 5 5 0 ∷ [])) save (answers 9 ∷ unchanged ∷ silent ∷ [])
    -- view epoch 0: 18; epoch 1 {1}: 19; {1,5} accepted, then 3
    ∷ row (fresh []) (turns 0 group) (answers 18 ∷ unchanged ∷ [])
    ∷ row (fresh []) (turns 1 2) (answers 19 ∷ unchanged ∷ [])
    ∷ row (fresh []) (turns 1 34) (answers 0 ∷ silent ∷ [])
    ∷ row (fresh (turns 1 34 ∷ [])) (turns 2 34) (answers 3 ∷ unchanged ∷ [])
    ∷ row (fresh (turns 1 34 ∷ [])) (does Read []) (answers 3 ∷ unchanged ∷ [])
    -- 02, Wish 5: an ask moves nothing, and hands out value and stamp; refused as a read is, the empty part and (0,0)
    ∷ row (fresh []) (does Ask []) (answers 0 ∷ unchanged ∷ silent ∷ hands_out [] 0 1 ∷ [])
    ∷ row (fresh (save ∷ inv 1 5 5 0 ∷ val 1 5 5 0 ∷ [])) (does Ask []) (answers 0 ∷ unchanged ∷ silent ∷ hands_out brought 1 5 ∷ [])
    ∷ row (fresh (save ∷ [])) (does Ask []) (answers 6 ∷ unchanged ∷ silent ∷ hands_out [] 0 0 ∷ [])
    ∷ row (fresh (turns 1 34 ∷ [])) (does Ask []) (answers 3 ∷ unchanged ∷ silent ∷ hands_out [] 0 0 ∷ [])
    -- a commit goes on as a write; over another save the same, and nothing is left of its acknowledgements
    ∷ row (fresh []) (save_over 0 1) (answers 0 ∷ leaves state.Write ∷ stamps 1 2 ∷ last_writer 2 ∷ last_write 1 2 ∷ acknowledged_by 0 ∷ holding saved ∷ sends (inv_of 1 2) ∷ [])
    ∷ row (fresh (save ∷ ack 1 2 5 0 ∷ ack 1 2 1 0 ∷ [])) (save_over 1 2) (answers 0 ∷ leaves state.Write ∷ stamps 2 2 ∷ last_writer 2 ∷ last_write 2 2 ∷ acknowledged_by 0 ∷ holding saved ∷ sends (inv_of 2 2) ∷ [])
    -- where a newer save came between: 26, invalid and valid again; on its own save, under way or overtaken: 26
    ∷ row (fresh (inv 1 5 5 0 ∷ [])) (save_over 0 1) (answers 26 ∷ unchanged ∷ silent ∷ [])
    ∷ row (fresh (inv 1 5 5 0 ∷ [])) (save_over 1 5) (answers 26 ∷ unchanged ∷ silent ∷ [])
    ∷ row (fresh (inv 1 5 5 0 ∷ val 1 5 5 0 ∷ [])) (save_over 0 1) (answers 26 ∷ unchanged ∷ silent ∷ [])
    ∷ row (fresh (inv 1 5 5 0 ∷ val 1 5 5 0 ∷ [])) (save_over 1 5) (answers 0 ∷ leaves state.Write ∷ stamps 2 2 ∷ last_writer 2 ∷ last_write 2 2 ∷ acknowledged_by 0 ∷ holding saved ∷ sends (inv_of 2 2) ∷ [])
    ∷ row (fresh (save ∷ [])) (save_over 1 2) (answers 26 ∷ unchanged ∷ silent ∷ [])
    ∷ row (fresh (save ∷ inv 1 5 5 0 ∷ val 1 5 5 0 ∷ [])) (save_over 1 2) (answers 26 ∷ unchanged ∷ silent ∷ [])
    -- 02, Wish 6: a start under each rule, the lowest number of the view under both; a view keeps the rule, also a refused one
    ∷ row [] (starts 2 group new_settings) (answers 0 ∷ ties_by Lower ∷ leaves state.Valid ∷ stamps 0 1 ∷ last_writer 1 ∷ last_write 0 1 ∷ acknowledged_by 0 ∷ holding [] ∷ silent ∷ [])
    ∷ row [] (starts 2 group old_settings) (answers 0 ∷ ties_by Higher ∷ [])
    ∷ row (fresh_lower []) (turns 1 6) (answers 0 ∷ ties_by Lower ∷ [])
    ∷ row (fresh []) (turns 1 6) (answers 0 ∷ ties_by Higher ∷ [])
    ∷ row (fresh_lower []) (turns 0 6) (answers 18 ∷ ties_by Lower ∷ unchanged ∷ [])
    -- under the new rule the rows of the two INVs are the other way round: (1,5) is not greater than (1,2), and (1,1) is
    ∷ row (fresh_lower (save ∷ [])) (inv 1 5 5 0) (answers 0 ∷ sends (ack_of 1 5) ∷ unchanged ∷ [])
    ∷ row (fresh_lower (save ∷ [])) (inv 1 1 1 0) (answers 0 ∷ leaves state.InvalidWrite ∷ stamps 1 1 ∷ last_writer 1 ∷ last_write 1 2 ∷ acknowledged_by 0 ∷ holding brought ∷ sends (ack_of 1 1) ∷ [])
    -- the version comes first under both: (2,5) is greater than (1,2), and (0,1), as at the start, is not; nor is a stamp greater than itself
    ∷ row (fresh_lower (save ∷ [])) (inv 2 5 5 0) (answers 0 ∷ leaves state.InvalidWrite ∷ stamps 2 5 ∷ last_writer 5 ∷ last_write 1 2 ∷ acknowledged_by 0 ∷ holding brought ∷ sends (ack_of 2 5) ∷ [])
    ∷ row (fresh_lower (save ∷ [])) (inv 0 1 1 0) (answers 0 ∷ sends (ack_of 0 1) ∷ unchanged ∷ [])
    ∷ row (fresh_lower (inv 1 5 5 0 ∷ [])) (inv 1 5 5 0) (answers 0 ∷ sends (ack_of 1 5) ∷ unchanged ∷ [])
    -- and the rule stays after a view: (1,1) is greater than (1,2) in epoch 1 too
    ∷ row (fresh_lower (save ∷ turns 1 6 ∷ [])) (inv 1 1 1 1) (answers 0 ∷ leaves state.InvalidWrite ∷ stamps 1 1 ∷ last_writer 1 ∷ last_write 1 2 ∷ acknowledged_by 0 ∷ holding brought ∷ sends (ack_of 1 1) ∷ [])
    -- epoch 1's VAL at epoch 0: 10
    ∷ row (fresh (inv 1 5 5 0 ∷ [])) (val 1 5 5 1) (answers 10 ∷ unchanged ∷ silent ∷ [])
    ∷ []

-- the paper's rows, and those that pin its numbers and limits
unfoldable pub rows : List Row
rows = ringing ++ limits
