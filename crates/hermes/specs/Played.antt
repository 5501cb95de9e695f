-- A group of three with one record each, and two lists of entries: document 01's played case, and one with every kind of entry, accepted and
-- refused.
use Rattle.std.specs.Prelude.{ℕ, zero, suc, Bool, List, [], ◌∷◌, ◌++◌, ltb, replicate}
use Rattle.hermes_record.specs.declared.timestamp.Timestamp.{Timestamp}
use Rattle.hermes_record.specs.declared.record.Record.{Record}
use Rattle.hermes.specs.declared.event.Settings.{Settings}
use Rattle.hermes_record.specs.Order.{ties}
use Rattle.hermes_record.specs.Record.{fresh_record}
use Rattle.hermes.specs.Settings.{old_settings}
use Rattle.hermes.specs.Event.{number_of}
use Rattle.hermes.specs.Node.{Node, newcomer, start}
use Rattle.hermes.specs.Run.{Action, read, ask, write, commit, replay, deliver, validate, resend, view, Entry, by, Group, Result, nothing, event, result, advance}

-- numbers 0, 1 and 2
abbrev pub three : ℕ → Bool
three k = ltb k 3

-- all are in the first view, and 2 is struck off in every later one
abbrev pub issued : ℕ → ℕ
issued zero = 7
issued (suc epoch) = 3

-- memory as it may be found
abbrev pub lent_table : List Record
lent_table = fresh_record 9 ∷ []

-- laptop k as its start leaves it there, in a group with these settings
abbrev pub fresh : Settings → ℕ → Node
fresh settings k = record {
  me = newcomer k 7 settings;
  table = (start k 7 settings lent_table (replicate 192 0)).table;
  store = (start k 7 settings lent_table (replicate 192 0)).store;
}

-- all of them, with nothing sent
abbrev pub group_with : Settings → Group
group_with settings = record { at = fresh settings; log = [] }

-- the group of these lists: 02, Wish 6, the "playing program keep[s] the old rule"
abbrev pub group : Group
group = group_with old_settings

-- 01, "The playing program": write 0 A1, deliver 1 0, deliver 2 0, deliver 0 1, deliver 0 2, validate 0, deliver 1 3, read 1, read 2
abbrev pub played : List Entry
played =
    by 0 (write 0 (65 ∷ 49 ∷ [])) ∷ by 1 (deliver 0) ∷ by 2 (deliver 0) ∷ by 0 (deliver 1) ∷ by 0 (deliver 2) ∷ by 0 (validate 0)
    ∷ by 1 (deliver 3) ∷ by 1 (read 0) ∷ by 2 (read 0) ∷ []

-- the number that an entry answers; an unknown log number is none
abbrev pub told : Result → List ℕ
told nothing = []
told (event o) = number_of o.answer ∷ []

-- the numbers that a list of entries answers
abbrev pub answers : Group → List Entry → List ℕ
answers g [] = []
answers g (a ∷ rest) = told (result ties g a) ++ answers (advance ties g a) rest

-- ---- every kind of entry, accepted and refused

-- an entry, and the number that it answers
pub record Line : Type 0 where
  pub entry : Entry
  pub number : ℕ

-- laptop k does that, and it is accepted
abbrev pub accepts : ℕ → Action → Line
accepts k a = record { entry = by k a; number = 0 }

-- or refused, by that number
abbrev pub refuses : ℕ → Action → ℕ → Line
refuses k a number = record { entry = by k a; number = number }

-- the entries of lines, and their numbers
abbrev pub entries_of : List Line → List Entry
entries_of [] = []
entries_of (x ∷ rest) = x.entry ∷ entries_of rest

abbrev pub numbers_of : List Line → List ℕ
numbers_of [] = []
numbers_of (x ∷ rest) = x.number ∷ numbers_of rest

-- a version and a tie-breaker
abbrev pub stamp : ℕ → ℕ → Timestamp
stamp version tie = record { version = version; tie = tie }

-- All three save together. 0's save is overtaken, though 1 has acknowledged it; 0 holds 2's, the greatest, and has acknowledged 1's, when 2 is struck
-- off: so 1 may validate its own, and 0 gives its own up and replays 2's (02, Wish 2). Then 1 asks for it and saves over it (02, Wish 5). Messages are numbered as they leave.
abbrev pub struck_off : List Line
struck_off =
    accepts 0 (read 0)  -- the fresh record
    ∷ accepts 0 (write 0 (90 ∷ 48 ∷ []))  -- Z0: INV, message 0
    ∷ accepts 1 (write 0 (65 ∷ 49 ∷ []))  -- A1: INV, message 1
    ∷ refuses 1 (write 0 (66 ∷ [])) 7  -- its write is under way
    ∷ accepts 1 (deliver 0)  -- Z0's timestamp is not greater: ACK, message 2
    ∷ accepts 0 (deliver 2)  -- 1 is counted, for Z0
    ∷ accepts 2 (write 0 (66 ∷ 50 ∷ []))  -- B2: INV, message 3
    ∷ accepts 0 (deliver 1)  -- Z0 is overtaken: ACK, message 4, which is lost
    ∷ refuses 0 (read 0) 6  -- invalid-write
    ∷ refuses 0 (replay 0) 16  -- the last writer is in the view
    ∷ refuses 0 (resend 0) 17  -- it has nothing under way
    ∷ accepts 0 (deliver 3)  -- the greater timestamp: ACK, message 5
    ∷ accepts 1 (resend 0)  -- INV, message 6
    ∷ accepts 0 (deliver 6)  -- a timestamp that is not greater: ACK, message 7
    ∷ accepts 1 (deliver 7)  -- 0 is counted
    ∷ refuses 1 (deliver 7) 13  -- a repeated ACK
    ∷ refuses 1 (validate 0) 15  -- 2 is not counted
    ∷ accepts 1 (view 1 3)  -- 2 is struck off
    ∷ refuses 1 (view 1 3) 18  -- a repeated view
    ∷ accepts 1 (validate 0)  -- it was the last that was missing: VAL, message 8
    ∷ refuses 0 (deliver 8) 10  -- an early VAL: 0 is in epoch 0
    ∷ accepts 0 (view 1 3)
    ∷ refuses 0 (deliver 8) 14  -- 0 holds the greater timestamp
    ∷ refuses 1 (deliver 3) 10  -- a late INV: it left in epoch 0
    ∷ accepts 0 (replay 0)  -- in invalid-write: INV, message 9
    ∷ refuses 0 (validate 0) 15  -- 1 was counted for Z0, and is no longer
    ∷ accepts 1 (deliver 9)  -- ACK, message 10
    ∷ accepts 0 (deliver 10)  -- the last ACK, in replay: VAL, message 11
    ∷ refuses 2 (deliver 11) 10  -- 2 has missed the change of view, and takes no validation meant for the new group
    ∷ accepts 1 (deliver 11)  -- valid
    ∷ refuses 1 (deliver 11) 14  -- a repeated VAL
    ∷ accepts 1 (deliver 9)  -- a repeated INV: an ACK leaves once more, message 12, and nothing moves
    ∷ accepts 2 (view 1 3)  -- 2 hears of it
    ∷ refuses 2 (read 0) 3  -- and is not in its own view
    ∷ refuses 2 (ask 0) 3
    ∷ accepts 1 (ask 0)  -- B2, of (1,2)
    ∷ refuses 1 (commit 0 (stamp 1 1) (67 ∷ 51 ∷ [])) 26  -- over its own A1, which is there no longer
    ∷ accepts 1 (commit 0 (stamp 1 2) (67 ∷ 51 ∷ []))  -- C3, over what it asked for: INV, message 13
    ∷ accepts 0 (deliver 13)  -- ACK, message 14
    ∷ accepts 1 (deliver 14)  -- the last ACK, in write: VAL, message 15
    ∷ refuses 1 (validate 0) 15  -- the ACK has settled it
    ∷ accepts 0 (deliver 15)  -- valid
    ∷ []

-- its entries
abbrev pub story : List Entry
story = entries_of struck_off
