-- A morning of three laptops with one record each, in a group with the new rule of ties, as their callers make it: calls of every kind, some of them
-- refused, that meet the premises of `CalledDemand3`.
use Rattle.std.specs.Prelude.{ℕ, zero, suc, ◌≡◌, Bool, true, List, [], ◌∷◌, ◌++◌, ltb, take, drop, replicate}
use Rattle.hermes_record.specs.declared.timestamp.Timestamp.{Timestamp}
use Rattle.hermes_record.specs.declared.timestamp.Rule.{Rule}
use Rattle.hermes_record.specs.declared.timestamp.Rule.TheVariants.{Higher, Lower}
use Rattle.hermes_record.specs.Order.{ties, later}
use Rattle.hermes.specs.Settings.{under, new_settings}
use Rattle.hermes.specs.Node.{newcomer, start, record_of}
use Rattle.hermes.specs.Agreement.{Sees, Shows, Alike}
use Rattle.export_records.specs.Layout.{table_of}
use Rattle.export_numbers.specs.declared.numbers.CetskobiMessage.{CetskobiMessage}
use Rattle.export_numbers.specs.Crossing.{identity_of, answering}
use Rattle.export_membership.specs.Admission.{filled_by}
use Rattle.export_packets.specs.Calls.{accept_answer, pack_answer, pack_output}
use Rattle.check_air.specs.Air.{Sending, words_sent, bodies_sent}
use Rattle.check_air.specs.Answered.{call_number, after_call}
use Rattle.check_air.specs.Opened.{Hands, CallsApart}
use Rattle.check_air.specs.Callers.{
  Laptop,
  Call,
  read,
  ask,
  write,
  commit,
  replay,
  deliver,
  deliver_packet,
  deliver_accepted,
  validate,
  resend,
  view,
  Hut,
  Turn,
  next,
  after,
  Follows,
  AllBegun,
  laptop,
  Finishes,
  CallsAgree,
}

-- ---- the group

-- the numbers of its laptops
abbrev pub three : ℕ → Bool
three k = ltb k 3

-- all are in the first view, and 2 is struck off in every later one
abbrev pub issued : ℕ → ℕ
issued zero = 7
issued (suc epoch) = 3

-- memory as it may be found
abbrev pub lent_table : List ℕ
lent_table = replicate 16 9

abbrev pub lent_store : List ℕ
lent_store = replicate 192 7

-- laptop k as `cetskobi_start` leaves it there
abbrev pub fresh : ℕ → Laptop
fresh k = record {
  me = identity_of (newcomer k 7 new_settings);
  table = filled_by (start k 7 new_settings (table_of lent_table) lent_store).admission lent_table 7;
  store = (start k 7 new_settings (table_of lent_table) lent_store).store;
}

abbrev pub hut : Hut
hut = record { at = fresh; log = [] }

-- ---- its calls

-- a call that laptop k is to make
pub record Plan : Type 0 where
  pub who : ℕ
  pub call : Call

-- laptop k does that
abbrev pub by : ℕ → Call → Plan
by k c = record { who = k; call = c }

-- the call made, with what it answers and leaves
abbrev pub turn : Hut → Plan → Turn
turn h t = record {
  who = t.who;
  call = t.call;
  number = call_number t.call (h.at t.who);
  left = after_call t.call (h.at t.who);
}

abbrev pub turns_of : Hut → List Plan → List Turn
turns_of h [] = []
turns_of h (t ∷ rest) = turn h t ∷ turns_of (next h (turn h t)) rest

-- the numbers that the calls answer
abbrev pub numbers_of : List Turn → List ℕ
numbers_of [] = []
numbers_of (s ∷ rest) = s.number ∷ numbers_of rest

-- ---- what is sent

-- 0's INV with the text A1, 1's ACK of it, and 0's VAL, which leaves in epoch 1
abbrev pub inv : Sending
inv = record { from = identity_of (newcomer 0 7 new_settings); index = 0; left = answering 0 1 0 1; body = 65 ∷ 49 ∷ [] }

abbrev pub ack : Sending
ack = record { from = identity_of (newcomer 1 7 new_settings); index = 0; left = answering 0 2 0 1; body = [] }

abbrev pub val : Sending
val = record { from = identity_of (record { number = 0; epoch = 1; view = 3; settings = new_settings }); index = 0; left = answering 0 3 0 1; body = [] }

-- the packet that `cetskobi_pack` makes in a group with this rule, in an output of 60 bytes
abbrev pub packet_by : Rule → List Sending → List ℕ
packet_by rule ss = take (pack_answer (words_sent ss) (bodies_sent ss) (replicate 60 0)).len (pack_output rule (words_sent ss) (bodies_sent ss) (replicate 60 0))

-- in this group
abbrev pub packet_of : List Sending → List ℕ
packet_of ss = packet_by Lower ss

-- the VAL as numbers
abbrev pub val_numbers : CetskobiMessage
val_numbers = record { kind = 3; sender = 0; tie = 0; epoch = 1; version = 1 }

-- the messages of 1's save, as numbers
abbrev pub inv2 : CetskobiMessage
inv2 = record { kind = 1; sender = 1; tie = 1; epoch = 1; version = 2 }

abbrev pub ack2 : CetskobiMessage
ack2 = record { kind = 2; sender = 0; tie = 1; epoch = 1; version = 2 }

abbrev pub val2 : CetskobiMessage
val2 = record { kind = 3; sender = 1; tie = 1; epoch = 1; version = 2 }

-- numbers of no message
abbrev pub unknown : CetskobiMessage
unknown = record { kind = 9; sender = 0; tie = 0; epoch = 1; version = 1 }

-- ---- the morning

abbrev pub plans : List Plan
plans =
    by 0 (read 0)  -- the fresh record
    ∷ by 0 (write 0 (65 ∷ 49 ∷ []))  -- A1: the INV leaves
    ∷ by 0 (write 0 [])  -- 7: a write is under way
    ∷ by 0 (read 0)  -- 6: so it is
    ∷ by 1 (deliver_packet (packet_of (inv ∷ inv ∷ [])) 0)  -- the ACK leaves
    ∷ by 1 (deliver_packet (1 ∷ 1 ∷ 0 ∷ []) 0)  -- 20: the front of a packet
    ∷ by 1 (deliver_accepted (1 ∷ 1 ∷ 0 ∷ []) (accept_answer Lower (packet_of (inv ∷ inv ∷ []))) 0)  -- 21: by the facts of another
    ∷ by 1 (resend 0)  -- 17: it has nothing to send
    ∷ by 0 (deliver_accepted (packet_of (inv ∷ ack ∷ [])) (accept_answer Lower (packet_of (inv ∷ ack ∷ []))) 1)  -- 1 is counted
    ∷ by 0 (validate 0)  -- 15: 2 has not acknowledged it
    ∷ by 0 (view 1 3)  -- 2 is struck off
    ∷ by 0 (validate 0)  -- the VAL leaves
    ∷ by 0 (resend 0)  -- and once more
    ∷ by 0 (replay 0)  -- 16: the record is valid
    ∷ by 1 (view 0 7)  -- 18: the epoch that it has
    ∷ by 1 (view 1 3)
    ∷ by 1 (deliver_accepted (packet_of (val ∷ [])) (accept_answer Lower (packet_of (inv ∷ inv ∷ []))) 0)  -- by the facts of another, which do no harm
    ∷ by 1 (deliver 0 val_numbers [])  -- 14: it has come already
    ∷ by 1 (deliver 0 unknown [])  -- 12: a kind that there is not
    ∷ by 1 (ask 0)  -- A1, of (1,0)
    ∷ by 1 (read 0)  -- the same text
    ∷ by 1 (commit 0 0 0 (66 ∷ []))  -- 26: over the fresh record
    ∷ by 1 (commit 0 1 0 (66 ∷ []))  -- B, over A1: the INV leaves
    ∷ by 1 (ask 0)  -- 6: a write is under way
    ∷ by 1 (commit 0 1 0 (66 ∷ []))  -- 26: its own save stands there, and not A1
    ∷ by 0 (deliver 0 inv2 (66 ∷ []))  -- the ACK leaves
    ∷ by 1 (deliver 0 ack2 [])  -- it was the last: the VAL leaves
    ∷ by 0 (deliver 0 val2 [])
    ∷ by 0 (read 0)
    ∷ by 1 (deliver_packet (packet_by Higher (inv ∷ [])) 0)  -- 27: one of a station with the old rule
    ∷ []

abbrev pub morning : List Turn
morning = turns_of hut plans

-- the premises of `lasting`: call j, counted from 0, is laptop k's, finishes the record and answers 0, with m in k's view, and m shows the
-- record valid after the morning
pub record FinishedCall (j k : ℕ) (c : Call) (m : ℕ) : Type 0 where
  pub split : morning ≡ take j morning ++ turn (after hut (take j morning)) (by k c) ∷ drop (suc j) morning
  pub finishes : Finishes (laptop hut (take j morning) k) 0 c
  pub number : (turn (after hut (take j morning)) (by k c)).number ≡ 0
  pub then : Sees (laptop hut (take j morning) k) m
  pub shown : Shows (laptop hut morning m) 0

-- A1's timestamp
abbrev pub a1 : Timestamp
a1 = record { version = 1; tie = 0 }

-- 1's ask, and call j, a commit on A1's timestamp
abbrev pub asking : Turn
asking = turn (after hut (take 19 morning)) (by 1 (ask 0))

abbrev pub committing : ℕ → Turn
committing j = turn (after hut (take j morning)) (by 1 (commit 0 1 0 (66 ∷ [])))

-- what it shows; `proofs/Morning` computes it
pub record Morning : Type 0 where
  pub begun : AllBegun three 1 issued new_settings hut
  pub follows : Follows three issued hut morning
  pub agrees : CallsAgree three 1 new_settings hut morning
  pub numbers : numbers_of morning
      ≡ 0 ∷ 0 ∷ 7 ∷ 6 ∷ 0 ∷ 20 ∷ 21 ∷ 17 ∷ 0 ∷ 15 ∷ 0 ∷ 0 ∷ 0 ∷ 16 ∷ 18 ∷ 0 ∷ 0 ∷ 14 ∷ 12 ∷ 0 ∷ 0 ∷ 26 ∷ 0 ∷ 6 ∷ 26 ∷ 0 ∷ 0 ∷ 0 ∷ 0 ∷ 27 ∷ []
  -- the premises of `alike`
  pub sees : Sees (laptop hut morning 0) 1
  pub seen : Sees (laptop hut morning 1) 0
  pub shows : Shows (laptop hut morning 0) 0
  pub shown : Shows (laptop hut morning 1) 0
  -- and those of `lasting`, of a Validate and of a last ACK
  pub by_validate : FinishedCall 11 0 (validate 0) 1
  pub by_ack : FinishedCall 26 1 (deliver 0 ack2 []) 0
  -- Wish 5: 1 asks, by call 19, and is handed A1
  pub asked : Hands (laptop hut (take 19 morning) 1) (ask 0) 0 a1 (65 ∷ 49 ∷ [])
  -- its commit over it, by call 22, is accepted: until then it showed A1, also after the refused commit between
  pub saves : CallsApart morning (take 19 morning) (take 2 (drop 20 morning)) asking (committing 22)
  pub stamp_kept : (record_of 0 (laptop hut (take 22 morning) 1)).timestamp ≡ a1
  pub shown_still : Shows (laptop hut (take 22 morning) 1) 0
  pub bytes_kept : Alike 0 (laptop hut (take 22 morning) 1) (laptop hut (take 19 morning) 1)
  -- the same once more, by call 24, is refused by 26: a later timestamp stands there
  pub late : CallsApart morning (take 19 morning) (take 4 (drop 20 morning)) asking (committing 24)
  pub newer : later (under ties new_settings) (record_of 0 (laptop hut (take 24 morning) 1)).timestamp a1 ≡ true
  -- whatever its read, by call 20, hands out under that timestamp is A1
  pub one_text : (text : List ℕ) → Hands (laptop hut (take 20 morning) 1) (read 0) 0 a1 text → text ≡ 65 ∷ 49 ∷ []
