-- Wish 5, computed: two laptops of the group of `Played` commit on one timestamp and the greater new one stands, as 02 says; and the premises of
-- `Asking` are met, with something between an ask and its commit.
use Rattle.std.specs.Prelude.{ℕ, suc, ◌≡◌, true, List, [], ◌∷◌, ◌++◌, take, drop}
use Rattle.hermes_record.specs.declared.timestamp.Timestamp.{Timestamp}
use Rattle.hermes_record.specs.declared.record.State.{State}
use Rattle.hermes_record.specs.declared.record.State.TheVariants.{Valid}
use Rattle.hermes_record.specs.Order.{ties, later, NotAfter}
use Rattle.hermes.specs.Settings.{under, old_settings}
use Rattle.hermes.specs.Node.{Node, record_of, value_of}
use Rattle.hermes.specs.Run.{read, ask, commit, deliver, Entry, by, result, run}
use Rattle.hermes.specs.Agreement.{Entries, Shows, Alike, after}
use Rattle.hermes.specs.LastAck.{NoView}
use Rattle.hermes.specs.Asking.{RefusedBy, HandsOut, Apart}
use Rattle.hermes.specs.Played.{three, issued, group, answers, Line, accepts, refuses, entries_of, numbers_of, stamp}

-- "Two laptops may both commit on one stamp, and then the greater new stamp stands as for plain writes": all three ask for the fresh record, 0 and 1
-- commit on (0,0), and B1 stands. Then 2, who saw nothing of it, is refused, and 0 asks again. Messages are numbered as they leave.
abbrev pub on_one_stamp : List Line
on_one_stamp =
    accepts 0 (ask 0)  -- the empty text, of (0,0)
    ∷ accepts 1 (ask 0)
    ∷ accepts 2 (ask 0)
    ∷ accepts 0 (commit 0 (stamp 0 0) (65 ∷ 48 ∷ []))  -- A0, (1,0): INV, message 0
    ∷ accepts 1 (commit 0 (stamp 0 0) (66 ∷ 49 ∷ []))  -- B1, (1,1): INV, message 1
    ∷ refuses 1 (ask 0) 6  -- in write
    ∷ refuses 1 (commit 0 (stamp 1 1) (67 ∷ [])) 26  -- nor is it valid yet
    ∷ accepts 0 (deliver 1)  -- the greater: ACK, message 2
    ∷ accepts 1 (deliver 0)  -- not greater: ACK, message 3
    ∷ accepts 2 (deliver 0)  -- ACK, message 4
    ∷ accepts 2 (deliver 1)  -- ACK, message 5
    ∷ accepts 1 (deliver 2)  -- 0 is counted
    ∷ accepts 1 (deliver 5)  -- the last ACK: VAL, message 6
    ∷ accepts 0 (deliver 6)  -- valid
    ∷ accepts 2 (deliver 6)  -- valid: all three show B1
    ∷ refuses 2 (commit 0 (stamp 0 0) (67 ∷ [])) 26  -- an older timestamp
    ∷ refuses 0 (commit 0 (stamp 1 0) (67 ∷ [])) 26  -- that of its own save, which was overtaken: an equal version
    ∷ refuses 0 (commit 0 (stamp 1 17) (67 ∷ [])) 26  -- a tie-breaker that nobody has
    ∷ accepts 0 (ask 0)  -- B1, of (1,1)
    ∷ accepts 0 (deliver 1)  -- a repeated INV: an ACK leaves once more, message 7, and nothing moves
    ∷ accepts 0 (read 0)
    ∷ accepts 0 (commit 0 (stamp 1 1) (67 ∷ 50 ∷ []))  -- C2, (2,0): INV, message 8
    ∷ []

-- its entries
abbrev pub together : List Entry
together = entries_of on_one_stamp

-- what a laptop has of the record
pub record Held : Type 0 where
  pub state : State
  pub timestamp : Timestamp
  pub value : List ℕ

abbrev pub held : Node → Held
held n = record { state = (record_of 0 n).state; timestamp = (record_of 0 n).timestamp; value = value_of 0 n }

-- what laptop k has after the first entries of the list
abbrev pub held_after : ℕ → ℕ → Held
held_after j k = held (after ties group (take j together) k)

abbrev pub b1 : Held
b1 = record { state = Valid; timestamp = stamp 1 1; value = 66 ∷ 49 ∷ [] }

-- what comes before entry j, counted from 0; and the n entries behind it
abbrev pub up_to : ℕ → List Entry
up_to j = take j together

abbrev pub behind : ℕ → ℕ → List Entry
behind j n = take n (drop (suc j) together)

-- the premises of a claim of `Opened`: entry j is k's ask, which hands out t and text; after n further entries comes b, k's too, and answers this number
pub record AsksThen (j n k : ℕ) (t : Timestamp) (text : List ℕ) (b : Entry) (number : ℕ) : Type 0 where
  pub apart : Apart together (up_to j) (behind j n) (by k (ask 0)) b
  pub hands : HandsOut ties (run ties group (up_to j)) (by k (ask 0)) 0 t text
  pub answers : RefusedBy number (result ties (run ties group (up_to j ++ by k (ask 0) ∷ behind j n)) b)

-- 0's ask at 18, and the first m of what it finds until its commit at 21
abbrev pub point : ℕ → Node
point m = after ties group (up_to 18 ++ by 0 (ask 0) ∷ take m (behind 18 2)) 0

-- what the list shows; `proofs/AskingPremises` computes it
pub record AskingWitness : Type 0 where
  pub entries : Entries three issued together
  pub numbers : answers group together ≡ numbers_of on_one_stamp
  -- the greater new timestamp stands, on all three
  pub stands : (held_after 15 0 ≡ b1) × (held_after 15 1 ≡ b1) × (held_after 15 2 ≡ b1)
  -- `kept`: 0 asks at 18 and commits at 21; at every point between it showed B1
  pub saves : AsksThen 18 2 0 (stamp 1 1) (66 ∷ 49 ∷ []) (by 0 (commit 0 (stamp 1 1) (67 ∷ 50 ∷ []))) 0
  pub stamp_kept : (m : ℕ) → (record_of 0 (point m)).timestamp ≡ stamp 1 1
  pub shown : (m : ℕ) → Shows (point m) 0
  pub bytes_kept : (m : ℕ) → Alike 0 (point m) (after ties group (up_to 18) 0)
  -- `newer`: 2 asks at 2, and its commit at 15 is refused by 26
  pub late : AsksThen 2 12 2 (stamp 0 0) [] (by 2 (commit 0 (stamp 0 0) (67 ∷ []))) 26
  pub newer : later (under ties old_settings) (record_of 0 (after ties group (up_to 2 ++ by 2 (ask 0) ∷ behind 2 12) 2)).timestamp (stamp 0 0) ≡ true
  -- `forward`: what 0 asks for at 0 and at 18 rises; and its read at 20, under the timestamp of 18, hands out that text and no other
  pub again : AsksThen 0 17 0 (stamp 0 0) [] (by 0 (ask 0)) 0
  pub forward : NotAfter (under ties old_settings) (stamp 0 0) (stamp 1 1)
  pub rereads : HandsOut ties (run ties group (up_to 20)) (by 0 (read 0)) 0 (stamp 1 1) (66 ∷ 49 ∷ [])
  pub one_text : (text : List ℕ) → HandsOut ties (run ties group (up_to 20)) (by 0 (read 0)) 0 (stamp 1 1) text → text ≡ 66 ∷ 49 ∷ []
  -- and the premise of `NobodyWaits` of Wish 1: asks and commits are no views
  pub quiet : (k : ℕ) → NoView k together
