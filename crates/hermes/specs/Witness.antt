-- The premises of demand 3 can be met: by a list that has every kind of entry, accepted and refused, a lost, a repeated and a late message and
-- a laptop that is struck off. After it both halves of the claim speak of something.
use Rattle.std.specs.Prelude.{ℕ, suc, ◌+◌, ◌<◌, ◌≡◌, Bool, true, false, cond, not, ◌&&◌, ◌||◌, ◌≢◌, List, [], ◌∷◌, ◌++◌, eqb, length, take, drop}
use Rattle.hermes_record.specs.Members.{has}
use Rattle.hermes_record.specs.Order.{ties}
use Rattle.hermes.specs.Settings.{old_settings}
use Rattle.hermes.specs.Node.{Node, record_of, value_of}
use Rattle.hermes.specs.Run.{Action, read, ask, write, commit, replay, deliver, validate, resend, view, by, advance, run}
use Rattle.hermes.specs.Agreement.{Started, Entries, Sees, Shows, Validation, after, Agreement}
use Rattle.hermes.specs.LastAck.{AllReplied, NoView}
use Rattle.hermes.specs.Overtaken.{replay_of, Past, GivesUp, Turn}
use Rattle.hermes.specs.Played.{three, issued, group, answers, Line, numbers_of, struck_off, story}

-- a number for each kind of entry, to tell them apart
abbrev pub kind : Action → ℕ
kind (read i) = 0
kind (write i v) = 1
kind (replay i) = 2
kind (deliver k) = 3
kind (validate i) = 4
kind (resend i) = 5
kind (view epoch set) = 6
kind (ask i) = 7
kind (commit i t v) = 8

-- some line passes the test
abbrev pub some : (Line → Bool) → List Line → Bool
some p [] = false
some p (x ∷ rest) = p x || some p rest

-- how many lines pass it
abbrev pub many : (Line → Bool) → List Line → ℕ
many p [] = 0
many p (x ∷ rest) = cond (p x) 1 0 + many p rest

-- an accepted entry of that kind is there, and a refused one
abbrev pub BothWays : ℕ → List Line → Type 0
BothWays k lines = (some (λ x. eqb (kind x.entry.what) k && eqb x.number 0) lines ≡ true)
    × (some (λ x. eqb (kind x.entry.what) k && not (eqb x.number 0)) lines ≡ true)

-- an entry that delivers message k
abbrev pub delivers : ℕ → Action → Bool
delivers k (read i) = false
delivers k (ask i) = false
delivers k (write i v) = false
delivers k (commit i t v) = false
delivers k (replay i) = false
delivers k (deliver j) = eqb j k
delivers k (validate i) = false
delivers k (resend i) = false
delivers k (view epoch set) = false

-- replica k after the list `struck_off`
abbrev pub end : ℕ → Node
end k = after ties group story k

-- the premises of `alike`: two replicas are in each other's view, and both show the record valid
pub record TwoScreens (k m : ℕ) : Type 0 where
  pub members : (three k ≡ true) × (three m ≡ true)
  pub apart : k ≢ m
  pub sees : Sees (end k) m
  pub seen : Sees (end m) k
  pub shows : Shows (end k) 0
  pub shown : Shows (end m) 0

-- the premises of `lasting`: entry j, counted from 0, is k's accepted validation by that action with m in its view, and m shows the record
-- valid after the list
pub record FinishedSave (j k : ℕ) (action : Action) (m : ℕ) : Type 0 where
  pub members : (three k ≡ true) × (three m ≡ true)
  pub apart : k ≢ m
  pub split : story ≡ take j story ++ by k action ∷ drop (suc j) story
  pub validation : Validation ties (run ties group (take j story)) (by k action) 0
  pub sees : Sees (after ties group (take j story) k) m
  pub shown : Shows (end m) 0

-- the premises of `GivenUp`, and its claim: entry j, counted from 0, is k's accepted replay in invalid-write; its own save is that of version 1
pub record GivenUpSave (j k : ℕ) : Type 0 where
  pub member : three k ≡ true
  pub split : story ≡ take j story ++ replay_of k 0 ∷ drop (suc j) story
  pub given : GivesUp ties group (take j story) 0 k
  pub save : (record_of 0 (after ties group (take j story) k)).written ≡ record { version = 1; tie = k }
  pub past : Past ties 0 (record_of 0 (after ties group (take j story) k)).written (after ties (advance ties (run ties group (take j story)) (replay_of k 0)) (drop (suc j) story) k)

-- 2, struck off amid a save
abbrev pub left_out : Node
left_out = after ties group (by 2 (write 0 (66 ∷ [])) ∷ by 2 (view 1 3) ∷ []) 2

-- replica n holds C3 under the timestamp of 1's last save
pub record Holds (n : Node) : Type 0 where
  pub timestamp : (record_of 0 n).timestamp ≡ record { version = 2; tie = 1 }
  pub text : value_of 0 n ≡ 67 ∷ 51 ∷ []

-- what the list `struck_off` of `Played` shows; `proofs/Premises` computes it
pub record Witness : Type 0 where
  -- the premises of demand 3, and so its claim
  pub started : Started three 1 issued old_settings group
  pub entries : Entries three issued story
  pub agreed : Agreement ties three 1 old_settings group story
  -- each entry answers the number beside it, and every kind of entry is there
  pub numbers : answers group story ≡ numbers_of struck_off
  pub kinds : (a : Action) → BothWays (kind a) struck_off
  -- message 4 left, and is lost
  pub left : 4 < length (run ties group story).log
  pub lost : some (λ x. delivers 4 x.entry.what) struck_off ≡ false
  -- message 9 is repeated: 1 takes it twice; message 3 is late: its epoch is over
  pub repeated : many (λ x. delivers 9 x.entry.what && (eqb x.entry.who 1 && eqb x.number 0)) struck_off ≡ 2
  pub late : some (λ x. delivers 3 x.entry.what && eqb x.number 10) struck_off ≡ true
  -- 2 is struck off
  pub gone : has (end 2).me.view 2 ≡ false
  -- 0 and 1 show one text; a validation of each kind lasts: by Validate, by the last ACK in replay and by the last ACK in write
  pub screens : TwoScreens 0 1
  pub struck : FinishedSave 19 1 (validate 0) 0
  pub replay : FinishedSave 27 0 (deliver 10) 1
  pub save : FinishedSave 39 1 (deliver 14) 0
  -- the premise of `NobodyWaits`: 0 and 1 get no view at first, and do all else; and after its view 1 waits in vain
  pub quiet0 : NoView 0 (take 21 story)
  pub quiet1 : NoView 1 (take 17 story)
  pub vain : AllReplied 0 (after ties group (take 19 story) 1)
  -- those of `GivenUp`: 0 gives Z0 up
  pub overtaken : GivenUpSave 24 0
  -- the claim of `NobodyHangs`; and that it claims something: for a laptop that is struck off amid a save nothing can be done
  pub turns : (k : ℕ) → three k ≡ true → Sees (end k) k → Turn ties (end k) 0
  pub stuck : Turn ties left_out 0 → ⊥
  pub first : Holds (end 0)
  pub second : Holds (end 1)
