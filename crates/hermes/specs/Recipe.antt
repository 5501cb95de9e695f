-- The list of events that settles a record (02, Wish 3): who brings it back, and by which events. The idea: of the laptops of the view that hold the
-- greatest timestamp one drives. Its INV goes to those that it has not counted, their ACKs come back, and its VAL goes to those that do not
-- show that timestamp yet.
use Rattle.std.specs.Prelude.{ℕ, zero, suc, ◌+◌, ◌≡◌, Bool, true, false, cond, not, ◌&&◌, ◌||◌, List, [], ◌∷◌, ◌++◌, eqb, length}
use Rattle.hermes_record.specs.declared.record.Record.{Record}
use Rattle.hermes_record.specs.declared.record.State.{State}
use Rattle.hermes_record.specs.declared.record.State.TheVariants.{Valid, Invalid, InvalidWrite, Write, Replay}
use Rattle.hermes_record.specs.Members.{has, all_below, count_below, others_in}
use Rattle.hermes_record.specs.Order.{Orders, TieOrders, later}
use Rattle.hermes_record.specs.Record.{one_of}
use Rattle.hermes.specs.Settings.{under}
use Rattle.hermes.specs.Node.{record_of}
use Rattle.hermes.specs.Run.{replay, deliver, validate, resend, Entry, by, Group}
use Rattle.hermes.specs.Settling.{Settled, FromEvery}

-- ---- laptop numbers

-- a laptop, or nobody
pub data Choice : Type 0 where
  nobody : Choice
  laptop : ℕ → Choice

-- the first choice, or else the second
abbrev pub or_else : Choice → Choice → Choice
or_else nobody c = c
or_else (laptop u) c = laptop u

-- the lowest number below n that passes the test
unfoldable pub first : ℕ → (ℕ → Bool) → Choice
first zero p = nobody
first (suc n) p = or_else (first n p) (cond (p n) (laptop n) nobody)

-- an entry for each number below n that passes the test, in rising order
unfoldable pub each : ℕ → (ℕ → Bool) → (ℕ → Entry) → List Entry
each zero p f = []
each (suc n) p f = each n p f ++ cond (p n) (f n ∷ []) []

-- ---- states

-- a save or a replay is under way
abbrev pub under_way : Record → Bool
under_way r = one_of r.state (Write ∷ Replay ∷ [])

-- a read is answered
abbrev pub is_valid : Record → Bool
is_valid r = one_of r.state (Valid ∷ [])

-- another's INV was taken, and its VAL has not come
abbrev pub is_invalid : Record → Bool
is_invalid r = one_of r.state (Invalid ∷ InvalidWrite ∷ [])

-- ---- the laptops of the view `set` beside the driver d

-- all others
abbrev pub other : (set d : ℕ) → ℕ → Bool
other set d u = has set u && not (eqb u d)

-- those that its INV goes to, `acks` being counted
abbrev pub due : (set d acks : ℕ) → ℕ → Bool
due set d acks u = other set d u && not (has acks u)

-- ---- the recipe, for record i of the laptops of the view `set`, which stand as in g; `wins` is their group's order of ties

module _ (wins : ℕ → ℕ → Bool) (set i : ℕ) (g : Group) where
  -- record i of laptop u
  abbrev at : ℕ → Record
  at u = record_of i (g.at u)

  -- u is in the view, and nobody in it holds a later timestamp
  unfoldable pub leads : ℕ → Bool
  leads u = has set u && all_below 16 (λ v. not (has set v && later wins (at v).timestamp (at u).timestamp))

  -- nothing is left to do: all of the view show the record valid
  unfoldable pub all_show : Bool
  all_show = all_below 16 (λ u. not (has set u) || is_valid (at u))

  -- three ways to drive, for those that lead: a save or replay is under way, and goes on; the record is valid, and its last writer says so again; it is
  -- invalid or invalid-write with a last writer that is not in the view, and is taken over
  abbrev pub goes_on : ℕ → Bool
  goes_on u = leads u && under_way (at u)

  abbrev pub says_again : ℕ → Bool
  says_again u = leads u && (is_valid (at u) && eqb (at u).writer u)

  abbrev pub takes_over : ℕ → Bool
  takes_over u = leads u && (is_invalid (at u) && not (has set (at u).writer))

  -- the lowest number, in that order
  unfoldable pub driver : Choice
  driver = or_else (first 16 goes_on) (or_else (first 16 says_again) (first 16 takes_over))

  module _ (d : ℕ) where
    -- those that do not show the greatest timestamp
    abbrev pub late : ℕ → Bool
    late u = other set d u && not (leads u && is_valid (at u))

    -- message k, d's VAL, goes to them
    abbrev pub vals : ℕ → List Entry
    vals k = each 16 late (λ u. by u (deliver k))

    -- message k, d's INV, goes to those that are not counted, and their ACKs come back, numbered as they left; with the last of them the VAL leaves
    abbrev pub round : (k acks : ℕ) → List Entry
    round k acks =
        each 16 (due set d acks) (λ u. by u (deliver k))
        ++ each 16 (due set d acks) (λ u. by d (deliver (k + 1 + count_below u (due set d acks))))
        ++ vals (k + 1 + count_below 16 (due set d acks))

    -- with a save or replay under way d validates if all others are counted, and else sends its INV again
    abbrev pub finish : Bool → List Entry
    finish true = by d (validate i) ∷ vals (length g.log)
    finish false = by d (resend i) ∷ round (length g.log) (at d).acks

    -- by the state of d; what leaves d first is the log's next message
    abbrev pub drive : State → List Entry
    drive Valid = by d (resend i) ∷ vals (length g.log)
    drive Invalid = by d (replay i) ∷ round (length g.log) 0
    drive InvalidWrite = by d (replay i) ∷ round (length g.log) 0
    drive Write = finish (others_in d set (at d).acks)
    drive Replay = finish (others_in d set (at d).acks)

  -- nobody drives only where all show the record
  abbrev pub driven : Choice → List Entry
  driven nobody = []
  driven (laptop d) = drive d (at d).state

  -- nothing, or the driver's list
  unfoldable pub recipe : List Entry
  recipe = cond all_show [] (driven driver)

-- it settles the record, so that the list of `Settling` can be computed
abbrev pub RecipeSettles : Type 0
RecipeSettles = (wins : Orders) → TieOrders wins → FromEvery wins (λ settings set i g. Settled wins settings set i g (recipe (under wins settings) set i g))

-- and so does any other driver's list; `proofs/Settling` proves both
abbrev pub AnyDriverSettles : Type 0
AnyDriverSettles = (wins : Orders) → TieOrders wins → FromEvery wins (λ settings set i g. (d : ℕ)
    → (goes_on (under wins settings) set i g d || (says_again (under wins settings) set i g d || takes_over (under wins settings) set i g d)) ≡ true
    → Settled wins settings set i g (drive (under wins settings) set i g d (record_of i (g.at d)).state))
