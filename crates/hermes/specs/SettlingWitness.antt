-- Wish 3, computed: for each way to drive a record a situation of the group of `Played`, the list that the recipe gives there, and the text that all show in
-- the end.
use Rattle.std.specs.Prelude.{ℕ, ◌+◌, ◌*◌, ◌≤◌, ◌≡◌, true, ◌⊎◌, length, take}
use mathlib.Core.List.{List, [], ◌∷◌, ◌++◌, Memᴰ}
use Rattle.hermes_record.specs.Members.{has, size}
use Rattle.hermes_record.specs.Order.{Orders, ties}
use Rattle.hermes.specs.Settings.{under, old_settings}
use Rattle.hermes.specs.Node.{record_of, value_of}
use Rattle.hermes.specs.Run.{write, replay, deliver, validate, resend, view, Entry, by, Group, run}
use Rattle.hermes.specs.Agreement.{Entries, Shows, Alike, after}
use Rattle.hermes.specs.Settling.{Gathered, AllHelp, Settled}
use Rattle.hermes.specs.Recipe.{drive, recipe}
use Rattle.hermes.specs.Played.{three, issued, group, story}

-- ---- situations, and what the recipe gives there; messages are numbered as they leave

-- 0 and 2 save together. 2's stamp is the greater: 0 is left in invalid-write, 1 in invalid, and 2 validates. Its VAL, message 4, is lost
abbrev pub lost_val : List Entry
lost_val = by 0 (write 0 (65 ∷ 48 ∷ [])) ∷ by 2 (write 0 (66 ∷ 50 ∷ [])) ∷ by 0 (deliver 1) ∷ by 1 (deliver 1) ∷ by 2 (deliver 2) ∷ by 2 (deliver 3) ∷ []

-- 2 sends its VAL again, message 5
abbrev pub lost_val_recipe : List Entry
lost_val_recipe = by 2 (resend 0) ∷ by 0 (deliver 5) ∷ by 1 (deliver 5) ∷ []

-- 2, the winner, dies before it does so, and is struck off
abbrev pub dead_winner : List Entry
dead_winner = lost_val ++ by 0 (view 1 3) ∷ by 1 (view 1 3) ∷ []

-- 0 gives its own save up and replays 2's: INV 5, ACK 6, VAL 7
abbrev pub dead_winner_recipe : List Entry
dead_winner_recipe = by 0 (replay 0) ∷ by 1 (deliver 5) ∷ by 0 (deliver 6) ∷ by 1 (deliver 7) ∷ []

-- or 1 does
abbrev pub dead_winner_by_other : List Entry
dead_winner_by_other = by 1 (replay 0) ∷ by 0 (deliver 5) ∷ by 1 (deliver 6) ∷ by 0 (deliver 7) ∷ []

-- `lost_val`, but the VAL reaches 1: the next one goes to 0 alone
abbrev pub half_told : List Entry
half_told = lost_val ++ by 1 (deliver 4) ∷ []

abbrev pub half_told_recipe : List Entry
half_told_recipe = by 2 (resend 0) ∷ by 0 (deliver 5) ∷ []

-- 0 saves, and nobody hears of it
abbrev pub lost_save : List Entry
lost_save = by 0 (write 0 (65 ∷ 48 ∷ [])) ∷ []

-- 0 sends its INV again, message 1; ACKs 2 and 3, VAL 4
abbrev pub lost_save_recipe : List Entry
lost_save_recipe = by 0 (resend 0) ∷ by 1 (deliver 1) ∷ by 2 (deliver 1) ∷ by 0 (deliver 2) ∷ by 0 (deliver 3) ∷ by 1 (deliver 4) ∷ by 2 (deliver 4) ∷ []

-- 1 has heard of it and is counted: the INV, now message 2, goes to 2 alone. ACK 3, VAL 4
abbrev pub half_heard : List Entry
half_heard = lost_save ++ by 1 (deliver 0) ∷ by 0 (deliver 1) ∷ []

abbrev pub half_heard_recipe : List Entry
half_heard_recipe = by 0 (resend 0) ∷ by 2 (deliver 2) ∷ by 0 (deliver 3) ∷ by 1 (deliver 4) ∷ by 2 (deliver 4) ∷ []

-- 1 saves, 0 replies, and 2 is struck off before it does: everyone has replied to 1, and no ACK is left to come
abbrev pub vain_save : List Entry
vain_save = by 1 (write 0 (67 ∷ 49 ∷ [])) ∷ by 0 (deliver 0) ∷ by 1 (deliver 1) ∷ by 0 (view 1 3) ∷ by 1 (view 1 3) ∷ []

-- 1 validates: VAL 2
abbrev pub vain_save_recipe : List Entry
vain_save_recipe = by 1 (validate 0) ∷ by 0 (deliver 2) ∷ []

-- ---- what is shown of them

-- after these entries all laptops of epoch e's view are at that epoch, the recipe is that list, and after it they all show the record valid with that text
pub record Computed (before : List Entry) (e : ℕ) (list : List Entry) (text : List ℕ) : Type 0 where
  pub gathered : Gathered three issued e (run ties group before)
  pub gives : recipe (under ties old_settings) (issued e) 0 (run ties group before) ≡ list
  pub shown : (m : ℕ) → has (issued e) m ≡ true → Shows (after ties (run ties group before) list m) 0 × (value_of 0 (after ties (run ties group before) list m) ≡ text)

-- and so that list is one of which Wish 3 speaks
pub record Brings (before : List Entry) (e : ℕ) (list : List Entry) (text : List ℕ) : Type 0 where
  pub entries : Entries three issued before
  pub computed : Computed before e list text
  pub settled : Settled ties old_settings (issued e) 0 (run ties group before) list

-- an entry that helps, in other words: one of a laptop of the view; no write, no view, no read; and what it delivers was not there at the outset
abbrev pub Only : (set i old : ℕ) → Entry → Type 0
Only set i old a = (has set a.who ≡ true) × ((a.what ≡ replay i) ⊎ ((a.what ≡ validate i) ⊎ ((a.what ≡ resend i) ⊎ ((k : ℕ) × (a.what ≡ deliver k) × (old ≤ k)))))

-- `proofs/SettlingPremises` computes it
pub record SettlingWitness : Type 0 where
  -- each way to drive: the VAL again; a replay; the INV again; a validation; and nothing is left to do
  pub lost : Brings lost_val 0 lost_val_recipe (66 ∷ 50 ∷ [])
  pub dead : Brings dead_winner 1 dead_winner_recipe (66 ∷ 50 ∷ [])
  pub unheard : Brings lost_save 0 lost_save_recipe (65 ∷ 48 ∷ [])
  pub vain : Brings vain_save 1 vain_save_recipe (67 ∷ 49 ∷ [])
  pub fresh : Brings [] 0 [] []
  -- no message goes where it would be refused: no VAL to who shows the record, no INV to who is counted
  pub told : Brings half_told 0 half_told_recipe (66 ∷ 50 ∷ [])
  pub heard : Brings half_heard 0 half_heard_recipe (65 ∷ 48 ∷ [])
  -- another driver than the recipe's
  pub other : (drive (under ties old_settings) (issued 1) 0 (run ties group dead_winner) 1 (record_of 0 ((run ties group dead_winner).at 1)).state ≡ dead_winner_by_other)
      × Settled ties old_settings (issued 1) 0 (run ties group dead_winner) dead_winner_by_other
  -- 3k − 2 is reached, with two laptops and with three
  pub reached_by_two : length dead_winner_recipe + 2 ≡ 3 * size (issued 1)
  pub reached_by_three : length lost_save_recipe + 2 ≡ 3 * size (issued 0)
  -- and of 0's lost save no shorter list makes all three show it
  pub no_fewer : (entries : List Entry) → AllHelp ties (issued 0) 0 (length (run ties group lost_save).log) (run ties group lost_save) entries
      → ((m : ℕ) → has (issued 0) m ≡ true → Shows (after ties (run ties group lost_save) entries m) 0) → length lost_save_recipe ≤ length entries
  -- what `Settled` claims of any list: after each that settles 0's lost save all three show what 0 had
  pub claims : (entries : List Entry) → Settled ties old_settings (issued 0) 0 (run ties group lost_save) entries
      → (m : ℕ) → has (issued 0) m ≡ true → Shows (after ties (run ties group lost_save) entries m) 0 × Alike 0 (after ties (run ties group lost_save) entries m) ((run ties group lost_save).at 0)
  -- the premises can be met by every kind of entry: 1's last save of `struck_off`, before anybody hears of it
  pub met : Gathered three issued 1 (run ties group (take 36 story))
      × Settled ties old_settings (issued 1) 0 (run ties group (take 36 story)) (recipe (under ties old_settings) (issued 1) 0 (run ties group (take 36 story)))
  -- nothing else is done
  pub only : (wins : Orders) (set i old : ℕ) (g : Group) (entries : List Entry) → AllHelp wins set i old g entries → (a : Entry) → Memᴰ a entries → Only set i old a
