-- Wish 6, computed: two laptops of the group of `Played` save at once. By the old rule the higher number's text stands on all three, by the new rule the
-- lower number's; and the promises are claimed under each rule, of a list with every kind of entry too. `Morning` of check_air has every kind of call, accepted
-- and refused, with its numbers, by the new rule.
use Rattle.std.specs.Prelude.{ℕ, ◌≡◌, List, [], ◌∷◌}
use Rattle.hermes_record.specs.declared.record.State.TheVariants.{Valid}
use Rattle.hermes.specs.declared.event.Settings.{Settings}
use Rattle.hermes_record.specs.Order.{ties}
use Rattle.hermes.specs.Settings.{under, old_settings, new_settings}
use Rattle.hermes.specs.Run.{write, deliver, resend, Entry, by, run}
use Rattle.hermes.specs.Agreement.{Started, Entries, Agreement, after}
use Rattle.hermes.specs.Settling.{Settled}
use Rattle.hermes.specs.Recipe.{recipe}
use Rattle.hermes.specs.Played.{three, issued, group_with, answers, story, stamp}
use Rattle.hermes.specs.AskingWitness.{Held, held}

-- 0 saves A0, message 0, and 1 B1, message 1. Every INV arrives, and every ACK, in the same order under both rules: messages 2 to 5. The last ACK
-- of the greater save sends its VAL, message 6, which arrives too
abbrev pub at_once : List Entry
at_once =
    by 0 (write 0 (65 ∷ 48 ∷ [])) ∷ by 1 (write 0 (66 ∷ 49 ∷ [])) ∷ by 0 (deliver 1) ∷ by 1 (deliver 0) ∷ by 2 (deliver 0) ∷ by 2 (deliver 1)
    ∷ by 1 (deliver 2) ∷ by 1 (deliver 5) ∷ by 0 (deliver 3) ∷ by 0 (deliver 4) ∷ by 0 (deliver 6) ∷ by 1 (deliver 6) ∷ by 2 (deliver 6) ∷ []

-- what laptop k has after it, in a group with these settings
abbrev pub held_by : Settings → ℕ → Held
held_by settings k = held (after ties (group_with settings) at_once k)

-- the text of the save with this tie-breaker, settled
abbrev pub settled : ℕ → List ℕ → Held
settled tie text = record { state = Valid; timestamp = stamp 1 tie; value = text }

-- all three have it
abbrev pub AllHold : Settings → Held → Type 0
AllHold settings h = (held_by settings 0 ≡ h) × (held_by settings 1 ≡ h) × (held_by settings 2 ≡ h)

-- 0 and 2 save together, in a group with the new rule; 0's stamp is the greater, and its VAL, message 4, is lost. The recipe: 0 says it again
abbrev pub lost_val : List Entry
lost_val = by 0 (write 0 (65 ∷ 48 ∷ [])) ∷ by 2 (write 0 (66 ∷ 50 ∷ [])) ∷ by 2 (deliver 0) ∷ by 1 (deliver 0) ∷ by 0 (deliver 2) ∷ by 0 (deliver 3) ∷ []

abbrev pub lost_val_recipe : List Entry
lost_val_recipe = by 0 (resend 0) ∷ by 1 (deliver 5) ∷ by 2 (deliver 5) ∷ []

-- `proofs/TiePremises` computes it
pub record TieWitness : Type 0 where
  -- the premises of demand 3 under each rule, and so its claim, of this list and of `story`, which has every kind of entry
  pub started : (settings : Settings) → Started three 1 issued settings (group_with settings)
  pub entries : Entries three issued at_once
  pub agreed : (settings : Settings) → Agreement ties three 1 settings (group_with settings) at_once
  pub every : (settings : Settings) → Agreement ties three 1 settings (group_with settings) story
  -- the numbers answered: a laptop is not told by its own VAL (11)
  pub old_numbers : answers (group_with old_settings) at_once ≡ 0 ∷ 0 ∷ 0 ∷ 0 ∷ 0 ∷ 0 ∷ 0 ∷ 0 ∷ 0 ∷ 0 ∷ 0 ∷ 11 ∷ 0 ∷ []
  pub new_numbers : answers (group_with new_settings) at_once ≡ 0 ∷ 0 ∷ 0 ∷ 0 ∷ 0 ∷ 0 ∷ 0 ∷ 0 ∷ 0 ∷ 0 ∷ 11 ∷ 0 ∷ 0 ∷ []
  -- "a tie to the lower laptop number": A0 of 0; and to the higher before, B1 of 1
  pub old_stands : AllHold old_settings (settled 1 (66 ∷ 49 ∷ []))
  pub new_stands : AllHold new_settings (settled 0 (65 ∷ 48 ∷ []))
  -- Wish 3 by the new rule: the driver is the one whose save is the greater by it
  pub gives : recipe (under ties new_settings) (issued 0) 0 (run ties (group_with new_settings) lost_val) ≡ lost_val_recipe
  pub settles : Settled ties new_settings (issued 0) 0 (run ties (group_with new_settings) lost_val) lost_val_recipe
