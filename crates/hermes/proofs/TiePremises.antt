-- Two saves at once compute under each rule, and the promises are claimed of them.
use mathlib.Core.Path.{◌≡◌, refl, subst}
use mathlib.Core.Bool.{true}
use native.Mathlib.Omega.{arith}
use Rattle.hermes_record.specs.Members.{has, size, lowest, within, others_in, with}
use Rattle.hermes_record.specs.Order.{ties, later, same_timestamp}
use Rattle.hermes.specs.Settings.{under, new_settings}
use Rattle.hermes.specs.Store.{padded, place}
use Rattle.hermes.specs.Event.{refusal, effect}
use Rattle.hermes.specs.Node.{start, apply}
use Rattle.hermes.specs.Run.{run, result, advance}
use Rattle.hermes.specs.Agreement.{Entries}
use Rattle.hermes.specs.Settling.{Gathered, Settled}
use Rattle.hermes.specs.Recipe.{first, each, leads, all_show, driver, recipe}
use Rattle.hermes.specs.Played.{three, issued, group_with, story}
use Rattle.hermes.specs.TieWitness.{at_once, lost_val, lost_val_recipe, TieWitness}
use Rattle.hermes_record.proofs.Order.{ties-order}
use Rattle.hermes.proofs.Agreement.{agreement}
use Rattle.hermes.proofs.Settling.{recipe-settles}
use Rattle.hermes.proofs.Premises.{started_with, story-entries}
use Rattle.hermes.proofs.SettlingPremises.{in-view, zero_in}

entries : Entries three issued at_once
entries = (refl, tt, (refl, tt, (refl, tt, (refl, tt, (refl, tt, (refl, tt, (refl, tt, (refl, tt, (refl, tt, (refl, tt, (refl, tt, (refl, tt, (refl, tt, tt)))))))))))))

gathered : Gathered three issued 0 (run ties (group_with new_settings) lost_val)
unfolding result advance apply effect refusal start has size lowest within others_in with padded place later same_timestamp
gathered = in-view (λ m. (three m ≡ true) × (((run ties (group_with new_settings) lost_val).at m).me.epoch ≡ 0)) 0 (refl, refl) (refl, refl) (λ h. (refl, refl))

gives : recipe (under ties new_settings) (issued 0) 0 (run ties (group_with new_settings) lost_val) ≡ lost_val_recipe
unfolding result advance apply effect refusal start has size lowest within others_in with padded place later same_timestamp first each leads all_show driver recipe
gives = refl

pub tie-witness : TieWitness
unfolding result advance apply effect refusal start has size lowest within others_in with padded place later same_timestamp
tie-witness = record {
  started = started_with;
  entries = entries;
  agreed = λ settings. agreement three 1 issued settings (group_with settings) (started_with settings) at_once entries;
  every = λ settings. agreement three 1 issued settings (group_with settings) (started_with settings) story story-entries;
  old_numbers = refl;
  new_numbers = refl;
  old_stands = (refl, refl, refl);
  new_stands = (refl, refl, refl);
  gives = gives;
  settles = subst (Settled ties new_settings (issued 0) 0 (run ties (group_with new_settings) lost_val)) gives
      (recipe-settles ties ties-order three 1 issued new_settings (group_with new_settings) (started_with new_settings) lost_val (refl, tt, (refl, tt, (refl, tt, (refl, tt, (refl, tt, (refl, tt, tt)))))) 0 0 0 (omega arith) (zero_in 0) gathered);
}
