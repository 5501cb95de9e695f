-- What is fixed at a group's start (02, Wish 6, "both rules live on, fixed at a group's start").
use Rattle.std.specs.Prelude.{ℕ, Bool}
use Rattle.hermes_record.specs.declared.timestamp.Rule.TheVariants.{Higher, Lower}
use Rattle.hermes.specs.declared.event.Settings.{Settings}
use Rattle.hermes_record.specs.Order.{Orders}

-- the order of ties of a group with these settings
abbrev pub under : Orders → Settings → ℕ → ℕ → Bool
under wins settings = wins settings.rule

-- 02, Wish 6, "Groups formed earlier keep the old rule"; document 01's "table and playing program keep the old rule"
abbrev pub old_settings : Settings
old_settings = record { rule = Higher }

-- 02, Wish 6, "From next season the scheme gives a tie to the lower laptop number"
abbrev pub new_settings : Settings
new_settings = record { rule = Lower }
