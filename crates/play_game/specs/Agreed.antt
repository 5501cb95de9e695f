-- What is played is what is proved: demand 3 of every script whose view lines give one set for each epoch.
use Rattle.std.specs.Prelude.{ℕ, ◌-◌, ◌^◌, ◌≤◌, ◌≡◌, List, [], ◌∷◌, ltb, Option, None, Some}
use Rattle.hermes_record.specs.Order.{ties}
use Rattle.hermes.specs.Settings.{old_settings}
use Rattle.hermes.specs.Run.{Group, run}
use Rattle.hermes.specs.Agreement.{Agreement}
use Rattle.play_script.specs.Command.{line_of}
use Rattle.play_words.specs.declared.command.Command.{Command}
use Rattle.play_words.specs.declared.command.Command.TheVariants.{Read, Write, Replay, Deliver, Validate, Resend, View}
use Rattle.play_script.specs.declared.line.Entry.{Entry}
use Rattle.play_game.specs.Play.{fresh_group, after, entries_of}

-- a view line gives the set that is issued for its epoch
abbrev pub Issued : (ℕ → ℕ) → Command → Type 0
Issued issued Read = Unit
Issued issued Write = Unit
Issued issued Replay = Unit
Issued issued (Deliver k) = Unit
Issued issued Validate = Unit
Issued issued Resend = Unit
Issued issued (View epoch set) = set ≡ issued epoch

abbrev pub OfLine : (ℕ → ℕ) → Option Entry → Type 0
OfLine issued (Some e) = Issued issued e.command
OfLine issued None = Unit

abbrev pub OneViewEach : (ℕ → ℕ) → List (List ℕ) → Type 0
OneViewEach issued [] = Unit
OneViewEach issued (s ∷ rest) = OfLine issued (line_of s) × OneViewEach issued rest

-- the group as the lines leave it
unfoldable pub played_on : ℕ → Group → List (List ℕ) → Group
played_on n g [] = g
played_on n g (s ∷ rest) = played_on n (after n g s) rest

-- the group that is played is the run of the script's entries; lines that print `?` are none
abbrev pub PlayedIsRun : Type 0
PlayedIsRun = (n : ℕ) (g : Group) (ls : List (List ℕ)) → played_on n g ls ≡ run ties g (entries_of n g ls)

-- and demand 3 holds of it, where the set of epoch 0 is all n laptops
abbrev pub PlayedAgrees : Type 0
PlayedAgrees = (n : ℕ) → 2 ≤ n → n ≤ 4 → (issued : ℕ → ℕ) → issued 0 ≡ 2 ^ n - 1 → (ls : List (List ℕ)) → OneViewEach issued ls
    → Agreement ties (λ k. ltb k n) 1 old_settings (fresh_group n) (entries_of n (fresh_group n) ls)
