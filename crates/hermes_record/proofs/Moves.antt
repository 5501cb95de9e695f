-- What agreement rests on of a record's moves: a record that took an invalidation is shown by nobody, and no write or replay of its own is under way.
use mathlib.Core.Path.{◌≡◌, refl}
use mathlib.Core.Bool.{false}
use mathlib.Core.List.{[], ◌∷◌}
use Rattle.hermes_record.specs.declared.record.State.{State}
use Rattle.hermes_record.specs.declared.record.State.TheVariants.{Valid, Invalid, InvalidWrite, Write, Replay}
use Rattle.hermes_record.specs.Record.{one_of, invalidated_state}

pub invalid-shown : (s : State) → one_of (invalidated_state s) (Valid ∷ []) ≡ false
invalid-shown Valid = refl
invalid-shown Invalid = refl
invalid-shown InvalidWrite = refl
invalid-shown Write = refl
invalid-shown Replay = refl

pub invalid-own : (s : State) → one_of (invalidated_state s) (Write ∷ Replay ∷ []) ≡ false
invalid-own Valid = refl
invalid-own Invalid = refl
invalid-own InvalidWrite = refl
invalid-own Write = refl
invalid-own Replay = refl
