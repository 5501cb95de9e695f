-- How the player's answer crosses as numbers.
use Rattle.std.specs.Prelude.{ℕ, Option, None, Some}
use Rattle.export_play.specs.declared.CetskobiPlayed.{CetskobiPlayed}

-- 0 and the bytes printed; 255, which no question has, where the script or the output is beyond the player's limits
abbrev pub played_out : Option ℕ → CetskobiPlayed
played_out (Some n) = record { number = 0; len = n }
played_out None = record { number = 255; len = 0 }
