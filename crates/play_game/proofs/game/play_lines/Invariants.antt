-- `play_game::game::play_lines` meets its contract. The loop prints what is left of the script: the bytes so far and what the rest prints are what the whole prints.
use Rattle.std.proofs.Common.{◌-◌, length, drop}
use Rattle.play_script.specs.Text.{lines}
use Rattle.play_game.specs.Play.{fresh_group, prints}
use Rattle.play_game.proofs.Games.{Halfway}
use Rattle.play_game.proofs.game.play_lines.Given as goal

abbrev pub invariant-loop-pos : goal.invariant-loop-pos
invariant-loop-pos l = Halfway (prints l.count (fresh_group l.count) (lines (drop l.from l.input))) l.input l.initial.out l.pos l.c l.out

abbrev pub decreases-loop-pos : goal.decreases-loop-pos
decreases-loop-pos l = length l.input - l.pos
