-- `play_numbers::number::digits` meets its contract. The loop reads what is left of the word: the number of the whole word is that of the rest, from the value so far.
use Rattle.std.proofs.Common.{◌≡◌, ◌<◌, drop}
use Rattle.play_numbers.specs.Number.{more}
use Rattle.play_numbers.proofs.number.digits.Given as goal

abbrev pub invariant-loop-b : goal.invariant-loop-b
invariant-loop-b l = record { small : l.value < l.limit; rest : more l.limit 0 l.word ≡ more l.limit l.value (drop l.b-index l.word) }
