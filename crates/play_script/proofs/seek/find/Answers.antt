-- `play_script::seek::find` meets its contract.
use Rattle.std.proofs.Common.{◌≡◌, ◌-◌, arith, take, drop}
use Rattle.std.specs.Option.{unwrap_or}
use Rattle.std.proofs.lemmas.Grind.{common_steps}
use Rattle.play_script.specs.Seek.{index_of}
use Rattle.play_script.proofs.Places.{place-or, part_is}
use Rattle.play_script.proofs.seek.find.Goals as goal

pub returns-clause-value : goal.returns-clause-value
returns-clause-value c =
    let room = c.min-end.result - c.args.from in
    let part = take room (drop c.args.from c.args.s.now) in
    let place : unwrap_or c.place.result room ≡ index_of c.args.b part = place-or c.args.b part _ c.place.ensures room (grind (arith, common_steps)) in
    let whole = part_is c.args.b c.args.to c.args.from c.args.s.now room (omega (arith, c.min-end.ensures)) in
    rw (whole, c.unwrap_or.ensures, place)
