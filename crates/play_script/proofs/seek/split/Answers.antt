-- `play_script::seek::split` meets its contract.
use Rattle.std.proofs.Common.{◌≡◌, ◌<◌, length, arith, le-ltb, lt-ltb}
use Rattle.std.proofs.lemmas.Grind.{common_steps}
use Rattle.play_script.specs.Seek.{index_of}
use Rattle.play_script.proofs.Places.{place-none, place-some}
use Rattle.play_script.proofs.seek.split.Goals as goal

pub returns-in_err-k : goal.returns-in_err-k
returns-in_err-k c =
    let none : index_of 32 c.args.s.now ≡ length c.args.s.now = place-none 32 _ _ c.place.ensures c.in_err-k.was in
    rw c.from_residual.ensures (le-ltb _ _ (omega arith))

pub returns : goal.returns
returns c =
    let found : (c.in_ok-k.k ≡ index_of 32 c.args.s.now) × (c.in_ok-k.k < length c.args.s.now) = place-some 32 _ _ c.place.ensures _ c.in_ok-k.was in
    (lt-ltb _ _ (omega arith), grind (arith, common_steps, found), grind (arith, common_steps, found))
