-- The bytes are as many as the part that they are copied into.
use Rattle.std.proofs.Common.{◌≡◌, ◌+◌, ◌-◌, length, drop, ap, arith}
use Rattle.std.proofs.lemmas.List.{length-take, length-drop}
use Rattle.export_storing.proofs.Stores.{put_stored}
use Rattle.export_storing.proofs.putting.put.Goals as goal

pub returns : goal.returns
returns g c =
    let a = c.args in
    let k = a.at + g.row.N - a.at in
    let many : k ≡ length a.part = omega (arith, c.copy_from_slice.ensures.len, ap length c.copy_from_slice.ensures.after, length-take k (drop a.at a.bytes.now), length-drop a.at a.bytes.now, c.requires) in
    put_stored a.bytes.now a.at k a.part c.copy_from_slice.new.self c.copy_from_slice.ensures.after many (omega (arith, c.requires))
