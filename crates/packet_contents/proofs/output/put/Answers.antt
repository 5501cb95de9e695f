-- The bytes are as many as the part that they are copied into.
use Rattle.std.proofs.Common.{◌≡◌, ◌+◌, ◌-◌, length, drop, ap, arith}
use Rattle.std.proofs.lemmas.List.{length-take, length-drop}
use Rattle.packet_contents.proofs.Stores.{copied}
use Rattle.packet_contents.proofs.output.put.Goals as goal

pub returns : goal.returns
returns g c =
    let a = c.args in
    let k = a.at + g.row.N - a.at in
    let many : k ≡ length a.bytes = omega (arith, c.copy_from_slice.ensures.len, ap length c.copy_from_slice.ensures.after, length-take k (drop a.at a.out.now), length-drop a.at a.out.now, c.requires) in
    copied a.out.now c.copy_from_slice.new.self a.bytes a.at k c.copy_from_slice.ensures.after many (omega (arith, c.requires))
