use Rattle.std.proofs.Common.{sym, ◌∙◌, arith}
use Rattle.packet_reader.proofs.Walking.{walked_more, walked-bad}
use Rattle.packet_reader.proofs.walk.reach.Goals as goal

pub returns-then-not-fits : goal.returns-then-not-fits
returns-then-not-fits c =
    let l = c.loop-next in
    let f = c.fields_of-f in
    record {
      below = omega (arith, c.loop-next-test.true);
      all = λ e. absurd (omega (arith, c.loop-next-test.true));
      bad = λ h. walked-bad c.args.packet.now l.next l.at l.invariant (omega (arith, c.loop-next-test.true, c.requires.3)) f.result f.ensures (sym c.if-not-fits.true ∙ c.fits.ensures);
    }

pub loop-next-preserved : goal.loop-next-preserved
loop-next-preserved c =
    let l = c.loop-next in
    let f = c.fields_of-f in
    walked_more c.args.packet.now l.next l.at l.invariant (omega (arith, c.loop-next-test.true, c.requires.3)) f.result f.ensures (sym c.if-not-fits.false ∙ c.fits.ensures)
