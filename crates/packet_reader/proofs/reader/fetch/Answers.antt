-- A fetch, question by question: each answer is a law of `fetched`, from what the questions before it said.
use Rattle.std.proofs.Common.{sym, ap, ◌∙◌, arith, Ok}
use Rattle.packet_format.specs.declared.entry.Entry.{Entry}
use Rattle.packet_format.proofs.Reading.{fetch-23, fetch-0}
use Rattle.packet_reader.proofs.Walking.{table, walked_more, walked_at, walked-bad, turned-22}
use Rattle.packet_reader.proofs.reader.fetch.Goals as goal

pub returns-then-count-i : goal.returns-then-count-i
returns-then-count-i c =
    let (w, e) = c.in_ok-count.ensures in
    fetch-23 c.args.rule c.args.packet.now c.args.i w.header w.own w.whole c.in_ok-walk_on.ensures (omega (arith, e, c.if-count-i.true))

pub returns-then-not-fits : goal.returns-then-not-fits
returns-then-not-fits c =
    let (w, e) = c.in_ok-count.ensures in
    let f = c.fields_of-f in
    (turned-22 _ (walked-bad c.args.packet.now c.args.i c.in_ok-at.at c.in_ok-at.ensures (omega (arith, e, c.if-count-i.false)) f.result f.ensures (sym c.if-not-fits.true ∙ c.fits.ensures)) c.args.rule w).fetching c.args.i

pub walk_on-requires-2 : goal.walk_on-requires-2
walk_on-requires-2 c =
    let (w, e) = c.in_ok-count.ensures in
    let f = c.fields_of-f in (
      table c.args.packet.now w.header w.whole,
      walked_at c.args.packet.now _ _ (walked_more c.args.packet.now c.args.i c.in_ok-at.at c.in_ok-at.ensures (omega (arith, e, c.if-count-i.false)) f.result f.ensures (sym c.if-not-fits.false ∙ c.fits.ensures)) _ _ (grind arith) (grind arith),
      grind (arith, c.if-count-i.false),
      e,
    )

pub returns : goal.returns
returns c =
    let (w, e) = c.in_ok-count.ensures in
    let f = c.fields_of-f in
    ap (λ (x : Entry). Ok (x, f.result.offset)) c.from.ensures
    ∙ fetch-0 c.args.rule c.args.packet.now c.args.i w.header w.own w.whole c.in_ok-walk_on-2.ensures (omega (arith, e, c.if-count-i.false)) f.result f.ensures
