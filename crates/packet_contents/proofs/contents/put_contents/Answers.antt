use borrow.Author.Rules.{rules}
use Rattle.packet_contents.proofs.Tables.{stored_more, stored-all}
use Rattle.packet_contents.proofs.contents.put_contents.Goals as goal

pub loop-j-preserved : goal.loop-j-preserved
loop-j-preserved c = stored_more c.args.out.now c.args.count c.args.words.now c.loop-j.out c.loop-j.at c.loop-j.j _ c.loop-j-test.true (search rules) c.put_entry.ensures c.loop-j.invariant

pub returns : goal.returns
returns c = stored-all _ c.args.count c.args.words.now _ _ _ c.loop-j-test.false c.loop-j.invariant
