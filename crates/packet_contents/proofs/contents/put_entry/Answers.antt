-- Eight runs of stores are the 16 bytes of an entry.
use Rattle.std.proofs.Common.{◌+◌, ◌%◌, ap, ◌∙◌, arith, rules}
use lib.Seq.{sets}
use lib.ListN.{get_or, set}
use Rattle.std.specs.Int.{w32, to_be_bytes}
use Rattle.packet_words.specs.Words.{fields_at}
use Rattle.packet_contents.specs.Front.{cut}
use Rattle.packet_contents.proofs.Stores.{bytes-2, bytes-4, entry-stores}
use Rattle.packet_contents.proofs.contents.put_entry.Goals as goal

pub returns : goal.returns
returns c =
    let a = c.args in
    let d1 = set (set a.out.now a.pos (get_or a.words.now a.w 0 % 256)) (a.pos + 1) (get_or a.words.now (a.w + 1) 0 % 256) in
    entry-stores a.out.now c.put.new.out c.put-2.new.out c.put-3.new.out c.put-4.new.out a.pos (cut (fields_at a.words.now a.w a.at))
    (c.put.ensures ∙ ap (sets d1 (a.pos + 2)) (c.to_be_bytes.ensures ∙ ap (to_be_bytes w32) (grind arith) ∙ bytes-4 (get_or a.words.now (a.w + 2) 0) (search rules)))
    (c.put-2.ensures ∙ ap (sets c.put.new.out (a.pos + 6)) (c.to_be_bytes-2.ensures ∙ bytes-2 _ (omega arith)))
    (c.put-3.ensures ∙ ap (sets c.put-2.new.out (a.pos + 8)) (c.to_be_bytes-3.ensures ∙ ap (to_be_bytes w32) (grind arith) ∙ bytes-4 (get_or a.words.now (a.w + 4) 0) (search rules)))
    (c.put-4.ensures ∙ ap (sets (set c.put-3.new.out (a.pos + 12) (get_or a.words.now (a.w + 5) 0 % 256)) (a.pos + 13)) (c.to_be_bytes-4.ensures ∙ bytes-2 _ (omega arith)))
