-- Of messages that question 24 lets pass, what stands before the bodies is the packet's, and the bodies complete it.
use mathlib.Core.Path.{◌≡◌, refl, sym, ap, ◌∙◌}
use mathlib.Core.Bool.{true, cond}
use mathlib.Core.List.{List, ◌∷◌, ◌++◌}
use Prim.Native.Nat.{ℕ, zero, suc, ◌+◌, ◌%◌, ◌≤◌, ◌<◌}
use native.Mathlib.Nat.{zero-add}
use native.Mathlib.Omega.{arith}
use borrow.Author.Tests.{le-leb}
use lib.ListN.{length, drop, get_or}
use lib.Seq.{sets, sets-eq}
use Rattle.hermes_record.specs.declared.timestamp.Rule.{Rule}
use Rattle.hermes_record.specs.Order.{rule_number}
use Rattle.packet_format.specs.declared.entry.Fields.{Fields}
use Rattle.packet_format.specs.Bytes.{be}
use Rattle.packet_format.specs.Entry.{fields_for, entry_bytes, good}
use Rattle.packet_format.specs.Reading.{entry_place}
use Rattle.packet_format.specs.Writing.{summed, contents, total_of, packet_bytes, all_good, question25}
use Rattle.std.proofs.lemmas.Bool.{and_parts}
use Rattle.packet_format.proofs.Entries.{good-parts}
use Rattle.packet_format.proofs.Contents.{length-contents}
use Rattle.packet_format.proofs.RoundTrip.{packet-length}
use Rattle.packet_words.specs.Words.{count_in, fields_at, entry_at, entries_from, word_messages}
use Rattle.packet_words.proofs.Fit.{good-fit, fields_fit}
use Rattle.packet_words.proofs.Places.{Counted}
use Rattle.packet_contents.specs.Front.{cut, table, front, fronted}
use Rattle.packet_contents.proofs.Stores.{sets_then}

-- good fields fit their entry
cut-good : (words : List ℕ) (w at : ℕ) → good (fields_at words w 0) ≡ true → at < 65536 → cut (fields_at words w at) ≡ fields_at words w at
cut-good words w at g small =
    let f = fields_at words w at in
    let p = good-parts (fields_at words w 0) g in
    let kind : f.kind % 256 ≡ f.kind = omega arith in
    let sender : f.sender % 256 ≡ f.sender = omega arith in
    let index : f.index % 65536 ≡ f.index = omega arith in
    let tie : f.tie % 256 ≡ f.tie = omega arith in
    let offset : f.offset % 65536 ≡ f.offset = omega arith in
    let len : f.len % 256 ≡ f.len = omega arith in
    λ i.
    record {
      kind = kind i;
      sender = sender i;
      epoch = f.epoch;
      index = index i;
      version = f.version;
      tie = tie i;
      offset = offset i;
      len = len i;
    }

-- the contents table of good messages
table-good : (n w at : ℕ) (words : List ℕ) → all_good (entries_from n w words) ≡ true → at + summed (entries_from n w words) < 65536
    → table n w at words ≡ contents at (entries_from n w words)
unfolding table contents all_good summed
table-good zero w at words a small = refl
table-good (suc n) w at words a small =
    let e = entry_at words w in
    let es = entries_from n (w + 7) words in
    let s = and_parts (good (fields_for e 0)) (all_good es) a in
    let g : good (fields_at words w 0) ≡ true = sym (good-fit (fields_at words w 0)) ∙ s.0 in
    let is : fields_for e at ≡ fields_at words w at = fields_fit words w at g in
    let len : e.len ≡ get_or words (w + 6) 0 = ap (λ (f : Fields). f.len) is in
    let here = cut-good words w at g (omega arith) ∙ sym is in
    let rest = table-good n (w + 7) (at + get_or words (w + 6) 0) words s.1 (omega arith) ∙ ap (λ (l : ℕ). contents (at + l) es) (sym len) in
    λ i. entry_bytes (here i) ++ rest i

-- header, contents table and bodies, stored one after another, are the packet, and the rest of the output is as it was
pub packet-stored : (rule : Rule) (words d t o bodies : List ℕ) (n : ℕ) → n ≡ count_in (length words) → Counted words n → all_good (word_messages words) ≡ true → summed (word_messages words) ≡ length bodies
    → total_of n bodies ≤ 1400
    → total_of n bodies ≤ length d
    → t ≡ fronted rule words bodies d
    → o ≡ sets t (entry_place n) bodies
    → o ≡ packet_bytes rule (word_messages words) bodies ++ drop (total_of n bodies) d
unfolding packet_bytes
packet-stored rule words d t o bodies n e c g sum short room et eo =
    let es = word_messages words in
    let whole = packet_bytes rule es bodies in
    let before = rule_number rule ∷ n ∷ be 2 (total_of n bodies) ++ contents (entry_place n) es in
    let same : table n 0 (entry_place n) words ≡ contents (entry_place n) es =
    table-good n 0 (entry_place n) words (ap all_good c.whole ∙ g) (omega (arith, ap summed c.whole, sum)) ∙ ap (contents (entry_place n)) c.whole in
    let yes : (question25 n bodies (length d)).yes ≡ true = simp (le-leb _ _ short, le-leb _ _ room) in
    let s1 : t ≡ sets d 0 before =
    et
    ∙ ap (λ (m : ℕ). cond (question25 m bodies (length d)).yes (sets d 0 (front rule m words bodies)) d) (sym e)
    ∙ (λ i. cond (yes i) (sets d 0 (rule_number rule ∷ n ∷ be 2 (total_of n bodies) ++ same i)) d) in
    let p : entry_place n ≡ 0 + length before = omega (arith, length-contents es (entry_place n), c.size) in
    let s2 : o ≡ sets d 0 (before ++ bodies) = eo ∙ sets_then d t 0 (entry_place n) before bodies s1 p in
    let en = sym c.size in
    let is : before ++ bodies ≡ whole = λ i. rule_number rule ∷ en i ∷ be 2 (total_of (en i) bodies) ++ contents (entry_place (en i)) es ++ bodies in
    let len : length whole ≡ total_of n bodies = packet-length rule es bodies ∙ ap (λ (x : ℕ). total_of x bodies) c.size in
    s2 ∙ ap (sets d 0) is ∙ sets-eq whole d 0 (omega arith) ∙ ap (λ (x : ℕ). whole ++ drop x d) (zero-add (length whole) ∙ len)
