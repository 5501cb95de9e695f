-- Every row about words holds: one test that is computed over the whole list, and what it gives of each row.
use mathlib.Core.Path.{◌≡◌, refl}
use mathlib.Core.Bool.{Bool, true}
use mathlib.Core.List.{Memᴰ}
use lib.Dec.{eqb}
use lib.ListN.{length}
use borrow.Author.Tests.{eqb-true}
use Rattle.std.specs.Cmp.Lexicographic.{bytes_decides}
use Rattle.std.specs.List.{list_all}
use Rattle.std.specs.Str.{bytes_eq}
use Rattle.hermes.proofs.Table.{every}
use Rattle.packet_format.specs.Entry.{entry_bytes, good}
use Rattle.packet_format.specs.Writing.{summed, contents, packet_bytes, all_good, write_refusal, packet_written, written_number, output_of}
use Rattle.packet_words.specs.Words.{entry_in, word_messages, packed}
use Rattle.packet_words.specs.Rows.{Row, packs, makes, Holds, rows}

test : Row → Bool
test (packs words bodies room k) = eqb (written_number (packed words bodies room)) k
test (makes rule words bodies out after) = bytes_eq (output_of rule (packed words bodies (length out)) (word_messages words) bodies out) after

holds : (r : Row) → test r ≡ true → Holds r
unfolding test
holds (packs words bodies room k) e = eqb-true _ k e
holds (makes rule words bodies out after) e = (bytes_decides _ after).0 e

-- the test, computed
computed : list_all test rows ≡ true
unfolding test rows entry_in word_messages good summed all_good write_refusal packet_written entry_bytes contents packet_bytes output_of
computed = refl

-- Every row about words holds.
pub words-worked : (r : Row) → Memᴰ r rows → Holds r
words-worked = every Row test Holds holds rows computed
