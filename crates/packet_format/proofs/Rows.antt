-- Every row about packets holds: one test that is computed over the whole list, and what it gives of each row.
use Prim.Native.Nat.{ℕ, zero, suc}
use mathlib.Core.Path.{◌≡◌, refl}
use mathlib.Core.Bool.{Bool, true, ◌&&◌}
use mathlib.Core.List.{List, [], ◌∷◌, Memᴰ}
use lib.Dec.{eqb}
use lib.ListN.{get_or, drop}
use borrow.Author.Tests.{eqb-true}
use Rattle.packet_format.specs.Answer.{Fetched}
use Rattle.hermes.specs.Answer.{Outgoing, no}
use Rattle.std.specs.Prelude.{Err, None, Ok, Some}
use Rattle.packet_format.specs.Entry.{good, entry_bytes}
use Rattle.packet_format.specs.Reading.{entry_place, walk, fetch_refusal, fetched, fetched_number}
use Rattle.packet_format.specs.Accepting.{accept_refusal, accepted, take_refusal, taken, taken_number}
use Rattle.packet_format.specs.Writing.{summed, contents, packet_bytes, all_good, write_refusal, packet_written, written_number}
use Rattle.packet_format.specs.Rows.{Row, packs, fetches, accepts, takes, writes, Holds, rows}
use Rattle.std.specs.Cmp.Lexicographic.{bytes_decides}
use Rattle.std.specs.List.{list_all}
use Rattle.std.specs.Str.{bytes_eq}
use Rattle.std.proofs.lemmas.Bool.{and_parts}
use Rattle.hermes.proofs.Coded.{Coded, same, same-sound, message_numbers, outgoing_numbers, outgoing_back, outgoing-had}
use Rattle.hermes.proofs.Table.{every}

fetched_numbers : Fetched → List ℕ
fetched_numbers (Ok (e, at)) = 0 ∷ at ∷ e.len ∷ outgoing_numbers (Some (e.message, e.header))
fetched_numbers (Err k) = 1 ∷ k.0 ∷ []

entry_back : ℕ → ℕ → Outgoing → Fetched
entry_back at n None = Err (no 0)
entry_back at n (Some (m, h)) = Ok (record { header = h; message = m; len = n }, at)

fetched_back : List ℕ → Fetched
fetched_back [] = Err (no 0)
fetched_back (zero ∷ l) = entry_back (get_or l 0 0) (get_or l 1 0) (outgoing_back (drop 2 l))
fetched_back (suc k ∷ l) = Err (no (get_or l 0 0))

fetched-had : (f : Fetched) → fetched_back (fetched_numbers f) ≡ f
unfolding fetched_back fetched_numbers entry_back
fetched-had (Ok (e, at)) = rw (outgoing-had (Some (e.message, e.header)))
fetched-had (Err k) = refl

fetched_code : Coded Fetched
fetched_code = record { numbers = fetched_numbers; back = fetched_back; had = fetched-had }

test : Row → Bool
test (packs rule e body p) = bytes_eq (packet_bytes rule (e ∷ []) body) p && same fetched_code (fetched rule p 0) (Ok (e, entry_place 1))
test (fetches rule p i k) = eqb (fetched_number (fetched rule p i)) k
test (accepts rule p k count) = eqb (accepted rule p).number k && eqb (accepted rule p).count count
test (takes p number count i k) = eqb (taken_number (taken p (record { number = number; count = count }) i)) k
test (writes es bodies room k) = eqb (written_number (packet_written es bodies room)) k

holds : (r : Row) → test r ≡ true → Holds r
unfolding test
holds (packs rule m body p) e =
    let (s, t) = and_parts (bytes_eq (packet_bytes rule (m ∷ []) body) p) (same fetched_code (fetched rule p 0) (Ok (m, entry_place 1))) e in
    ((bytes_decides (packet_bytes rule (m ∷ []) body) p).0 s, same-sound fetched_code (fetched rule p 0) (Ok (m, entry_place 1)) t)
holds (fetches rule p i k) e = eqb-true _ k e
holds (accepts rule p k count) e =
    let (s, t) = and_parts (eqb (accepted rule p).number k) (eqb (accepted rule p).count count) e in (eqb-true _ k s, eqb-true _ count t)
holds (takes p number count i k) e = eqb-true _ k e
holds (writes es bodies room k) e = eqb-true _ k e

-- the test, computed
computed : list_all test rows ≡ true
unfolding test same fetched_code fetched_numbers outgoing_numbers message_numbers rows good entry_bytes walk fetch_refusal fetched accept_refusal accepted take_refusal taken contents packet_bytes summed all_good write_refusal packet_written
computed = refl

-- Every row about packets holds.
pub packets-worked : (r : Row) → Memᴰ r rows → Holds r
packets-worked = every Row test Holds holds rows computed
