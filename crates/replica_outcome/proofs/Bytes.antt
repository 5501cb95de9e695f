-- Laws of a record's bytes in the store, as the code fills them.
use Rattle.std.proofs.Common.{ℕ, zero, suc, ◌+◌, ◌-◌, ◌*◌, ◌≤◌, ◌≡◌, true, List, ◌++◌, length, take, drop, replicate, refl, ap, ◌∙◌, arith, append_assoc, length-take-le}
use Rattle.std.proofs.lemmas.List.{take_at, drop_at, drop-drop, drop-append-le, drop-replicate, length-replicate}
use borrow.Rule.Slice.PartMut.{put_mid}
use borrow.Author.Tests.{le-leb, lt-ltb, eq-eqb}
use Rattle.hermes.specs.Store.{padded, place}
use Rattle.hermes_record.specs.declared.record.Record.{Record}
use Rattle.hermes.specs.declared.event.Replica.{Replica}
use Rattle.hermes.proofs.Guards.{Common}
use Rattle.hermes.specs.Event.{Step, moved_by, stored_by}
use Rattle.hermes.specs.Event as event
use Rattle.replica_outcome.specs.Placing.{room, stored_for}

-- ---- zeros in all bytes of a slot, and a value over them: the value is in its place

fill-slot : (at m : ℕ) (v s : List ℕ) → at + m ≤ length s → length v ≤ m
    → put_mid at (length v) (put_mid at m s (replicate m 0)) v ≡ take at s ++ ((v ++ replicate (m - length v) 0) ++ drop (at + m) s)
fill-slot at m v s fits short =
    let tail = drop m (drop at s) in
    let head : length (take at s) ≡ at = length-take-le at s (omega arith) in
    let long : length v ≤ length (replicate m 0) = rw (length-replicate {A = ℕ} m 0) short in
    let rest : drop (length v) (drop at (take at s ++ (replicate m 0 ++ tail))) ≡ replicate (m - length v) 0 ++ tail =
    ap (drop (length v)) (drop_at (take at s) (replicate m 0 ++ tail) at head)
    ∙ drop-append-le (length v) (replicate m 0) tail long ∙ ap (λ (l : List ℕ). l ++ tail) (drop-replicate (length v) m 0) in
    rw (take_at (take at s) (replicate m 0 ++ tail) at head, rest, drop-drop m at s, append_assoc v (replicate (m - length v) 0) (drop (at + m) s)) refl

pub fill_place : (i k n : ℕ) (v s z y : List ℕ) → 192 * i + 192 ≤ length s → length v ≤ 192 → k ≡ 192 → n ≡ length v → z ≡ replicate k 0 → y ≡ v
    → put_mid (192 * i) n (put_mid (192 * i) k s z) y ≡ place i v s
unfolding place padded
fill_place i k n v s z y fits short ek en ez ey = rw (en, ez, ey, ek) (fill-slot (192 * i) 192 v s fits short)

-- ---- room

-- an event that questions 1 to 5 let pass has room for its value
pub room-passed : {me : Replica} {count bytes i : ℕ} {r : Record} → Common me count bytes i r → (n : ℕ) → n ≤ 192 → room count bytes i n ≡ true
room-passed {count = count} {bytes = bytes} {i = i} c n short =
    rw (le-leb count 4096 c.few, eq-eqb bytes (192 * count) c.whole, lt-ltb i count c.inside, le-leb n 192 short)

-- the store by the answer of a step that stores v is the store after that step, where its questions leave room
pub stored-for : (k count i : ℕ) (r : Record) (s : Step) (v store : List ℕ) → s.stored ≡ event.placed v → (k ≡ 0 → room count (length store) i (length v) ≡ true)
    → stored_for (moved_by k r s).answer count i v store ≡ stored_by k i store s
stored-for zero count i r s v store e fits = rw (fits refl, e)
stored-for (suc k) count i r s v store e fits = refl
