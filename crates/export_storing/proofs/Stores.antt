-- The stores of a record, and of an event's end.
use Prim.Native.Nat.{ℕ, ◌+◌, ◌<◌, ◌≤◌}
use mathlib.Core.Path.{◌≡◌, sym, ◌∙◌}
use mathlib.Core.List.{List}
use lib.ListN.{length, take, drop}
use Rattle.std.proofs.Common.{append_assoc}
use lib.Seq.{sets, sets-eq, drop-drop}
use borrow.Author.Tests.{lt-ltb}
use borrow.Rule.Slice.PartMut.{put_mid}
use Rattle.hermes.specs.Answer.{Outgoing}
use Rattle.std.specs.Prelude.{Ok}
use Rattle.hermes.specs.declared.event.Moved.{Moved}
use Rattle.export_records.specs.Layout.{count_of}
use Rattle.export_storing.specs.Storing.{put, bytes_after}

-- a part of the bytes replaced is a run of stores
pub put_stored : (bytes : List ℕ) (at n : ℕ) (vs ys : List ℕ) → ys ≡ vs → n ≡ length vs → at + length vs ≤ length bytes → put_mid at n bytes ys ≡ sets bytes at vs
put_stored bytes at n vs ys e k h = rw (e, k, drop-drop (length vs) at bytes) (sym (sets-eq vs bytes at h ∙ append_assoc (take at bytes) vs (drop (at + length vs) bytes)))

-- an accepted event puts its record back, where there is one
pub settled-in : (m : Moved) (o : Outgoing) (bytes : List ℕ) (i : ℕ) → m.answer ≡ Ok o → i < count_of (length bytes)
    → bytes_after m bytes i ≡ put bytes i m.after
settled-in m o bytes i e l = rw (e, lt-ltb i (count_of (length bytes)) l)
