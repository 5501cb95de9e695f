use Rattle.std.proofs.Common.{◌≡◌, ℕ, ◌+◌, ◌-◌, ◌≤◌, List, ◌++◌, arith, length, take, sym, ap, ◌∙◌, subst, rules, drop_at, length-take-le, take-add}
use Rattle.std.proofs.KnownBytes.{Consumes-trans}
use Rattle.std.proofs.lemmas.Slice.{take-put_mid_below}
use Rattle.std.specs.Io.KnownBytes.{Consumes}
use borrow.Rule.Slice.PartMut.{put_mid, post_of}
use lib.Seq.{take-append-le}
use Rattle.play.proofs.read_full.Goals as goal

-- what a read put behind the first `at` bytes, and those
filled : (at k n : ℕ) (buf part : List ℕ) → at ≤ length buf → n ≤ length part → take at buf ++ take n part ≡ take (at + n) (put_mid at k buf part)
filled at k n buf part within fits =
    let rest = post_of at k buf in
    ap (λ (l : List ℕ). l ++ take n part) (sym (take-put_mid_below at k buf part at (omega arith) within))
    ∙ ap (λ (l : List ℕ). take at (put_mid at k buf part) ++ l)
    (sym (take-append-le n part rest fits) ∙ ap (take n) (sym (drop_at (take at buf) (part ++ rest) at (length-take-le at buf within))))
    ∙ sym (take-add at n (put_mid at k buf part))

pub loop-done-preserved : goal.loop-done-preserved
loop-done-preserved g c =
    let at = c.loop-done.done in (
      search rules,
      subst (Consumes _ _) (filled at (length c.loop-done.buf - at) c.in_ok-n.n c.loop-done.buf c.read.new.buf c.loop-done.invariant.0 c.in_ok-n.ensures.bound.0)
          (Consumes-trans _ _ _ _ _ c.loop-done.invariant.1 c.in_ok-n.ensures.bytes.0),
    )
