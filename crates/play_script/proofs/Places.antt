-- The place of a byte is that which `position` finds, and the length where it finds none.
use Rattle.std.proofs.Common.{◌≡◌, ℕ, ◌+◌, ◌<◌, ◌≤◌, Bool, true, false, cond, eqb, ltb, ltb-false, not, arith, List, [], length, drop, take, min, refl, sym, ap, ◌∙◌, MatchOption, Option, None, Some}
use Rattle.std.specs.Option.{unwrap_or}
use Rattle.std.specs.List.{position, position_or_len}
use Rattle.std.proofs.lemmas.Bool.Decides.{nat_tests}
use Rattle.std.proofs.lemmas.List.{drop_all, drop-take, length-take, take_min}
use Rattle.std.proofs.lemmas.List.Sums.{prefix_len-le-length}
use Rattle.std.proofs.lemmas.List.Recursion.{is_position_or_len}
use Rattle.play_script.specs.Seek.{index_of, index_after, slice}

index_is : (b : ℕ) (s : List ℕ) → index_of b s ≡ position_or_len (λ x. eqb x b) s
unfolding index_of
index_is b = is_position_or_len (index_of b) (λ x. eqb x b) refl (λ x s. step (eqb x b) (index_of b s))
  where
    step : (t : Bool) (k : ℕ) → index_after t k ≡ cond t 0 (1 + k)
    step true k = refl
    step false k = omega arith

place_is : (b : ℕ) (s : List ℕ) (r : Option ℕ) → r ≡ position (λ x. eqb x b) s
    → MatchOption r (index_of b s ≡ length s) (λ k. (k ≡ index_of b s) × (k < length s))
place_is b s r e = rw (e, index_is b s) (go (ltb (position_or_len (λ x. eqb x b) s) (length s)) refl)
  where
    go : (t : Bool) → ltb (position_or_len (λ x. eqb x b) s) (length s) ≡ t
        → MatchOption (cond t (Some (position_or_len (λ x. eqb x b) s)) None) (position_or_len (λ x. eqb x b) s ≡ length s)
        (λ k. (k ≡ position_or_len (λ x. eqb x b) s) × (k < length s))
    go true h = (refl, grind (arith, nat_tests))
    go false h = omega (arith, ltb-false _ _ h, prefix_len-le-length (λ x. not (eqb x b)) s)

module _ (b : ℕ) (s : List ℕ) (r : Option ℕ) (e : r ≡ position (λ x. eqb x b) s) where
  pub place-none : r ≡ None → index_of b s ≡ length s
  place-none h = let found = place_is b s r e in rw h at found

  pub place-some : (k : ℕ) → r ≡ Some k → (k ≡ index_of b s) × (k < length s)
  place-some k h = let found = place_is b s r e in rw h at found

  pub place-or : (d : ℕ) → d ≡ length s → unwrap_or r d ≡ index_of b s
  place-or d h = go r (place_is b s r e)
    where
      go : (o : Option ℕ) → MatchOption o (index_of b s ≡ length s) (λ k. (k ≡ index_of b s) × (k < length s)) → unwrap_or o d ≡ index_of b s
      go None n = h ∙ sym n
      go (Some k) n = n.0

module _ (b to from : ℕ) (s : List ℕ) where
  -- a part that ends before it begins has none
  pub place_none : min to (length s) ≤ from → index_of b (slice from to s) ≡ 0
  unfolding index_of slice
  place_none h = let none : drop from (take to s) ≡ [] = drop_all from (take to s) (omega (arith, length-take to s)) in rw none

  -- any other is so many bytes from its beginning on
  pub part_is : (k : ℕ) → from + k ≡ min to (length s) → slice from to s ≡ take k (drop from s)
  unfolding slice
  part_is k h = ap (drop from) (sym (take_min to s) ∙ ap (λ (n : ℕ). take n s) (sym h)) ∙ drop-take from k s
