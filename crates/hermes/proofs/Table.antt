-- A table of rows: a sound test, computed once over the whole list, gives what every row of it says.
use mathlib.Core.Path.{◌≡◌}
use mathlib.Core.Bool.{Bool, true}
use mathlib.Core.List.Memᴰ
use mathlib.Core.List.{List, [], ◌∷◌, Memᴰ}
use mathlib.Core.Logic.{⊎_elim}
use Rattle.std.specs.List.{list_all}
use Rattle.std.proofs.lemmas.Bool.{and_parts}

module _ (R : Type 0) (test : R → Bool) (Says : R → Type 0) (sound : (r : R) → test r ≡ true → Says r) where
  pub every : (rs : List R) → list_all test rs ≡ true → (r : R) → Memᴰ r rs → Says r
  every [] e r m = absurd (Memᴰ.not-nil m)
  every (q ∷ rs) e r m =
      let (p, rest) = and_parts (test q) (list_all test rs) e in
      ⊎_elim (λ h. rw h (sound q p)) (every rs rest r) (Memᴰ.cases_cons m)
