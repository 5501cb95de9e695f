-- Log numbers: what is found under one.
use Prim.Native.Nat.{ℕ, zero, suc, ◌<◌}
use mathlib.Core.Path.{◌≡◌, refl}
use mathlib.Core.Logic.{◌⊎◌, inl, inr}
use mathlib.Core.List.{List, [], ◌∷◌, ◌++◌, Memᴰ}
use native.Mathlib.Omega.{arith}
use lib.ListN.{length}
use Rattle.hermes.specs.Run.{Logged, missing, found, find}

no-message : (x : Logged) → missing ≡ found x → ⊥
no-message x e = grind arith

-- what is found is in the log
pub found_in : (log : List Logged) (k : ℕ) (x : Logged) → find log k ≡ found x → Memᴰ x log
found_in [] k x e = absurd (no-message x e)
found_in (y ∷ log) zero x e = let p : x ≡ y = cc in Memᴰ.head p
found_in (y ∷ log) (suc k) x e = Memᴰ.tail (found_in log k x e)

-- before its end
pub find-below : (log : List Logged) (k : ℕ) (x : Logged) → find log k ≡ found x → k < length log
find-below [] k x e = absurd (no-message x e)
find-below (y ∷ log) zero x e = omega arith
find-below (y ∷ log) (suc k) x e = omega (arith, find-below log k x e)

-- what the log has, it keeps
pub find-front : (log more : List Logged) (k : ℕ) (x : Logged) → find log k ≡ found x → find (log ++ more) k ≡ found x
find-front [] more k x e = absurd (no-message x e)
find-front (y ∷ log) more zero x e = e
find-front (y ∷ log) more (suc k) x e = find-front log more k x e

-- the new one has the next number
pub find-last : (log : List Logged) (x : Logged) → find (log ++ x ∷ []) (length log) ≡ found x
find-last [] x = refl
find-last (y ∷ log) x = find-last log x

-- what is found was there before, or is the new one
pub find-either : (log : List Logged) (y : Logged) (k : ℕ) (x : Logged) → find (log ++ y ∷ []) k ≡ found x → (find log k ≡ found x) ⊎ (y ≡ x)
find-either [] y zero x e = inr cc
find-either [] y (suc k) x e = absurd (no-message x e)
find-either (z ∷ log) y zero x e = inl e
find-either (z ∷ log) y (suc k) x e = find-either log y k x e
