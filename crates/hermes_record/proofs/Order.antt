-- The order of timestamps is a total order, over any strict total order of ties. The idea: it is read as three cases, equal, an older version,
-- or one version and a losing tie.
use Prim.Native.Nat.{ℕ, ◌≤◌, ◌<◌}
use mathlib.Core.Path.{◌≡◌, refl, sym, ap, subst, ◌∙◌}
use mathlib.Core.Bool.{Bool, true, false, ◌&&◌, false≢true}
use mathlib.Core.Logic.{◌⊎◌, inl, inr, ◌≢◌}
use native.Mathlib.Omega.{arith}
use lib.Dec.{ltb, eqb}
use borrow.Author.Tests.{ltb-true, ltb-false, eqb-true, eqb-false, lt-ltb, le-ltb, eq-eqb}
use Rattle.hermes_record.specs.declared.timestamp.Timestamp.{Timestamp}
use Rattle.hermes_record.specs.declared.timestamp.Rule.TheVariants.{Higher, Lower}
use Rattle.hermes_record.specs.Order.{TieOrder, TieOrders, higher, lower, ties, later, same_timestamp, NotAfter, equal, rises, OrderedAny, OrderedBoth}
use Rattle.std.proofs.lemmas.Bool.{and_parts, and_from, or_cases, or_right, false_from_ne_true}

pub timestamp-path : {s t : Timestamp} → s.version ≡ t.version → s.tie ≡ t.tie → s ≡ t
timestamp-path p q = λ i. record { version = p i; tie = q i }

pub same-equal : (s t : Timestamp) → same_timestamp s t ≡ true → s ≡ t
unfolding same_timestamp
same-equal s t h = let (p, q) = and_parts (eqb s.version t.version) (eqb s.tie t.tie) h in timestamp-path (eqb-true _ _ p) (eqb-true _ _ q)

pub equal-same : (s t : Timestamp) → s ≡ t → same_timestamp s t ≡ true
unfolding same_timestamp
equal-same s t e = rw (e, eq-eqb t.version t.version refl, eq-eqb t.tie t.tie refl)

-- document 01's order of ties
pub higher-order : TieOrder higher
higher-order = record {
  irreflexive = λ a. le-ltb a a (omega arith);
  transitive = λ a b c p q. lt-ltb c a (omega (arith, ltb-true b a p, ltb-true c b q));
  total = λ a b d p. lt-ltb a b (omega (arith, d, ltb-false b a p));
}

-- Wish 6's
lower-order : TieOrder lower
lower-order = record {
  irreflexive = λ a. le-ltb a a (omega arith);
  transitive = λ a b c p q. lt-ltb a c (omega (arith, ltb-true a b p, ltb-true b c q));
  total = λ a b d p. lt-ltb b a (omega (arith, d, ltb-false a b p));
}

pub ties-order : TieOrders ties
ties-order Higher = higher-order
ties-order Lower = lower-order

-- `later`, read as facts, and back
pub later-greater : (wins : ℕ → ℕ → Bool) (s t : Timestamp) → later wins s t ≡ true → (t.version < s.version) ⊎ ((s.version ≡ t.version) × (wins s.tie t.tie ≡ true))
unfolding later
later-greater wins s t h = go (or_cases _ _ h)
  where
    go : (ltb t.version s.version ≡ true) ⊎ ((eqb s.version t.version && wins s.tie t.tie) ≡ true) → (t.version < s.version) ⊎ ((s.version ≡ t.version) × (wins s.tie t.tie ≡ true))
    go (inl e) = inl (ltb-true _ _ e)
    go (inr e) = let (p, q) = and_parts _ _ e in inr (eqb-true _ _ p, q)

pub greater-later : (wins : ℕ → ℕ → Bool) (s t : Timestamp) → (t.version < s.version) ⊎ ((s.version ≡ t.version) × (wins s.tie t.tie ≡ true)) → later wins s t ≡ true
unfolding later
greater-later wins s t (inl l) = rw (lt-ltb t.version s.version l)
greater-later wins s t (inr (p, q)) = or_right (ltb t.version s.version) _ (and_from (eqb s.version t.version) (wins s.tie t.tie) (eq-eqb s.version t.version p) q)

-- `NotAfter`, read as facts
data Before (wins : ℕ → ℕ → Bool) (s t : Timestamp) : Type 0 where
  one : s ≡ t → Before wins s t
  older : s.version < t.version → Before wins s t
  tied : s.version ≡ t.version → wins t.tie s.tie ≡ true → Before wins s t

module _ (wins : ℕ → ℕ → Bool) where
  test : {s t : Timestamp} → Before wins s t → NotAfter wins s t
  test (one e) = equal e
  test {s} {t} (older h) = rises (greater-later wins t s (inl h))
  test {s} {t} (tied p q) = rises (greater-later wins t s (inr (sym p, q)))

  facts : (s t : Timestamp) → NotAfter wins s t → Before wins s t
  facts s t (equal e) = one e
  facts s t (rises g) = go (later-greater wins t s g)
    where
      go : (s.version < t.version) ⊎ ((t.version ≡ s.version) × (wins t.tie s.tie ≡ true)) → Before wins s t
      go (inl h) = older h
      go (inr (p, q)) = tied (sym p) q

  pub not_after-refl : (s : Timestamp) → NotAfter wins s s
  not_after-refl s = equal refl

  version-le : (s t : Timestamp) → Before wins s t → s.version ≤ t.version
  version-le s t (one e) = omega (arith, ap (λ (x : Timestamp). x.version) e)
  version-le s t (older h) = omega arith
  version-le s t (tied p q) = omega arith

  -- versions rise with timestamps, and a newer version is a later timestamp
  pub not_after-version : {s t : Timestamp} → NotAfter wins s t → s.version ≤ t.version
  not_after-version {s} {t} h = version-le s t (facts s t h)

  pub not_after-newer : (s t : Timestamp) → s.version < t.version → NotAfter wins s t
  not_after-newer s t h = test (older h)

module _ (wins : ℕ → ℕ → Bool) (ord : TieOrder wins) where
  before-trans : (s t u : Timestamp) → Before wins s t → Before wins t u → Before wins s u
  before-trans s t u (one e) k = subst (λ (x : Timestamp). Before wins x u) (sym e) k
  before-trans s t u (older h) (one e) = subst (λ (x : Timestamp). Before wins s x) e (older h)
  before-trans s t u (older h) (older k) = older (omega arith)
  before-trans s t u (older h) (tied p q) = older (omega arith)
  before-trans s t u (tied p q) (one e) = subst (λ (x : Timestamp). Before wins s x) e (tied p q)
  before-trans s t u (tied p q) (older k) = older (omega arith)
  before-trans s t u (tied p q) (tied p' q') = tied (omega arith) (ord.transitive _ _ _ q' q)

  pub not_after-trans : {s t u : Timestamp} → NotAfter wins s t → NotAfter wins t u → NotAfter wins s u
  not_after-trans {s} {t} {u} h k = test wins (before-trans s t u (facts wins s t h) (facts wins t u k))

  before-antisym : (s t : Timestamp) → Before wins s t → Before wins t s → s ≡ t
  before-antisym s t (one e) k = e
  before-antisym s t (older h) (one e) = sym e
  before-antisym s t (older h) (older k) = absurd (omega arith)
  before-antisym s t (older h) (tied p q) = absurd (omega arith)
  before-antisym s t (tied p q) (one e) = sym e
  before-antisym s t (tied p q) (older k) = absurd (omega arith)
  before-antisym s t (tied p q) (tied p' q') = absurd (false≢true (sym (ord.irreflexive s.tie) ∙ ord.transitive _ _ _ q' q))

  pub not_after-antisym : {s t : Timestamp} → NotAfter wins s t → NotAfter wins t s → s ≡ t
  not_after-antisym {s} {t} h k = before-antisym s t (facts wins s t h) (facts wins t s k)

  -- `later` is strict
  pub later_trans : (s t u : Timestamp) → later wins s t ≡ true → later wins t u ≡ true → later wins s u ≡ true
  later_trans s t u h k = greater-later wins s u (go (later-greater wins s t h) (later-greater wins t u k))
    where
      go : (t.version < s.version) ⊎ ((s.version ≡ t.version) × (wins s.tie t.tie ≡ true)) → (u.version < t.version) ⊎ ((t.version ≡ u.version) × (wins t.tie u.tie ≡ true))
          → (u.version < s.version) ⊎ ((s.version ≡ u.version) × (wins s.tie u.tie ≡ true))
      go (inl a) (inl b) = inl (omega arith)
      go (inl a) (inr (p, q)) = inl (omega arith)
      go (inr (p, q)) (inl b) = inl (omega arith)
      go (inr (p, q)) (inr (p', q')) = inr (p ∙ p', ord.transitive _ _ _ q q')

  pub later-apart : (s t : Timestamp) → later wins s t ≡ true → t ≡ s → ⊥
  later-apart s t h e = go (later-greater wins s t h)
    where
      go : (t.version < s.version) ⊎ ((s.version ≡ t.version) × (wins s.tie t.tie ≡ true)) → ⊥
      go (inl l) = omega (arith, ap (λ (x : Timestamp). x.version) e)
      go (inr (p, q)) = false≢true (sym (ord.irreflexive s.tie) ∙ subst (λ (x : Timestamp). wins s.tie x.tie ≡ true) e q)

  pub not-later : (s t : Timestamp) → NotAfter wins s t → later wins s t ≡ true → ⊥
  not-later s t (equal e) h = later-apart s t h (sym e)
  not-later s t (rises g) h = later-apart s s (later_trans s t s h g) refl

  -- the order is total: what is not later is not after
  pub not_after-total : (s t : Timestamp) → later wins s t ≡ false → NotAfter wins s t
  not_after-total s t g = go (ltb s.version t.version) refl (eqb s.tie t.tie) refl
    where
      never : (t.version < s.version) ⊎ ((s.version ≡ t.version) × (wins s.tie t.tie ≡ true)) → ⊥
      never h = false≢true (sym g ∙ greater-later wins s t h)

      level : ltb s.version t.version ≡ false → s.version ≡ t.version
      level p = omega (arith, ltb-false t.version s.version (false_from_ne_true _ (λ e. never (inl (ltb-true _ _ e)))), ltb-false s.version t.version p)

      go : (x : Bool) → ltb s.version t.version ≡ x → (y : Bool) → eqb s.tie t.tie ≡ y → NotAfter wins s t
      go true p y q = test wins (older (ltb-true _ _ p))
      go false p true q = equal (timestamp-path (level p) (eqb-true _ _ q))
      go false p false q = test wins (tied (level p) (ord.total s.tie t.tie (eqb-false _ _ q) (false_from_ne_true _ (λ w. never (inr (level p, w))))))

-- ---- the claims

pub ordered-by : OrderedAny
ordered-by wins ord = record {
  irreflexive = λ s. false_from_ne_true _ (λ h. later-apart wins ord s s h refl);
  transitive = later_trans wins ord;
  total = λ s t d g. go s t d (not_after-total wins ord s t g);
  versions = λ s t h. greater-later wins s t (inl h);
}
  where
    go : (s t : Timestamp) → s ≢ t → NotAfter wins s t → later wins t s ≡ true
    go s t d (equal e) = absurd (d e)
    go s t d (rises h) = h

pub ordered : OrderedBoth
ordered rule = ordered-by (ties rule) (ties-order rule)
