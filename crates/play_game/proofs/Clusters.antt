-- The cluster of the code read as a group: the fresh one, and one with a member put back.
use Rattle.std.proofs.Common.{◌≡◌, ℕ, zero, suc, ◌-◌, ◌*◌, ◌%◌, ◌^◌, ◌<◌, Bool, true, false, cond, ltb, eqb, eqb-true, le-ltb, lt-ltb, List, [], ◌∷◌, length, get_or, set, get_or-set_same, get_or-set_other, refl, sym, ap, ◌∙◌, arith}
use native.Mathlib.Nat.{one-mul}
use lib.Dec.{lit<}
use lib.Pow.{shl_exact}
use Rattle.std.proofs.lemmas.Bool.{eqb-false}
use Rattle.std.proofs.lemmas.List.{get_or_default}
use Rattle.hermes.specs.Run.{Logged}
use Rattle.play_log.specs.Log.{log_of}
use Rattle.play_member.specs.declared.member.Member.{Member}
use Rattle.play_member.specs.Member.{node_of, fresh_in}
use Rattle.play_game.specs.declared.cluster.Cluster.{Cluster}
use Rattle.play_game.specs.Play.{fresh_node, fresh_group}
use Rattle.play_game.specs.Cluster.{no_member, group_of}

-- ---- the fresh cluster

-- the set of the first n numbers, as the code computes it
pub first-bits : (n : ℕ) → n < 5 → 1 * 2 ^ n % 65536 ≡ 2 ^ n
first-bits n h = shl_exact {a = 1} 1 n 16 (lit< tt) (omega arith) ∙ one-mul (2 ^ n)

module _ (n : ℕ) where
  -- member k of n, just started
  abbrev begun : ℕ → Member
  begun k = fresh_in (2 ^ n - 1) k

  fresh_at : (k : ℕ) → cond (ltb k 4) (node_of (get_or (begun 0 ∷ begun 1 ∷ begun 2 ∷ begun 3 ∷ []) k no_member)) (fresh_node n k) ≡ fresh_node n k
  unfolding fresh_node
  fresh_at zero = refl
  fresh_at (suc zero) = refl
  fresh_at (suc (suc zero)) = refl
  fresh_at (suc (suc (suc zero))) = refl
  fresh_at (suc (suc (suc (suc k)))) = rw (le-ltb (suc (suc (suc (suc k)))) 4 (omega arith))

  pub fresh-group : (c : Cluster) → c.count ≡ n → c.members ≡ begun 0 ∷ begun 1 ∷ begun 2 ∷ begun 3 ∷ [] → log_of c.log ≡ [] → group_of c ≡ fresh_group n
  unfolding group_of fresh_group
  fresh-group c en em el = λ i. record {
    at = λ k. (ap (λ (m : List Member). cond (ltb k 4) (node_of (get_or m k no_member)) (fresh_node c.count k)) em
        ∙ ap (λ (j : ℕ). cond (ltb k 4) (node_of (get_or (begun 0 ∷ begun 1 ∷ begun 2 ∷ begun 3 ∷ []) k no_member)) (fresh_node j k)) en ∙ fresh_at k) i;
    log = el i;
  }

-- ---- one member put back

member-at : (n : ℕ) (ms : List Member) (who : ℕ) (m : Member) → who < 4 → length ms ≡ 4 → (k : ℕ)
    → cond (ltb k 4) (node_of (get_or (set ms who m) k no_member)) (fresh_node n k)
    ≡ cond (eqb k who) (node_of m) (cond (ltb k 4) (node_of (get_or ms k no_member)) (fresh_node n k))
member-at n ms who m h l k = go (eqb k who) refl
  where
    go : (t : Bool) → eqb k who ≡ t
        → cond (ltb k 4) (node_of (get_or (set ms who m) k no_member)) (fresh_node n k)
        ≡ cond t (node_of m) (cond (ltb k 4) (node_of (get_or ms k no_member)) (fresh_node n k))
    go true e =
        let q : k ≡ who = eqb-true k who e in
        ap (λ (t : Bool). cond t (node_of (get_or (set ms who m) k no_member)) (fresh_node n k)) (lt-ltb k 4 (omega arith))
        ∙ ap node_of (ap (λ (j : ℕ). get_or (set ms who m) j no_member) q ∙ get_or-set_same ms who m no_member (omega arith))
    go false e = ap (λ (x : Member). cond (ltb k 4) (node_of x) (fresh_node n k)) (get_or-set_other ms who k m no_member (eqb-false k who e))

module _ (c : Cluster) (who : ℕ) (low : who < 4) (four : length c.members ≡ 4) where
  pub node_at : (d : Member) → node_of (get_or c.members who d) ≡ (group_of c).at who
  unfolding group_of
  node_at d =
      ap node_of (get_or_default c.members who d no_member (omega arith))
      ∙ ap (λ (t : Bool). cond t (node_of (get_or c.members who no_member)) (fresh_node c.count who)) (sym (lt-ltb who 4 low))

  pub group-set : (m : Member) (c' : Cluster) → c'.count ≡ c.count → c'.members ≡ set c.members who m → (log : List Logged) → log_of c'.log ≡ log
      → group_of c' ≡ record { at = λ k. cond (eqb k who) (node_of m) ((group_of c).at k); log = log }
  unfolding group_of
  group-set m c' en em log el = λ i. record {
    at = λ k. ((λ j. cond (ltb k 4) (node_of (get_or (em j) k no_member)) (fresh_node (en j) k)) ∙ member-at c.count c.members who m low four k) i;
    log = el i;
  }

pub log_is : (c : Cluster) → log_of c.log ≡ (group_of c).log
unfolding group_of
log_is c = refl
