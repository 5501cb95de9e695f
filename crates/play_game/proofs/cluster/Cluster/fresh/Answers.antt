-- `play_game::cluster::Cluster::fresh` meets its contract.
use Rattle.std.proofs.Common.{ℕ, ◌-◌, [], ◌∷◌, refl, ap, ◌∙◌}
use Rattle.play_member.specs.Member.{fresh_in}
use Rattle.play_game.proofs.Clusters.{first-bits, fresh-group}
use Rattle.play_game.proofs.cluster.Cluster.fresh.Goals as goal

pub returns : goal.returns
returns c =
    let view = ap (λ (x : ℕ). x - 1) (first-bits c.args.count c.requires) in
    let begun = λ (k : ℕ). ap (λ (x : ℕ). fresh_in x k) view in
    (refl, fresh-group _ _ refl (λ i. (c.fresh.ensures ∙ begun 0) i ∷ (c.fresh-2.ensures ∙ begun 1) i ∷ (c.fresh-3.ensures ∙ begun 2) i ∷ (c.fresh-4.ensures ∙ begun 3) i ∷ []) c.new.ensures)
