-- `play_game::game::play_lines` meets its contract.
use Rattle.std.proofs.Common.{◌≡◌, List, ℕ, drop, subst}
use Rattle.play_script.specs.Text.{lines}
use Rattle.play_game.specs.Play.{fresh_group, prints}
use Rattle.play_game.specs.Cluster.{group_of}
use Rattle.play_game.proofs.Games.{Halfway, at-start, at-line, after-line, at-end}
use Rattle.play_game.proofs.game.play_lines.Goals as goal

pub loop-pos-init : goal.loop-pos-init
loop-pos-init c =
    let ls = lines (drop c.args.from c.args.input.now) in
    let whole : prints c.fresh-c.result.count (group_of c.fresh-c.result) ls ≡ prints c.args.count (fresh_group c.args.count) ls
    = λ i. prints (c.fresh-c.ensures.0 i) (c.fresh-c.ensures.1 i) ls in
    subst (λ (x : List ℕ). Halfway x c.args.input.now c.args.out.now c.args.from c.fresh-c.result c.args.out.now) whole
    (at-start _ _ _ _ c.requires.2)

pub turn-requires : goal.turn-requires
turn-requires c = at-line _ _ _ _ _ _ c.loop-pos.invariant c.loop-pos-test.true

pub loop-pos-preserved : goal.loop-pos-preserved
loop-pos-preserved c =
    after-line _ _ _ _ _ _ c.loop-pos.invariant c.line_at-bounds.result c.loop-pos-test.true (c.line_at-bounds.ensures.0 c.loop-pos-test.true) _ _ c.turn.ensures

pub returns : goal.returns
returns c = at-end _ _ _ _ _ _ c.loop-pos.invariant c.loop-pos-test.false
