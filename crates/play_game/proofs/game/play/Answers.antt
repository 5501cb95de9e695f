-- `play_game::game::play` meets its contract.
use Rattle.std.proofs.Common.{◌≡◌, length, arith, true, refl, sym, ap, ◌∙◌, Option, ℕ, drop}
use Rattle.std.proofs.lemmas.Grind.{common_steps}
use Rattle.play_script.specs.Text.{lines}
use Rattle.play_script.proofs.Words.{size_few}
use Rattle.play_bounds.specs.Bounds.{playable}
use Rattle.play_game.specs.Play.{begun}
use Rattle.play_lines.proofs.Printing.{put_all}
use Rattle.play_game.proofs.Games.{first-line, unplayed, all-played, roomy}
use Rattle.play_game.proofs.game.play.Goals as goal

pub returns-then-not-playable : goal.returns-then-not-playable
returns-then-not-playable c = unplayed _ _ (sym c.playable.ensures ∙ c.if-not-playable.true)

pub play_lines-requires : goal.play_lines-requires
play_lines-requires c =
    let room = roomy c.args.input.now (length c.args.out.now) (sym c.playable.ensures ∙ c.if-not-playable.false) in
    (size_few _ _ (sym c.group_size.ensures ∙ c.in-Some.is), room.0, omega (arith, room.1))

pub returns-in_default : goal.returns-in_default
returns-in_default c =
    let input = c.args.input.now in
    let h : playable input (length c.args.out.now) ≡ true = sym c.playable.ensures ∙ c.if-not-playable.false in
    let all = all-played input c.args.out.now h _ _ c.put_unknown.new.self refl refl
    (first-line input c.line_at-bounds.result c.line_at-bounds.ensures ∙ ap (λ (z : Option ℕ). begun z (lines (drop c.line_at-bounds.result.next input))) (sym c.group_size.ensures ∙ c.in_default.is))
    (put_all 2 _ _ (omega (arith, roomy input (length c.args.out.now) h)) c.put_unknown.ensures) in
    (all.0, grind (arith, common_steps, all.1, sym c.put_unknown.ensures.same))

pub returns : goal.returns
returns c =
    let input = c.args.input.now in
    let h : playable input (length c.args.out.now) ≡ true = sym c.playable.ensures ∙ c.if-not-playable.false in
    let all = all-played input c.args.out.now h _ _ c.play_lines.new.out refl refl
    (first-line input c.line_at-bounds.result c.line_at-bounds.ensures ∙ ap (λ (z : Option ℕ). begun z (lines (drop c.line_at-bounds.result.next input))) (sym c.group_size.ensures ∙ c.in-Some.is))
    c.play_lines.ensures in
    (all.0, grind (arith, common_steps, all.1, sym c.play_lines.ensures.same))
