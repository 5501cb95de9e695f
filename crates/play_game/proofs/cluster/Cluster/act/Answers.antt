-- `play_game::cluster::Cluster::act` meets its contract.
use Rattle.std.proofs.Common.{◌≡◌, ◌<◌, length, refl, ap, ◌∙◌, lt-ltb, rules}
use Rattle.hermes.specs.Run.{logged}
use Rattle.play_log.specs.Log.{log_of}
use Rattle.play_member.specs.Member.{node_of}
use Rattle.play_game.specs.Play.{log_number}
use Rattle.play_game.proofs.Turns.{acted, no-event, no-room}
use Rattle.play_game.proofs.cluster.Cluster.act.Goals as goal

pub returns-in_default : goal.returns-in_default
returns-in_default c =
    let m = c.args.self.now in
    let low : c.args.who < 4 = search rules in
    let four : length m.members ≡ 4 = search rules in
    no-event m c.args.who _ low four (lt-ltb _ _ c.requires.0) _ _ _ c.perform.ensures.0 _ _ c.requires.1 c.in_default.is c.put_unknown.ensures

pub returns-then-not-has_room : goal.returns-then-not-has_room
returns-then-not-has_room c =
    let m = c.args.self.now in
    let low : c.args.who < 4 = search rules in
    let four : length m.members ≡ 4 = search rules in
    no-room m c.args.who _ low four (lt-ltb _ _ c.requires.0) _ _ _ c.perform.ensures.0 _ _ c.requires.1 _ c.in-Some.is (cc) c.put_unknown-then-not-has_room.ensures

pub returns : goal.returns
returns c =
    let m = c.args.self.now in
    let low : c.args.who < 4 = search rules in
    let four : length m.members ≡ 4 = search rules in
    acted m c.args.who _ low four (lt-ltb _ _ c.requires.0) _ _ _ c.perform.ensures.0 _ _ c.requires.1 _ c.in-Some.is (cc) _ refl refl
    (c.keep-number.ensures.0 ∙ ap (logged (log_of m.log) (node_of c.perform.new.m)) c.sent_by-leaving.ensures)
    _ c.number_of.ensures _ (c.keep-number.ensures.1 ∙ ap (log_number (length (log_of m.log))) c.sent_by-leaving.ensures) c.put_answer.ensures
