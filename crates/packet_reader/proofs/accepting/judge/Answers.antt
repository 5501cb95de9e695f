use Rattle.std.proofs.Common.{ℕ, ap, ◌∙◌}
use Rattle.packet_format.specs.declared.answer.Accepted.{Accepted}
use Rattle.packet_format.proofs.Accepting.{accept-0}
use Rattle.packet_reader.proofs.accepting.judge.Goals as goal

pub returns : goal.returns
returns c =
    let (w, e) = c.in_ok-count.ensures in
    let fact : ℕ → Accepted = λ n. record { number = 0; count = n } in
    ap fact e ∙ accept-0 c.args.rule c.args.packet.now w.header w.own w.whole c.in_ok-walk_on.ensures
