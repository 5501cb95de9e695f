-- Each no is a law of a fetch and of an acceptance, from what the questions before it said.
use Rattle.std.proofs.Common.{◌≡◌, sym, ◌∙◌}
use Rattle.hermes_record.specs.Order.{rule_number}
use Rattle.packet_format.specs.Reading.{rule_in}
use Rattle.packet_format.proofs.Reading.{fetch-20, fetch-27, fetch-21}
use Rattle.packet_format.proofs.Accepting.{accept-20, accept-27, accept-21}
use Rattle.packet_reader.proofs.opening.open.Goals as goal

pub returns-then-not-header_good : goal.returns-then-not-header_good
returns-then-not-header_good c =
    let a = sym c.header_good.ensures ∙ c.if-not-header_good.true in
    record { fetching = λ i. fetch-20 _ _ i a; accepting = accept-20 _ _ a }

pub returns-then-packet-from : goal.returns-then-packet-from
returns-then-packet-from c =
    let a = sym c.header_good.ensures ∙ c.if-not-header_good.false in
    let other : rule_in c.args.packet.now ≡ rule_number c.args.rule → ⊥ = λ e. c.if-packet-from.true (e ∙ sym c.from.ensures) in
    record { fetching = λ i. fetch-27 _ _ i a other; accepting = accept-27 _ _ a other }

pub returns-then-packet-count : goal.returns-then-packet-count
returns-then-packet-count c =
    let a = sym c.header_good.ensures ∙ c.if-not-header_good.false in
    let own = c.if-packet-from.false ∙ c.from.ensures in
    record { fetching = λ i. fetch-21 c.args.rule c.args.packet.now i a own c.if-packet-count.true; accepting = accept-21 c.args.rule c.args.packet.now a own c.if-packet-count.true }
