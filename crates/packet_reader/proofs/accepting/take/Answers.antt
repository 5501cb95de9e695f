-- A taking, question by question: each answer is a law of `taken`, from what the questions before it said.
use mathlib.Core.Path.{ap}
use native.Mathlib.Omega.{arith}
use Rattle.packet_format.specs.declared.entry.Fields.{Fields}
use Rattle.packet_format.specs.Reading.{entry_place}
use Rattle.packet_format.proofs.Accepting.{offset-fits, take-refused, take-23, take-21, take-22, take_0}
use borrow.Author.Rules.{rules}
use Rattle.packet_reader.proofs.accepting.take.Goals as goal

pub returns-in-0 : goal.returns-in-0
returns-in-0 c = take-23 c.args.packet.now c.args.facts c.args.i c.if-facts-i.true c.in-0.is

pub returns-in_default : goal.returns-in_default
returns-in_default c = take-refused c.args.packet.now c.args.facts c.args.i c.if-facts-i.true (λ e. omega (arith, e))

pub returns-then-packet-pos : goal.returns-then-packet-pos
returns-then-packet-pos c = take-21 c.args.packet.now c.args.facts c.args.i c.if-facts-i.false (omega (arith, c.if-packet-pos.true))

pub overflow_add-f : goal.overflow_add-f
overflow_add-f c =
    let p = c.args.packet.now in
    let small = offset-fits p (entry_place c.args.i) (λ k. search rules) in
    let e = ap (λ (f : Fields). f.offset) c.fields_of-f.ensures in
    omega (arith, small, e)

pub returns-then-packet-f : goal.returns-then-packet-f
returns-then-packet-f c = take-22 c.args.packet.now c.args.facts c.args.i c.if-facts-i.false (omega (arith, c.if-packet-pos.false)) c.fields_of-f.result c.fields_of-f.ensures c.if-packet-f.true

pub returns : goal.returns
returns c = take_0 c.args.packet.now c.args.facts c.args.i c.if-facts-i.false (omega (arith, c.if-packet-pos.false)) c.fields_of-f.result c.fields_of-f.ensures c.if-packet-f.false
