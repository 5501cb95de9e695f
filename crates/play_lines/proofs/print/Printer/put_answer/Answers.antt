-- `play_lines::print::Printer::put_answer` meets its contract: no answer line is longer than 25 bytes, and each of its words has room behind those before it.
use Rattle.std.proofs.Common.{ℕ, ◌≤◌, length, length-append, leb-true, sym, ◌∙◌, arith, rules}
use Rattle.play_lines.specs.Print.{answer_line}
use Rattle.play_lines.proofs.Printing.{answer-short, moved, none-put, prints_then, put-fitting, whole}
use Rattle.play_lines.proofs.print.Printer.put_answer.Goals as goal

pub returns-then-not-has_room : goal.returns-then-not-has_room
returns-then-not-has_room c = (none-put _ _ _ (cc), answer-short _ c.args.r c.args.left (search rules) (search rules) (search rules))

pub put_number-requires : goal.put_number-requires
put_number-requires c =
    let short : length (answer_line c.args.number c.args.r c.args.left) ≤ 25 = answer-short _ c.args.r c.args.left (search rules) (search rules) (search rules) in
    omega (arith, length-append {A = ℕ}, leb-true _ _ (sym c.has_room.ensures ∙ c.if-not-has_room.false), short, whole c.args.number c.args.r c.args.left)

pub put_state-requires : goal.put_state-requires
put_state-requires c =
    let short : length (answer_line c.args.number c.args.r c.args.left) ≤ 25 = answer-short _ c.args.r c.args.left (search rules) (search rules) (search rules) in
    omega (arith, length-append {A = ℕ}, leb-true _ _ (sym c.has_room.ensures ∙ c.if-not-has_room.false), short, whole c.args.number c.args.r c.args.left, moved c.put_number.ensures)

pub put_number-requires-2 : goal.put_number-requires-2
put_number-requires-2 c =
    let short : length (answer_line c.args.number c.args.r c.args.left) ≤ 25 = answer-short _ c.args.r c.args.left (search rules) (search rules) (search rules) in
    omega (arith, length-append {A = ℕ}, leb-true _ _ (sym c.has_room.ensures ∙ c.if-not-has_room.false), short, whole c.args.number c.args.r c.args.left, moved c.put_number.ensures, moved c.put_state.ensures)

pub put_number-requires-3 : goal.put_number-requires-3
put_number-requires-3 c =
    let short : length (answer_line c.args.number c.args.r c.args.left) ≤ 25 = answer-short _ c.args.r c.args.left (search rules) (search rules) (search rules) in
    omega (arith, length-append {A = ℕ}, leb-true _ _ (sym c.has_room.ensures ∙ c.if-not-has_room.false), short, whole c.args.number c.args.r c.args.left, moved c.put_number.ensures, moved c.put_state.ensures, moved c.put_number-2.ensures)

pub put_left-requires : goal.put_left-requires
put_left-requires c =
    let short : length (answer_line c.args.number c.args.r c.args.left) ≤ 25 = answer-short _ c.args.r c.args.left (search rules) (search rules) (search rules) in
    omega (arith, length-append {A = ℕ}, leb-true _ _ (sym c.has_room.ensures ∙ c.if-not-has_room.false), short, whole c.args.number c.args.r c.args.left, moved c.put_number.ensures, moved c.put_state.ensures, moved c.put_number-2.ensures, moved c.put_number-3.ensures)

pub returns : goal.returns
unfolding answer_line
returns c =
    let line = prints_then c.put_number.ensures (prints_then c.put_state.ensures (prints_then c.put_number-2.ensures (prints_then c.put_number-3.ensures c.put_left.ensures))) in
    (put-fitting _ _ _ (leb-true _ _ (sym c.has_room.ensures ∙ c.if-not-has_room.false)) line, answer-short _ c.args.r c.args.left (search rules) (search rules) (search rules))
