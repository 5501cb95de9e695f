-- Every row about the events holds: one test that is computed over the whole list, and what it gives of each row.
use mathlib.Core.Path.{◌≡◌, refl}
use mathlib.Core.Bool.{Bool, true, ◌&&◌}
use mathlib.Core.List.{List, [], ◌∷◌, Memᴰ}
use lib.Dec.{eqb}
use lib.ListN.{length}
use borrow.Author.Tests.{eqb-true}
use Rattle.std.specs.Prelude.{None}
use Rattle.std.specs.List.{list_all}
use Rattle.std.specs.Str.{bytes_eq}
use Rattle.std.specs.Cmp.Lexicographic.{bytes_decides}
use Rattle.hermes_record.specs.Members.{has, size, lowest, within, others_in, with}
use Rattle.hermes_record.specs.Order.{later, same_timestamp}
use Rattle.hermes.specs.Settings.{old_settings}
use Rattle.hermes.specs.Store.{padded, place}
use Rattle.hermes.specs.Event.{number_of, sent_by, send, refusal, effect, ask_stamp, ask_hands}
use Rattle.hermes.specs.Node.{Node, Outcome, record_of, apply, asked, admit, start, view, viewed, admission_number}
use Rattle.hermes.specs.Worked.{Claim, answers, leaves, stamps, last_writer, ties_by, last_write, acknowledged_by, holding, sends, hands_out, silent, unchanged, store_of, Says, SaysAll, Row, row, asks, asks_start, asks_view, Holds, before, outcome}
use Rattle.hermes.specs.Limits.{limits}
use Rattle.hermes.specs.Rows.{unstarted, ringing, rows}
use Rattle.std.proofs.lemmas.Bool.{and_parts}
use Rattle.hermes.proofs.Coded.{same, same-sound, state_code, timestamp_code, record_code, record_numbers, rule_code, replica_code, message_numbers, outgoing_numbers, outgoing_code, same_node, node-sound}
use Rattle.hermes.proofs.Table.{every}

test : Claim → Node → Outcome → Bool
test (answers k) n o = eqb (number_of o.answer) k
test (leaves s) n o = same state_code (record_of 0 o.node).state s
test (stamps v t) n o = same timestamp_code (record_of 0 o.node).timestamp (record { version = v; tie = t })
test (last_writer k) n o = eqb (record_of 0 o.node).writer k
test (ties_by rule) n o = same rule_code o.node.me.settings.rule rule
test (last_write v t) n o = same timestamp_code (record_of 0 o.node).written (record { version = v; tie = t })
test (acknowledged_by set) n o = eqb (record_of 0 o.node).acks set
test (holding v) n o = eqb (record_of 0 o.node).len (length v) && bytes_eq o.node.store (store_of v)
test (sends m) n o = same outgoing_code (sent_by o.answer) (send n.me 0 m)
test (hands_out text v t) n o = bytes_eq (asked o.node 0).part text && same timestamp_code (asked o.node 0).timestamp (record { version = v; tie = t })
test silent n o = same outgoing_code (sent_by o.answer) None
test unchanged n o = same_node o.node n

says : (c : Claim) (n : Node) (o : Outcome) → test c n o ≡ true → Says c n o
unfolding test
says (answers k) n o e = eqb-true _ k e
says (leaves s) n o e = same-sound state_code _ s e
says (stamps v t) n o e = same-sound timestamp_code _ _ e
says (last_writer k) n o e = eqb-true _ k e
says (ties_by rule) n o e = same-sound rule_code _ rule e
says (last_write v t) n o e = same-sound timestamp_code _ _ e
says (acknowledged_by set) n o e = eqb-true _ set e
says (holding v) n o e =
    let (p, q) = and_parts (eqb (record_of 0 o.node).len (length v)) _ e in
    (eqb-true _ (length v) p, (bytes_decides o.node.store (store_of v)).0 q)
says (sends m) n o e = same-sound outgoing_code _ _ e
says (hands_out text v t) n o e =
    let (p, q) = and_parts (bytes_eq (asked o.node 0).part text) _ e in
    λ z. record { part = (bytes_decides (asked o.node 0).part text).0 p z; timestamp = same-sound timestamp_code (asked o.node 0).timestamp (record { version = v; tie = t }) q z }
says silent n o e = same-sound outgoing_code _ None e
says unchanged n o e = node-sound o.node n e

test_all : List Claim → Node → Outcome → Bool
test_all [] n o = true
test_all (c ∷ cs) n o = test c n o && test_all cs n o

says_all : (cs : List Claim) (n : Node) (o : Outcome) → test_all cs n o ≡ true → SaysAll cs n o
unfolding test_all
says_all [] n o e = tt
says_all (c ∷ cs) n o e = let (p, q) = and_parts (test c n o) (test_all cs n o) e in (says c n o p, says_all cs n o q)

test_row : Node → Row → Bool
test_row n (row earlier deed claims) = test_all claims (before n earlier) (outcome (before n earlier) deed)
test_row n (asks me count bytes i r e m k) = eqb (refusal me count bytes i r e m) k
test_row n (asks_start number set count bytes k) = eqb (admission_number (admit number set old_settings count bytes)) k
test_row n (asks_view me epoch set k) = eqb (admission_number (view me epoch set)) k

holds : (n : Node) (r : Row) → test_row n r ≡ true → Holds n r
unfolding test_row
holds n (row earlier deed claims) e = says_all claims (before n earlier) (outcome (before n earlier) deed) e
holds n (asks me count bytes i r d m k) e = eqb-true _ k e
holds n (asks_start number set count bytes k) e = eqb-true _ k e
holds n (asks_view me epoch set k) e = eqb-true _ k e

-- the test, computed
computed : list_all (test_row unstarted) rows ≡ true
unfolding test_row test_all test same same_node state_code timestamp_code record_code record_numbers rule_code replica_code outgoing_code outgoing_numbers message_numbers unstarted limits ringing rows apply effect refusal ask_stamp ask_hands start view viewed has size lowest within others_in with later same_timestamp padded place
computed = refl

-- Every row about the events holds.
pub events-worked : (r : Row) → Memᴰ r rows → Holds unstarted r
events-worked = every Row (test_row unstarted) (Holds unstarted) (holds unstarted) rows computed
