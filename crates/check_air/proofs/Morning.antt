-- The premises of demand 3 of the exported functions can be met: a morning of three laptops, computed.
use Prim.Native.Nat.{ℕ, zero, suc, ◌*◌}
use mathlib.Core.Path.{◌≡◌, refl, sym, subst}
use mathlib.Core.Bool.{Bool, true, ◌&&◌}
use mathlib.Core.List.{List, [], ◌∷◌, Memᴰ}
use mathlib.Core.Logic.{inl, inr}
use native.Mathlib.Omega.{arith}
use lib.ListN.{length, take, drop, replicate}
use borrow.Author.Tests.{ltb-true}
use Rattle.hermes_record.specs.Members.{has, size, lowest, within, others_in, with}
use Rattle.hermes_record.specs.declared.timestamp.Rule.TheVariants.{Higher, Lower}
use Rattle.hermes_record.specs.Order.{ties, later, same_timestamp}
use Rattle.hermes.specs.Settings.{under, new_settings}
use Rattle.std.proofs.lemmas.Bool.{and_parts}
use Rattle.hermes.specs.Store.{padded, place}
use Rattle.hermes.specs.Event.{refusal, effect, ask_stamp, ask_hands}
use Rattle.hermes.specs.Node.{start, apply, view, viewed, record_of}
use Rattle.packet_format.specs.Entry.{good, entry_bytes}
use Rattle.packet_format.specs.Reading.{walk, fetch_refusal, fetched}
use Rattle.packet_format.specs.Accepting.{accept_refusal, accepted, take_refusal, taken}
use Rattle.packet_format.specs.Writing.{summed, contents, packet_bytes, all_good, write_refusal, packet_written, output_of}
use Rattle.packet_words.specs.Words.{entry_in, word_messages}
use Rattle.packet_event.specs.Arrival.{receipt}
use Rattle.export_decoding.specs.Decoding.{decode}
use Rattle.export_records.specs.Layout.{table_of}
use Rattle.hermes.specs.declared.message.Message.TheVariants.{Inv, Ack, Val}
use Rattle.hermes.specs.declared.event.Event.{Event}
use Rattle.hermes.specs.declared.event.Event.TheVariants.{Write, Deliver, Validate}
use Rattle.hermes.specs.Node.{newcomer}
use Rattle.hermes.specs.Run.{Logged, received}
use Rattle.hermes.specs.Agreement.{Shows, Alike}
use Rattle.export_numbers.specs.declared.numbers.CetskobiAdmission.{CetskobiAdmission}
use Rattle.export_reading.specs.Reading.{AskDone}
use Rattle.export_numbers.specs.Crossing.{identity_of, answer_out}
use Rattle.export_outgoing.specs.Leaving.{Along, along, along_of, AlongAt}
use Rattle.export_packets.specs.Calls.{accept_answer, pack_answer}
use Rattle.check_air.specs.Air.{Sending, words_sent, bodies_sent, Leaves, Called, Packed}
use Rattle.check_air.specs.Callers.{Laptop, node, laptop, Broken, Untaken, AsNumbers, Begun, AllBegun, Hut, Fair, Follows, FromAir, next, after, validates, acknowledges}
use Rattle.check_air.specs.Callers as callers
use Rattle.export_numbers.specs.Crossing.{group_rule}
use Rattle.check_air.specs.Morning.{val, val_numbers, inv2, ack2, val2, three, issued, lent_table, lent_store, fresh, hut, inv, ack, packet_by, packet_of, Plan, turn, plans, turns_of, morning, a1, asking, committing, by, Morning}
use Rattle.check_air.specs.Answered.{ask_answer, after_event, after_call}
use Rattle.check_air.specs.Opened as callers-opened
use Rattle.check_air.specs.Opened.{Hands, CallsApart, CallsOpened}
use Rattle.check_air.proofs.Callers.{called-demand3}
use Rattle.check_air.proofs.Opened.{called-asking}
use Rattle.check_air.proofs.Answered.{after_table, asks, every-call-answers}

abbrev admitted : ℕ → CetskobiAdmission
admitted k = record { number = 0; replica = identity_of (newcomer k 7 new_settings) }

begins : (k : ℕ) → three k ≡ true → Begun 1 issued new_settings k (fresh k)
unfolding start has size lowest decode table_of
begins zero e = record { given = record { rule = 2 }; fixed = refl; table = lent_table; store = lent_store; records = refl; admission = admitted 0; started = record { admission = refl; bytes = refl; table = refl; store = refl }; accepted = refl; identity = refl }
begins (suc zero) e = record { given = record { rule = 2 }; fixed = refl; table = lent_table; store = lent_store; records = refl; admission = admitted 1; started = record { admission = refl; bytes = refl; table = refl; store = refl }; accepted = refl; identity = refl }
begins (suc (suc zero)) e = record { given = record { rule = 2 }; fixed = refl; table = lent_table; store = lent_store; records = refl; admission = admitted 2; started = record { admission = refl; bytes = refl; table = refl; store = refl }; accepted = refl; identity = refl }
begins (suc (suc (suc k))) e = absurd (omega (arith, ltb-true (suc (suc (suc k))) 3 e))

-- the messages that left, as the run of a group logs them
abbrev inv_logged : Logged
inv_logged = record { header = record { sender = 0; epoch = 0; index = 0 }; message = Inv (record { version = 1; tie = 0 }); body = 65 ∷ 49 ∷ [] }

abbrev ack_logged : Logged
ack_logged = record { header = record { sender = 1; epoch = 0; index = 0 }; message = Ack (record { version = 1; tie = 0 }); body = [] }

abbrev val_logged : Logged
val_logged = record { header = record { sender = 0; epoch = 1; index = 0 }; message = Val (record { version = 1; tie = 0 }); body = [] }

abbrev inv2_logged : Logged
inv2_logged = record { header = record { sender = 1; epoch = 1; index = 0 }; message = Inv (record { version = 2; tie = 1 }); body = 66 ∷ [] }

abbrev ack2_logged : Logged
ack2_logged = record { header = record { sender = 0; epoch = 1; index = 0 }; message = Ack (record { version = 2; tie = 1 }); body = [] }

abbrev val2_logged : Logged
val2_logged = record { header = record { sender = 1; epoch = 1; index = 0 }; message = Val (record { version = 2; tie = 1 }); body = [] }

-- the calls that they left: each on a laptop, with an event and a value
record Leaving (x : Logged) (s : Sending) (l : Laptop) (e : Event) (v : List ℕ) : Type 0 where
  who : l.me ≡ s.from
  answer : s.left ≡ answer_out (apply ties (node l) s.index e v).answer
  bytes : along_of (after_event l s.index e v).table (after_event l s.index e v).store s.index s.left ≡ along s.body
  there : take (length s.body) (drop (192 * s.index) (after_event l s.index e v).store) ≡ s.body
  leaves : Leaves (node l) s.index e v x

call : (x : Logged) (s : Sending) (l : Laptop) (e : Event) (v : List ℕ) → Leaving x s l e v → Called x s
call x s l e v h = record {
  table = l.table;
  store = l.store;
  event = e;
  value = v;
  table' = (after_event l s.index e v).table;
  store' = (after_event l s.index e v).store;
  called = rw (← h.who) (record { answer = h.answer; bytes = refl; table = after_table l s.index e v; store = refl });
  told = length s.body;
  asked = subst (λ (a : Along). AlongAt (after_event l s.index e v).store s.index a (length s.body)) (sym h.bytes) (record { len = refl; part = h.there });
  copied = sym h.there;
  leaves = rw (← h.who) h.leaves;
}

-- laptop 0 after its write, after the ACK, and after the view without 2
abbrev written : Laptop
written = after_event (fresh 0) 0 Write (65 ∷ 49 ∷ [])

abbrev acknowledged : Laptop
acknowledged = after_event written 0 (Deliver (received ack_logged)) []

abbrev struck : Laptop
struck = after_call (callers.view 1 3) acknowledged

called : Called inv_logged inv × Called ack_logged ack × Called val_logged val
unfolding has size lowest within others_in with later same_timestamp padded place refusal effect start apply view viewed good entry_bytes walk fetch_refusal fetched accept_refusal accepted take_refusal taken summed contents packet_bytes all_good write_refusal packet_written output_of entry_in word_messages receipt decode table_of
called = (
  call inv_logged inv (fresh 0) Write (65 ∷ 49 ∷ []) (record { who = refl; answer = refl; bytes = refl; there = refl; leaves = refl }),
  call ack_logged ack (fresh 1) (Deliver (received inv_logged)) (65 ∷ 49 ∷ []) (record { who = refl; answer = refl; bytes = refl; there = refl; leaves = refl }),
  call val_logged val struck Validate [] (record { who = refl; answer = refl; bytes = refl; there = refl; leaves = refl }),
)

-- packed together
packs : (ss : List Sending) → (pack_answer (words_sent ss) (bodies_sent ss) (replicate 60 0)).number ≡ 0 → Packed Lower ss (packet_of ss)
packs ss e = record { out = replicate 60 0; accepted = e; front = refl }

packed : Packed Lower (inv ∷ inv ∷ []) (packet_of (inv ∷ inv ∷ [])) × Packed Lower (inv ∷ ack ∷ []) (packet_of (inv ∷ ack ∷ [])) × Packed Lower (val ∷ []) (packet_of (val ∷ []))
unfolding has size lowest within others_in with later same_timestamp padded place refusal effect start apply view viewed good entry_bytes walk fetch_refusal fetched accept_refusal accepted take_refusal taken summed contents packet_bytes all_good write_refusal packet_written output_of entry_in word_messages receipt decode table_of
packed = (packs (inv ∷ inv ∷ []) refl, packs (inv ∷ ack ∷ []) refl, packs (val ∷ []) refl)

-- what a delivery rests on: the three messages in their packets, the VAL as numbers, a broken packet
inv-came : FromAir Lower (inv_logged ∷ []) (packet_of (inv ∷ inv ∷ [])) 0
inv-came = record { message = inv_logged; earlier = Memᴰ.head refl; sending = inv; called = called.0; before = []; after = inv ∷ []; packed = packed.0; place = refl }

ack-came : FromAir Lower (inv_logged ∷ ack_logged ∷ []) (packet_of (inv ∷ ack ∷ [])) 1
ack-came = record {
  message = ack_logged;
  earlier = Memᴰ.tail (Memᴰ.head refl);
  sending = ack;
  called = called.1;
  before = inv ∷ [];
  after = [];
  packed = packed.1;
  place = refl;
}

abbrev log : List Logged
log = inv_logged ∷ ack_logged ∷ val_logged ∷ val_logged ∷ []

-- what is behind the first four
fifth : {x : Logged} {more : List Logged} → Memᴰ x more → Memᴰ x (inv_logged ∷ ack_logged ∷ val_logged ∷ val_logged ∷ more)
fifth m = Memᴰ.tail (Memᴰ.tail (Memᴰ.tail (Memᴰ.tail m)))

val-earlier : Memᴰ val_logged log
val-earlier = Memᴰ.tail (Memᴰ.tail (Memᴰ.head refl))

val-came : FromAir Lower log (packet_of (val ∷ [])) 0
val-came = record { message = val_logged; earlier = val-earlier; sending = val; called = called.2; before = []; after = []; packed = packed.2; place = refl }

val-numbers : AsNumbers log 0 val_numbers []
val-numbers = record { message = val_logged; earlier = val-earlier; index = refl; same = refl; bytes = refl }

-- the messages of 1's save, each the last that left
inv2-numbers : AsNumbers (inv_logged ∷ ack_logged ∷ val_logged ∷ val_logged ∷ inv2_logged ∷ []) 0 inv2 (66 ∷ [])
inv2-numbers = record { message = inv2_logged; earlier = fifth (Memᴰ.head refl); index = refl; same = refl; bytes = refl }

ack2-numbers : AsNumbers (inv_logged ∷ ack_logged ∷ val_logged ∷ val_logged ∷ inv2_logged ∷ ack2_logged ∷ []) 0 ack2 []
ack2-numbers = record { message = ack2_logged; earlier = fifth (Memᴰ.tail (Memᴰ.head refl)); index = refl; same = refl; bytes = refl }

val2-numbers : AsNumbers (inv_logged ∷ ack_logged ∷ val_logged ∷ val_logged ∷ inv2_logged ∷ ack2_logged ∷ val2_logged ∷ []) 0 val2 []
val2-numbers = record { message = val2_logged; earlier = fifth (Memᴰ.tail (Memᴰ.tail (Memᴰ.head refl))); index = refl; same = refl; bytes = refl }

broken : Broken Lower (1 ∷ 1 ∷ 0 ∷ []) 0
unfolding fetched fetch_refusal walk
broken = record { number = 20; refused = refl }

of_others : Broken Lower (packet_by Higher (inv ∷ [])) 0
unfolding good entry_bytes walk fetched fetch_refusal summed contents packet_bytes all_good write_refusal packet_written output_of entry_in word_messages
of_others = record { number = 27; refused = refl }

untaken : Untaken (1 ∷ 1 ∷ 0 ∷ []) (accept_answer Lower (packet_of (inv ∷ inv ∷ []))) 0
unfolding good entry_bytes walk accepted accept_refusal taken take_refusal summed contents packet_bytes all_good write_refusal packet_written output_of entry_in word_messages
untaken = record { number = 21; refused = refl }

-- each call is answered as its function's contract has it, so that it is enough that each is fair and a laptop's of the group
abbrev AllFair : Hut → List Plan → Type 0
AllFair h [] = Unit
AllFair h (t ∷ rest) = Fair issued h.log (group_rule (h.at t.who).me) t.call × AllFair (next h (turn h t)) rest

members : List Plan → Bool
members [] = true
members (t ∷ rest) = three t.who && members rest

follow : (h : Hut) (ts : List Plan) → members ts ≡ true → AllFair h ts → Follows three issued h (turns_of h ts)
unfolding members
follow h [] m f = tt
follow h (t ∷ rest) m (fair, f) =
    let (a, b) = and_parts (three t.who) (members rest) m in (a, fair, every-call-answers t.call (h.at t.who), follow (next h (turn h t)) rest b f)

fair : AllFair hut plans
unfolding has size lowest within others_in with later same_timestamp padded place refusal effect start apply view viewed good entry_bytes walk fetch_refusal fetched accept_refusal accepted take_refusal taken summed contents packet_bytes all_good write_refusal packet_written output_of entry_in word_messages receipt decode table_of
fair =
    (tt, (tt, (tt, (tt, (inl inv-came, (inr broken, (inr untaken, (tt, (inl (Lower, ack-came), (tt, (refl, (tt, (tt, (tt, (refl, (refl, (inl (Lower, val-came), (inl val-numbers, (inr refl, (tt, (tt, (tt, (tt, (tt, (tt, (inl inv2-numbers, (inl ack2-numbers, (inl val2-numbers, (tt, (inr of_others, tt))))))))))))))))))))))))))))))

followed : Follows three issued hut morning
unfolding members
followed = follow hut plans refl fair

begun : AllBegun three 1 issued new_settings hut
begun = record { fresh = begins; silent = refl }

-- 1 as its ask finds it, and what that answers
abbrev asker : Laptop
asker = (after hut (take 19 morning)).at 1

answered : ask_answer asker 0 ≡ record { number = 0; tie = 0; version = 1; len = 2 }
unfolding has size lowest within others_in with later same_timestamp padded place refusal effect ask_stamp ask_hands start apply view viewed good entry_bytes walk fetch_refusal fetched accept_refusal accepted take_refusal taken summed contents packet_bytes all_good write_refusal packet_written output_of entry_in word_messages receipt decode table_of
answered = refl

asked : Hands (node asker) (callers.ask 0) 0 a1 (65 ∷ 49 ∷ [])
unfolding has size lowest within others_in with later same_timestamp padded place refusal effect ask_stamp ask_hands start apply view viewed good entry_bytes walk fetch_refusal fetched accept_refusal accepted take_refusal taken summed contents packet_bytes all_good write_refusal packet_written output_of entry_in word_messages receipt decode table_of
asked = callers-opened.asks (record { number = 0; tie = 0; version = 1; len = 2 }) refl (subst (AskDone (node asker) 0) answered (asks asker 0)) refl refl refl

-- its commits, and its next read
apart : CallsApart morning (take 19 morning) (take 2 (drop 20 morning)) asking (committing 22)
    × CallsApart morning (take 19 morning) (take 4 (drop 20 morning)) asking (committing 24)
    × CallsApart morning (take 19 morning) [] asking (turn (after hut (take 20 morning)) (by 1 (callers.read 0)))
unfolding has size lowest within others_in with later same_timestamp padded place refusal effect ask_stamp ask_hands start apply view viewed good entry_bytes walk fetch_refusal fetched accept_refusal accepted take_refusal taken summed contents packet_bytes all_good write_refusal packet_written output_of entry_in word_messages receipt decode table_of
apart = (
  record { rest = drop 23 morning; split = refl; one = refl },
  record { rest = drop 25 morning; split = refl; one = refl },
  record { rest = drop 21 morning; split = refl; one = refl },
)

opened : CallsOpened new_settings hut morning
opened = called-asking three 1 issued new_settings hut begun morning followed

kept : ((record_of 0 (laptop hut (take 22 morning) 1)).timestamp ≡ a1) × Shows (laptop hut (take 22 morning) 1) 0 × Alike 0 (laptop hut (take 22 morning) 1) (laptop hut (take 19 morning) 1)
unfolding has size lowest within others_in with later same_timestamp padded place refusal effect ask_stamp ask_hands start apply view viewed good entry_bytes walk fetch_refusal fetched accept_refusal accepted take_refusal taken summed contents packet_bytes all_good write_refusal packet_written output_of entry_in word_messages receipt decode table_of
kept = opened.kept 0 (take 19 morning) (take 2 (drop 20 morning)) asking (committing 22) apart.0 a1 (65 ∷ 49 ∷ []) (66 ∷ []) asked refl refl (take 2 (drop 20 morning)) [] refl

newer : later (under ties new_settings) (record_of 0 (laptop hut (take 24 morning) 1)).timestamp a1 ≡ true
unfolding has size lowest within others_in with later same_timestamp padded place refusal effect ask_stamp ask_hands start apply view viewed good entry_bytes walk fetch_refusal fetched accept_refusal accepted take_refusal taken summed contents packet_bytes all_good write_refusal packet_written output_of entry_in word_messages receipt decode table_of
newer = opened.newer 0 (take 19 morning) (take 4 (drop 20 morning)) asking (committing 24) apart.1 a1 (65 ∷ 49 ∷ []) (66 ∷ []) asked refl refl

one-text : (text : List ℕ) → Hands (laptop hut (take 20 morning) 1) (callers.read 0) 0 a1 text → text ≡ 65 ∷ 49 ∷ []
unfolding has size lowest within others_in with later same_timestamp padded place refusal effect ask_stamp ask_hands start apply view viewed good entry_bytes walk fetch_refusal fetched accept_refusal accepted take_refusal taken summed contents packet_bytes all_good write_refusal packet_written output_of entry_in word_messages receipt decode table_of
one-text text x = sym ((opened.forward 0 (take 19 morning) [] asking (turn (after hut (take 20 morning)) (by 1 (callers.read 0))) apart.2 a1 a1 (65 ∷ 49 ∷ []) text asked x).1 refl)

pub morning-holds : Morning
unfolding has size lowest within others_in with later same_timestamp padded place refusal effect start apply view viewed good entry_bytes walk fetch_refusal fetched accept_refusal accepted take_refusal taken summed contents packet_bytes all_good write_refusal packet_written output_of entry_in word_messages receipt decode table_of
morning-holds = record {
  begun = begun;
  follows = followed;
  agrees = called-demand3 three 1 issued new_settings hut begun morning followed;
  numbers = refl;
  sees = refl;
  seen = refl;
  shows = refl;
  shown = refl;
  by_validate = record { split = refl; finishes = validates refl; number = refl; then = refl; shown = refl };
  by_ack = record { split = refl; finishes = acknowledges tt (record { version = 2; tie = 1 }) refl; number = refl; then = refl; shown = refl };
  asked = asked;
  saves = apart.0;
  stamp_kept = kept.0;
  shown_still = kept.1;
  bytes_kept = kept.2;
  late = apart.1;
  newer = newer;
  one_text = one-text;
}
