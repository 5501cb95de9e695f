-- Every call may follow, and on every laptop has its answer.
use Prim.Native.Nat.{ℕ, zero, suc, ◌*◌, ◌<◌}
use mathlib.Core.Path.{◌≡◌, refl, sym, ap, ◌∙◌}
use mathlib.Core.List.{List, [], ◌∷◌, ◌++◌}
use mathlib.Core.Logic.{inl, inr, ◌≢◌}
use native.Mathlib.Omega.{arith}
use native.Mathlib.Decide.{dec_lt}
use lib.ListN.{length, take, drop}
use Rattle.std.proofs.lemmas.List.{length-take, take_min}
use borrow.Author.Tests.{lt-ltb, le-ltb}
use Rattle.packet_format.specs.Answer.{Fetched, Taken}
use Rattle.hermes.specs.Answer as answer
use Rattle.hermes.specs.Answer.{Answer, Admission}
use Rattle.std.specs.Prelude.{Err, None, Ok}
use Rattle.hermes_record.specs.declared.timestamp.Rule.{Rule}
use Rattle.hermes.specs.declared.event.Event.{Event}
use Rattle.hermes.specs.declared.event.Event.TheVariants.{Read, Ask, Write, Commit, Replay, Deliver, Validate, Resend}
use Rattle.hermes.specs.declared.event.Moved.{Moved}
use Rattle.hermes_record.specs.Order.{ties}
use Rattle.hermes.specs.Store.{value_at}
use Rattle.hermes.specs.Event as event
use Rattle.hermes.specs.Event.{answer_of, refusal, step, effect, part_of, read_part, ask_hands}
use Rattle.hermes.specs.Node as hermes
use Rattle.hermes.specs.Node.{record_at, record_of, effect_of, apply, viewed, admission_number}
use Rattle.hermes.specs.Run.{Logged}
use Rattle.packet_format.specs.Reading.{fetched, body_of}
use Rattle.packet_format.specs.Accepting.{accepted, taken, fetched_of}
use Rattle.packet_format.proofs.Accepting.{taken-is-fetched}
use Rattle.packet_event.specs.Arrival.{received_of, receipt_of, receipt}
use Rattle.export_records.specs.Layout.{count_of, table_of}
use Rattle.export_storing.specs.Storing.{bytes_after, table_after}
use Rattle.export_storing.proofs.Table.{settled-table, settled-nowhere, settled-step}
use Rattle.export_numbers.specs.Crossing.{replica_of, answer_out, admission_out, received_in}
use Rattle.export_fields.specs.declared.answers.CetskobiAccepted.{CetskobiAccepted}
use Rattle.export_fields.specs.Answers.{accepted_in}
use Rattle.export_packets.specs.Calls.{accept_answer}
use Rattle.export_reading.specs.Reading.{AskDone}
use Rattle.export_arrival.specs.Arrival.{numbers_of, bytes_arrived}
use Rattle.export_accepted.specs.declared.accepted.CetskobiArrival.{CetskobiArrival}
use Rattle.export_accepted.specs.Arrival.{arrival_of, taken_receipt, Came}
use Rattle.export_packets.proofs.RoundTrip.{packed-for-others}
use Rattle.export_numbers.specs.Crossing.{group_rule}
use Rattle.check_air.specs.Air.{words_sent, bodies_sent}
use Rattle.check_air.specs.Callers.{Laptop, node, FromAir, read, ask, write, commit, replay, deliver, deliver_packet, deliver_accepted, validate, resend, view, Moves, Returns, Broken, Untaken, validates, acknowledges}
use Rattle.check_air.specs.Answered.{call_number, ask_answer, after_event, after_taken, after_call, EveryCallMayFollow, EveryCallFinishes, EveryCallAnswers}
use Rattle.check_air.proofs.Callers.{number-out}

-- the bytes after an event hold the table after it
after-bytes : (m : Moved) (a : Answer) (bytes : List ℕ) (i : ℕ) → m.answer ≡ a → table_of (bytes_after m bytes i) ≡ table_after m (table_of bytes) i
after-bytes m (Ok o) bytes i e = go (dec_lt i (count_of (length bytes)))
  where
    go : Dec (i < count_of (length bytes)) → table_of (bytes_after m bytes i) ≡ table_after m (table_of bytes) i
    go (yes l) = rw (e, lt-ltb i (count_of (length bytes)) l) (rw e at (settled-table m o bytes i e l))
    go (no n) = rw (e, le-ltb i (count_of (length bytes)) (omega arith)) (rw e at (settled-nowhere m o bytes i e (omega arith)))
after-bytes m (Err k) bytes i e = rw e

pub after_table : (l : Laptop) (i : ℕ) (e : Event) (v : List ℕ) → table_of (after_event l i e v).table ≡ (apply ties (node l) i e v).node.table
unfolding apply effect
after_table l i e v =
    let table = table_of l.table in
    let m = (effect_of ties (node l) i e v).moved in
    after-bytes m m.answer l.table i refl
    ∙ settled-step (refusal (replica_of l.me) (length table) (length l.store) i (record_at table i) e (length v)) table i (step ties (replica_of l.me) i (record_at table i) e v)

moves : (l : Laptop) (i : ℕ) (e : Event) (v : List ℕ) → Moves l i e v (event.number_of (apply ties (node l) i e v).answer) (after_event l i e v)
moves l i e v =
    let a = (apply ties (node l) i e v).answer in
    (answer_out a, record { answer = refl; bytes = refl; table = after_table l i e v; store = refl }, number-out a, refl)

-- a delivery from a packet
arrives : (l : Laptop) (p : List ℕ) (i : ℕ) → Returns (deliver_packet p i) l (call_number (deliver_packet p i) l) (after_call (deliver_packet p i) l)
unfolding receipt
arrives l p i = (answer_out a, record { answer = refl; bytes = refl; table = go (fetched (group_rule l.me) p i); store = refl }, number-out a, refl)
  where
    a : Answer
    a = (receipt_of ties (node l) p (fetched (group_rule l.me) p i)).answer

    go : (f : Fetched) → table_of (bytes_arrived (node l) l.table p f) ≡ (receipt_of ties (node l) p f).node.table
    go (Ok (e, at)) = after_table l e.header.index (Deliver (received_of e)) (body_of p (Ok (e, at)))
    go (Err k) = refl

-- and by facts
takes : (l : Laptop) (p : List ℕ) (a : CetskobiAccepted) (i : ℕ)
    → Returns (deliver_accepted p a i) l (call_number (deliver_accepted p a i) l) (after_call (deliver_accepted p a i) l)
takes l p a i = by (taken p (accepted_in a) i)
  where
    by : (t : Taken) → (r : CetskobiArrival) × Came (node l) l.table p t r (after_taken l p t).table (after_taken l p t).store × (r.answer.number ≡ event.number_of (taken_receipt (node l) p t).answer) × ((after_taken l p t).me ≡ l.me)
    by (Ok f) =
        let (x, d, q, same) = moves l f.index (Deliver (received_in (numbers_of f))) (body_of p (fetched_of (Ok f))) in
        (arrival_of (Ok f) x, record { message = refl; done = d }, q, same)
    by (Err r) = (arrival_of (Err r) (answer_out (Err r)), record { message = refl; done = (refl, refl, refl) }, refl, refl)

-- a part as long as it is
pub own-length : (n : ℕ) (xs : List ℕ) → take (length (take n xs)) xs ≡ take n xs
own-length n xs = rw length-take (take_min n xs)

-- what is handed out lies in the store, or is empty
handed_out : (i n : ℕ) (store : List ℕ) (k : ℕ) → take (length (part_of k (value_at i n store))) (drop (192 * i) store) ≡ part_of k (value_at i n store)
handed_out i n store zero = own-length n (drop (192 * i) store)
handed_out i n store (suc k) = refl

reads : (l : Laptop) (i : ℕ) → Returns (read i) l (call_number (read i) l) l
unfolding read_part
reads l i = (
  record { number = call_number (read i) l; len = length (hermes.read (node l) i) },
  record {
    number = refl;
    part = record { len = refl; part = handed_out i (record_of i (node l)).len l.store (refusal (node l).me (length (node l).table) (length l.store) i (record_of i (node l)) Read 0) };
  },
  refl,
  refl,
)

pub asks : (l : Laptop) (i : ℕ) → AskDone (node l) i (ask_answer l i)
unfolding ask_hands
asks l i = record {
  number = refl;
  part = record { len = refl; part = handed_out i (record_of i (node l)).len l.store (refusal (node l).me (length (node l).table) (length l.store) i (record_of i (node l)) Ask 0) };
  version = refl;
  tie = refl;
}

-- a change of view
views : (l : Laptop) (epoch set : ℕ) → Returns (view epoch set) l (call_number (view epoch set) l) (after_call (view epoch set) l)
unfolding viewed
views l epoch set = (admission_out a l.me, refl, said a, refl)
  where
    a : Admission
    a = hermes.view (replica_of l.me) epoch set

    zeros : (k : ℕ) → event.number_of (answer_of k None) ≡ k
    zeros zero = refl
    zeros (suc k) = refl

    said : (a : Admission) → (admission_out a l.me).number ≡ event.number_of (answer_of (admission_number a) None)
    said (Ok x) = refl
    said (Err k) = sym (zeros k.0)

pub every-call-answers : EveryCallAnswers
every-call-answers (read i) l = reads l i
every-call-answers (ask i) l = (ask_answer l i, asks l i, refl, refl)
every-call-answers (write i v) l = moves l i Write v
every-call-answers (commit i version tie v) l = moves l i (Commit (record { version = version; tie = tie })) v
every-call-answers (replay i) l = moves l i Replay []
every-call-answers (deliver i m v) l = moves l i (Deliver (received_in m)) v
every-call-answers (deliver_packet p i) l = arrives l p i
every-call-answers (deliver_accepted p a i) l = takes l p a i
every-call-answers (validate i) l = moves l i Validate []
every-call-answers (resend i) l = moves l i Resend []
every-call-answers (view epoch set) l = views l epoch set

-- a broken packet's own facts
untaken : (rule : Rule) (p : List ℕ) (i : ℕ) → Broken rule p i → Untaken p (accept_answer rule p) i
untaken rule p i h = by (taken p (accepted rule p) i) refl
  where
    by : (t : Taken) → taken p (accepted rule p) i ≡ t → Untaken p (accept_answer rule p) i
    by (Ok f) e = let found : ◌≡◌ {A = Fetched} (fetched_of (Ok f)) (Err (answer.no h.number)) = sym (ap fetched_of e) ∙ taken-is-fetched rule p i ∙ h.refused in absurd (cc)
    by (Err k) e = record { number = k.0; refused = e }

-- a packet for the other rule is refused by 27
for-others : (other rule : Rule) (log : List Logged) (p : List ℕ) (i : ℕ) → other ≢ rule → FromAir other log p i → Broken rule p i
for-others other rule log p i different f =
    let ss = f.before ++ f.sending ∷ f.after in
    record { number = 27; refused = rw f.packed.front ((packed-for-others other rule (words_sent ss) (bodies_sent ss) f.packed.out different f.packed.accepted).fetching i) }

pub every-call-may-follow : EveryCallMayFollow
every-call-may-follow issued log rule = record {
  reads = λ i. tt;
  asks = λ i. tt;
  writes = λ i v. tt;
  commits = λ i version tie v. tt;
  replays = λ i. tt;
  deliveries = λ i m v h. inl h;
  unknowns = λ i m v h. inr h;
  packets = λ p i h. inl h;
  others = λ other p i different h. inr (for-others other rule log p i different h);
  broken = λ p i h. inr h;
  accepted = λ packing p a i h. inl (packing, h);
  foreign = λ p a i k e. inr (record { number = k; refused = e });
  unaccepted = λ p i h. inr (untaken rule p i h);
  validations = λ i. tt;
  resends = λ i. tt;
  views = λ epoch. refl;
}

pub every-call-finishes : EveryCallFinishes
every-call-finishes = record {
  validations = λ n i. validates refl;
  deliveries = λ n i j m v t e. acknowledges tt t e;
  packets = λ n i j p t e. acknowledges tt t e;
  accepted = λ n i j p a t e. acknowledges tt t e;
}
