-- A read and an ask by the number of their refusal: what hermes's `apply`, `read` and `asked` say of it.
use Rattle.std.specs.Prelude.{ℕ, zero, suc, ◌<◌, ◌≡◌, Result, Ok, Err, List, [], length}
use Rattle.std.proofs.Common.{refl, sym, ap, ◌∙◌, arith}
use Rattle.hermes_record.specs.declared.timestamp.Timestamp.{Timestamp}
use Rattle.hermes_record.specs.declared.record.Record.{Record}
use Rattle.hermes.specs.declared.event.Refused.{Refused}
use Rattle.hermes.specs.declared.event.Subject.{Subject}
use Rattle.hermes.specs.declared.event.Moved.{Moved}
use Rattle.hermes.specs.declared.event.Event.TheVariants.{Read, Ask}
use Rattle.hermes.specs.Answer.{Answer, Outgoing}
use Rattle.hermes_record.specs.Order.{ties}
use Rattle.hermes.specs.Event.{Step, read_step, moved, moved_by, effect, number_of, part_of, read_part, ask_stamp, ask_hands, refusal}
use Rattle.hermes.specs.Store.{value_at}
use Rattle.hermes.specs.Node.{Node, Outcome, record_of, apply, asked}
use Rattle.hermes.proofs.Apply.{refusal_of}
use Rattle.hermes.proofs.Asking.{as_read_lem, moves-as-read, ask-gives}
use Rattle.hermes.proofs.Guards.{event-passed, slot-fits}
use Rattle.replica_outcome.proofs.Outcomes.{no-stamp}
use Rattle.replica_reading.specs.Asking.{handed_by}
use Rattle.export_numbers.specs.declared.numbers.CetskobiReading.{CetskobiReading}
use Rattle.export_numbers.specs.declared.numbers.CetskobiReplica.{CetskobiReplica}
use Rattle.export_numbers.specs.Crossing.{replica_of}
use Rattle.export_records.specs.Layout.{count_of}
use Rattle.export_records.proofs.Lent.{length-table}
use Rattle.export_calls.specs.Part.{PartAt}
use Rattle.export_calls.specs.Calls.{node_of, beginning}
use Rattle.export_calls.proofs.Beginnings.{begun-passed}
use Rattle.export_calls.proofs.Parts.{whole_part, no_part}
use Rattle.export_reading.specs.Reading.{reading_of, ReadDone, AskDone}

-- what a read or an ask comes to, of the record that it hands out or of the question that said no
abbrev pub stamp_of : Result Record Refused → Timestamp
stamp_of (Ok r) = r.timestamp
stamp_of (Err e) = record { version = 0; tie = 0 }

pub record HandedOut (n : Node) (i : ℕ) (h : Result Record Refused) : Type 0 where
  pub reading : ReadDone n i (reading_of h)
  pub stamp : stamp_of h ≡ (asked n i).timestamp

-- the number of an answer is that of the first no
number-moved : (k : ℕ) (r : Record) (s : Step) → number_of (moved_by k r s).answer ≡ k
number-moved zero r s = refl
number-moved (suc k) r s = refl

-- a no has a number, and what is accepted has none
said-no : (k : ℕ) (r : Record) (s : Step) (e : Refused) → (moved_by k r s).answer ≡ Err e → (k ≡ e.0) × (0 < e.0)
said-no zero r s e h = absurd (cc)
said-no (suc k) r s e h = let q : suc k ≡ e.0 = ap number_of h in (q, omega (arith, q))

said-yes : (k : ℕ) (r : Record) (s : Step) (o : Outgoing) → (moved_by k r s).answer ≡ Ok o → k ≡ 0
said-yes zero r s o h = refl
said-yes (suc k) r s o h = absurd (cc)

-- what an ask hands out tells its answer
handed-no : (a : Answer) (t : Timestamp) (e : Refused) → handed_by a t ≡ Err e → a ≡ Err e
handed-no (Ok o) t e h = absurd (cc)
handed-no (Err x) t e h = let q : x ≡ e = cc in rw q

handed-yes : (a : Answer) (t u : Timestamp) → handed_by a t ≡ Ok u → (o : Outgoing) × (a ≡ Ok o) × (u ≡ t)
handed-yes (Ok o) t u h = (o, refl, cc)
handed-yes (Err e) t u h = absurd (cc)

module _ (n : Node) (i : ℕ) where
  answered : number_of (apply ties n i Read []).answer ≡ refusal_of n i Read []
  unfolding apply effect
  answered = number-moved (refusal_of n i Read []) (record_of i n) (read_step (record_of i n))

  -- a question said no
  pub refuses : (e : Refused) → refusal_of n i Read [] ≡ e.0 → 0 < e.0 → HandedOut n i (Err e)
  unfolding read_part ask_hands ask_stamp refusal
  refuses e said l = record {
    reading = record {
      number = sym (answered ∙ said);
      part = rw said (go e.0 l);
    };
    stamp = rw said (no-stamp e.0 (record_of i n).timestamp l);
  }
    where
      go : (k : ℕ) → 0 < k → PartAt n.store i (part_of k (value_at i (record_of i n).len n.store)) 0
      go zero l = absurd (omega arith)
      go (suc k) l = no_part n.store i

  -- all said yes, of this record
  pub hands : (r : Record) → r ≡ record_of i n → refusal_of n i Read [] ≡ 0 → HandedOut n i (Ok r)
  unfolding read_part ask_hands ask_stamp refusal
  hands r is z =
      let c = event-passed n.me (length n.table) (length n.store) i (record_of i n) Read 0 z in
      rw is (record {
        reading = record {
          number = sym (answered ∙ z);
          part = rw z (whole_part n.store i (record_of i n).len (omega (arith, slot-fits c, c.sound.short)));
        };
        stamp = rw z;
      })

-- the same of the code, which took the subject out of the bytes and asked the engine
module _ (me : CetskobiReplica) (bytes store : List ℕ) (i : ℕ) (s : Subject) (whole : s ≡ record { me = replica_of me; count = count_of (length bytes); index = i; found = s.found }) (begins : Ok s.found ≡ beginning (replica_of me) bytes (length store) i) where
  abbrev n : Node
  n = node_of me bytes store

  identity : s.me ≡ replica_of me
  identity = ap (λ (x : Subject). x.me) whole

  counted : s.count ≡ count_of (length bytes)
  counted = ap (λ (x : Subject). x.count) whole

  placed : s.index ≡ i
  placed = ap (λ (x : Subject). x.index) whole

  found : s.found ≡ record_of i n
  found = begun-passed (replica_of me) bytes (length store) i s.found (sym begins)

  module _ (a : Answer) (answers : a ≡ (moved ties s.me s.count (length store) s.index s.found Read []).answer) where
    here : a ≡ (moved_by (refusal_of n i Read []) (record_of i n) (read_step (record_of i n))).answer
    unfolding moved
    here = rw (identity, counted, placed, found, ← length-table bytes) at answers

    pub read-refused : (e : Refused) → a ≡ Err e → HandedOut n i (Err e)
    read-refused e refused =
        let (said, l) = said-no (refusal_of n i Read []) (record_of i n) (read_step (record_of i n)) e (sym here ∙ refused) in
        refuses n i e said l

    pub read-accepted : (o : Outgoing) → a ≡ Ok o → HandedOut n i (Ok s.found)
    read-accepted o passed = hands n i s.found found (said-yes (refusal_of n i Read []) (record_of i n) (read_step (record_of i n)) o (sym here ∙ passed))

  -- an ask answers as a read
  module _ (h : Result Timestamp Refused) (asks : h ≡ handed_by (moved ties s.me s.count (length store) s.index s.found Ask []).answer (ask_stamp s.me s.count (length store) s.index s.found)) where
    as-read : (moved ties s.me s.count (length store) s.index s.found Ask []).answer ≡ (moved ties s.me s.count (length store) s.index s.found Read []).answer
    as-read = ap (λ (m : Moved). m.answer) (moves-as-read ties s.me s.count (length store) s.index s.found)

    pub ask-refused : (e : Refused) → h ≡ Err e → HandedOut n i (Err e)
    ask-refused e refused = read-refused _ as-read e (handed-no _ _ e (sym asks ∙ refused))

    -- and hands out the timestamp of the record
    pub ask-accepted : (t : Timestamp) → h ≡ Ok t → ReadDone n i (reading_of (Ok s.found)) × (t ≡ (asked n i).timestamp)
    unfolding ask_hands
    ask-accepted t passed =
        let (o, was, is) = handed-yes _ _ t (sym asks ∙ passed) in
        ((read-accepted _ as-read o was).reading, is ∙ rw (identity, counted, placed, found, length-table bytes))

-- an ask beside a read
pub ask_done : (n : Node) (i : ℕ) (p : CetskobiReading) (t : Timestamp) → ReadDone n i p → t ≡ (asked n i).timestamp
    → AskDone n i (record { number = p.number; tie = t.tie; version = t.version; len = p.len })
ask_done n i p t d e = record {
  number = d.number ∙ sym (ap (λ (o : Outcome). number_of o.answer) (as_read_lem ties n i));
  part = rw (ask-gives ties n i).part d.part;
  version = ap (λ (x : Timestamp). x.version) e;
  tie = ap (λ (x : Timestamp). x.tie) e;
}
