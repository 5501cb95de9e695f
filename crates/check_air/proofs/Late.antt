-- A text that is told later is the text that left. The idea: every event leaves a record's timestamp, length and 192 bytes as they are, or its
-- timestamp rises; so under one timestamp there was no other text in between.
use Prim.Native.Nat.{ℕ, ◌*◌, ◌/◌, ◌≤◌}
use mathlib.Core.Path.{◌≡◌, refl, sym, ap, ap₂, subst, ◌∙◌}
use mathlib.Core.Bool.{Bool, true, false, cond, ◌&&◌}
use mathlib.Core.List.{List, [], ◌∷◌}
use mathlib.Core.Logic.{◌⊎◌, inl, inr, ◌≢◌}
use native.Mathlib.Omega.{arith}
use native.Mathlib.Decide.{ℕ_discrete}
use lib.Dec.{eqb, leb, ltb}
use lib.ListN.{length, take, drop}
use borrow.Author.Tests.{eqb-true, leb-true}
use Rattle.hermes_record.specs.declared.timestamp.Timestamp.{Timestamp}
use Rattle.hermes_record.specs.declared.record.Record.{Record}
use Rattle.hermes.specs.declared.message.Message.{Message}
use Rattle.hermes.specs.declared.message.Message.TheVariants.{Inv, Ack, Val}
use Rattle.hermes.specs.declared.event.Replica.{Replica}
use Rattle.hermes.specs.declared.event.Settings.{Settings}
use Rattle.hermes.specs.declared.event.Event.{Event}
use Rattle.hermes.specs.declared.event.Event.TheVariants.{Read, Ask, Write, Commit, Replay, Deliver, Validate, Resend}
use Rattle.hermes_record.specs.Order.{TieOrder, ties, later, same_timestamp, NotAfter, equal, rises}
use Rattle.std.proofs.lemmas.Bool.{and_parts}
use Rattle.hermes_record.proofs.Order.{ties-order, same-equal, greater-later, later-apart, not_after-trans, not_after-antisym}
use Rattle.hermes.specs.Guards.{AllYes, question9}
use Rattle.hermes.specs.Kind as kind
use Rattle.hermes.specs.Store.{slot, value_at}
use Rattle.hermes.specs.Settings.{under}
use Rattle.hermes.specs.Event.{Stored, kept, Step, own, step, write_step, deliver_step, inv_step, ack_step, completes, number_of}
use Rattle.hermes.specs.Node.{Node, Outcome, record_of, apply, viewed}
use Rattle.hermes.specs.Frame.{bytes_after, Changed}
use Rattle.hermes.proofs.Frame.{view-frame}
use Rattle.hermes.proofs.Guards.{slot-fits}
use Rattle.hermes.proofs.Steps.{next-version}
use Rattle.hermes.proofs.Store.{slot-elsewhere, value-slot}
use Rattle.hermes.proofs.Apply.{step_of, done, first-five, its_own, Applied, refused, accepted, applied}
use Rattle.packet_format.specs.Answer.{Fetched, Taken}
use Rattle.std.specs.Prelude.{Err, Ok}
use Rattle.packet_format.specs.Reading.{fetched, body_of}
use Rattle.packet_format.specs.Accepting.{taken, fetched_of}
use Rattle.export_fields.specs.Answers.{accepted_in}
use Rattle.export_arrival.specs.Arrival.{numbers_of}
use Rattle.export_accepted.specs.Arrival.{taken_receipt}
use Rattle.packet_event.specs.Arrival.{received_of, receipt_of, receipt}
use Rattle.export_numbers.specs.declared.numbers.CetskobiAnswer.{CetskobiAnswer}
use Rattle.export_numbers.specs.Crossing.{received_in}
use Rattle.export_calls.specs.Calls.{node_of}
use Rattle.export_outgoing.specs.Leaving.{Along, along, gone, along_if, stamp_of, holds, along_of, AlongAt}
use Rattle.export_outgoing.proofs.Sent.{nothing-along, asked-body}
use Rattle.check_air.specs.Callers.{Laptop, node, Call, read, ask, write, commit, replay, deliver, deliver_packet, deliver_accepted, validate, resend, view, Hut, Turn, Returns, outcome, next, after, Follows, laptop}
use Rattle.check_air.specs.Late.{OneText, LateIsCalled}
use Rattle.check_air.proofs.Callers.{lands}
use Rattle.check_air.proofs.Answered.{own-length}

-- ---- one record, from one laptop to what became of it

-- the order of ties of a laptop's group
abbrev order : Node → ℕ → ℕ → Bool
order n = under ties n.me.settings

-- its timestamp never goes back, by the rule that stays, and as long as it is the same so are length and bytes
record Since (i : ℕ) (n m : Node) : Type 0 where
  fixed : m.me.settings ≡ n.me.settings
  up : NotAfter (order n) (record_of i n).timestamp (record_of i m).timestamp
  text : (record_of i n).timestamp ≡ (record_of i m).timestamp → ((record_of i m).len ≡ (record_of i n).len) × (slot i m.store ≡ slot i n.store)

module _ (i : ℕ) where
  stays : (n m : Node) → m.me.settings ≡ n.me.settings → (record_of i m).timestamp ≡ (record_of i n).timestamp → (record_of i m).len ≡ (record_of i n).len → slot i m.store ≡ slot i n.store → Since i n m
  stays n m s t l b = record { fixed = s; up = equal (sym t); text = λ e. (l, b) }

  since-refl : (n : Node) → Since i n n
  since-refl n = stays n n refl refl refl refl

  since-trans : (n m o : Node) → Since i n m → Since i m o → Since i n o
  since-trans n m o p q = record { fixed = q.fixed ∙ p.fixed; up = not_after-trans (order n) ord p.up on; text = text }
    where
      ord : TieOrder (order n)
      ord = ties-order n.me.settings.rule

      on : NotAfter (order n) (record_of i m).timestamp (record_of i o).timestamp
      on = subst (λ (x : Settings). NotAfter (under ties x) (record_of i m).timestamp (record_of i o).timestamp) p.fixed q.up

      text : (record_of i n).timestamp ≡ (record_of i o).timestamp → ((record_of i o).len ≡ (record_of i n).len) × (slot i o.store ≡ slot i n.store)
      text e =
          let back : NotAfter (order n) (record_of i m).timestamp (record_of i n).timestamp = subst (λ (t : Timestamp). NotAfter (order n) (record_of i m).timestamp t) (sym e) on in
          let here = not_after-antisym (order n) ord p.up back in
          let (l, b) = p.text here in
          let (l', b') = q.text (sym here ∙ e) in
          (l' ∙ l, b' ∙ b)

-- ---- an event

-- what a step does to timestamp, length and bytes: nothing, or the timestamp rises
abbrev Keeps : Record → Step → Type 0
Keeps r s = (s.after.timestamp ≡ r.timestamp) × (s.after.len ≡ r.len) × (s.stored ≡ kept)

abbrev KeepsOrRises : Replica → Record → Step → Type 0
KeepsOrRises me r s = Keeps r s ⊎ (later (under ties me.settings) s.after.timestamp r.timestamp ≡ true)

module _ (me : Replica) (k : ℕ) (r : Record) (v : List ℕ) where
  delivered : (sender : ℕ) (m : Message) → KeepsOrRises me r (deliver_step ties me k r sender m v)
  delivered sender (Inv t) = go (later (under ties me.settings) t r.timestamp) refl
    where
      go : (g : Bool) → later (under ties me.settings) t r.timestamp ≡ g → KeepsOrRises me r (inv_step g me k r t sender v)
      go true g = inr g
      go false g = inl (refl, refl, refl)
  delivered sender (Ack t) = go (completes me r sender)
    where
      go : (c : Bool) → KeepsOrRises me r (ack_step c me k r sender)
      go true = inl (refl, refl, refl)
      go false = inl (refl, refl, refl)
  delivered sender (Val t) = inl (refl, refl, refl)

  -- a write's step, below the greatest version
  raised : (question9 r).yes ≡ true → KeepsOrRises me r (write_step me k r v)
  raised h =
      let more = next-version r.timestamp.version h in
      inr (greater-later (under ties me.settings) (write_step me k r v).after.timestamp r.timestamp (inl (omega (arith, more))))

  steps : (e : Event) → AllYes (own me r e (length v)) → KeepsOrRises me r (step ties me k r e v)
  steps Read y = inl (refl, refl, refl)
  steps Ask y = inl (refl, refl, refl)
  steps Write y = raised y.1.1.0
  steps (Commit t) y = raised y.1.1.0
  steps Replay y = inl (refl, refl, refl)
  steps (Deliver m) y = delivered m.sender m.message
  steps Validate y = inl (refl, refl, refl)
  steps Resend y = inl (refl, refl, refl)

-- an event on record k, as record i sees it
event-since : (i : ℕ) (n : Node) (k : ℕ) (e : Event) (v : List ℕ) → Since i n (apply ties n k e v).node
event-since i n k e v = go (apply ties n k e v) (applied ties n k e v)
  where
    s : Step
    s = step_of ties n k e v

    here : Changed k s n (done n k s) → KeepsOrRises n.me (record_of k n) s → Since k n (done n k s)
    here c (inl (t, l, b)) =
        stays k n (done n k s) refl (ap (λ (r : Record). r.timestamp) c.here ∙ t) (ap (λ (r : Record). r.len) c.here ∙ l) (c.bytes ∙ ap (λ (x : Stored). bytes_after x (slot k n.store)) b)
    here c (inr g) =
        let up : later (order n) (record_of k (done n k s)).timestamp (record_of k n).timestamp ≡ true = rw c.here g in
        record { fixed = refl; up = rises up; text = λ same. absurd (later-apart (order n) (ties-order n.me.settings.rule) _ _ up same) }

    go : (o : Outcome) → Applied ties n k e v o → Since i n o.node
    go o (refused z q p) = rw p (since-refl i n)
    go o (accepted y c p) = rw p (at (ℕ_discrete i k))
      where
        at : Dec (i ≡ k) → Since i n (done n k s)
        at (yes d) = rw d (here c (steps n.me k (record_of k n) v e (its_own n k e v y)))
        at (no d) =
            let room : 192 * k ≤ length n.store = omega (arith, slot-fits (first-five n k e v y)) in
            let other = c.others i d in
            stays i n (done n k s) refl (ap (λ (r : Record). r.timestamp) other) (ap (λ (r : Record). r.len) other)
            (slot-elsewhere k (done n k s).store n.store (omega (arith, c.room)) room c.before c.behind i d)

-- a change of view leaves the settings
view_fixes : (n : Node) (epoch set : ℕ) → (viewed n epoch set).node.me.settings ≡ n.me.settings
view_fixes n epoch set = go (ℕ_discrete (number_of (viewed n epoch set).answer) 0)
  where
    go : Dec (number_of (viewed n epoch set).answer ≡ 0) → (viewed n epoch set).node.me.settings ≡ n.me.settings
    go (yes e) = ap (λ (x : Node). x.me.settings) ((view-frame n epoch set).accepted e)
    go (no d) = ap (λ (x : Node). x.me.settings) ((view-frame n epoch set).refused d)

-- ---- a call, and a list of calls

module _ (i : ℕ) where
  receipt-since : (n : Node) (p : List ℕ) (f : Fetched) → Since i n (receipt_of ties n p f).node
  receipt-since n p (Ok (e, at)) = event-since i n e.header.index (Deliver (received_of e)) (body_of p (Ok (e, at)))
  receipt-since n p (Err k) = since-refl i n

  taken-since : (n : Node) (p : List ℕ) (t : Taken) → Since i n (taken_receipt n p t).node
  taken-since n p (Ok f) = event-since i n f.index (Deliver (received_in (numbers_of f))) (body_of p (fetched_of (Ok f)))
  taken-since n p (Err k) = since-refl i n

  call-since : (c : Call) (n : Node) → Since i n (outcome c n).node
  unfolding viewed receipt
  call-since (read k) n = event-since i n k Read []
  call-since (ask k) n = event-since i n k Ask []
  call-since (write k v) n = event-since i n k Write v
  call-since (commit k version tie v) n = event-since i n k (Commit (record { version = version; tie = tie })) v
  call-since (replay k) n = event-since i n k Replay []
  call-since (deliver k m v) n = event-since i n k (Deliver (received_in m)) v
  call-since (deliver_packet p k) n = receipt-since n p (fetched n.me.settings.rule p k)
  call-since (deliver_accepted p a k) n = taken-since n p (taken p (accepted_in a) k)
  call-since (validate k) n = event-since i n k Validate []
  call-since (resend k) n = event-since i n k Resend []
  call-since (view epoch set) n = stays i n _ (view_fixes n epoch set) refl refl refl

  module _ (k : ℕ) where
    turn-since : (h : Hut) (s : Turn) → Returns s.call (h.at s.who) s.number s.left → Since i (node (h.at k)) (node ((next h s).at k))
    turn-since h s r = go (eqb k s.who) refl
      where
        go : (b : Bool) → eqb k s.who ≡ b → Since i (node (h.at k)) (node (cond b s.left (h.at k)))
        go true q =
            rw (eqb-true k s.who q, lands s.call (h.at s.who) s.left s.number r) (call-since s.call (node (h.at s.who)))
        go false q = since-refl i (node (h.at k))

    turns-since : (member : ℕ → Bool) (issued : ℕ → ℕ) (h : Hut) (turns : List Turn) → Follows member issued h turns → Since i (node (h.at k)) (laptop h turns k)
    turns-since member issued h [] f = since-refl i (node (h.at k))
    turns-since member issued h (s ∷ rest) (m, fair, r, f) =
        since-trans i (node (h.at k)) (node ((next h s).at k)) (laptop h (s ∷ rest) k) (turn-since h s r) (turns-since member issued (next h s) rest f)

-- ---- what is told

-- bytes that are told are there
telling : (t : Bool) (v b : List ℕ) → along_if t v ≡ along b → (t ≡ true) × (v ≡ b)
telling true v b e = let p : v ≡ b = cc in (refl, p)
telling false v b e = let z : ◌≡◌ {A = ℕ} 0 1 = cc in absurd (omega arith)

-- of an INV: the record has its timestamp, and the bytes are the first of its 192
record Told (n : Node) (i : ℕ) (a : CetskobiAnswer) (b : List ℕ) : Type 0 where
  stamp : stamp_of a ≡ (record_of i n).timestamp
  value : b ≡ value_at i (record_of i n).len n.store
  bytes : b ≡ take (record_of i n).len (slot i n.store)

module _ (l : Laptop) (i : ℕ) (a : CetskobiAnswer) (b : List ℕ) (t : along_of l.table l.store i a ≡ along b) where
  abbrev r : Record
  r = record_of i (node l)

  told-inv : a.kind ≡ kind.inv → Told (node l) i a b
  told-inv inv =
      let room : Bool = ltb i (length l.store / 192) in
      let same : Bool = same_timestamp (stamp_of a) r.timestamp in
      let (h, v) = telling (holds (node l).table l.store i (stamp_of a)) (value_at i r.len l.store) b (rw inv at t) in
      let (c, d) = and_parts (ltb i (length (node l).table)) (same && (leb r.len 192 && room)) h in
      let (e, g) = and_parts same (leb r.len 192 && room) d in
      let short = (and_parts (leb r.len 192) room g).0 in
      record { stamp = same-equal (stamp_of a) r.timestamp e; value = sym v; bytes = sym v ∙ value-slot i r.len l.store (leb-true r.len 192 short) }

  -- what is no INV takes nothing along
  told-other : eqb a.kind kind.inv ≡ false → b ≡ []
  told-other h =
      let none : AlongAt l.store i (along b) 0 = subst (λ (x : Along). AlongAt l.store i x 0) t (nothing-along l.table l.store i a h) in
      sym none.part

  -- it stands in its place
  told-there : take (length b) (drop (192 * i) l.store) ≡ b
  told-there = go (eqb a.kind kind.inv) refl
    where
      go : (inv : Bool) → eqb a.kind kind.inv ≡ inv → take (length b) (drop (192 * i) l.store) ≡ b
      go true q = rw (told-inv (eqb-true _ _ q)).value (own-length r.len (drop (192 * i) l.store))
      go false q = rw (told-other q)

-- a number that is no length's stands for bytes that are there
told-along : (store : List ℕ) (i : ℕ) (x : Along) (n : ℕ) → AlongAt store i x n → n ≢ 18446744073709551615 → x ≡ along (take n (drop (192 * i) store))
told-along store i (along v) n p d = ap along (sym p.part)
told-along store i gone n p d = absurd (d p)

pub one-text : OneText
one-text member issued h turns f k i a early late e l = go (eqb a.kind kind.inv) refl
  where
    go : (inv : Bool) → eqb a.kind kind.inv ≡ inv → late ≡ early
    go true q =
        let p = told-inv (h.at k) i a early e (eqb-true _ _ q) in
        let p' = told-inv ((after h turns).at k) i a late l (eqb-true _ _ q) in
        let (len, bytes) = (turns-since i k member issued h turns f).text (sym p.stamp ∙ p'.stamp) in
        p'.bytes ∙ ap₂ take len bytes ∙ sym p.bytes
    go false q = told-other ((after h turns).at k) i a late l q ∙ sym (told-other (h.at k) i a early e q)

pub late-is-called : LateIsCalled
late-is-called member issued x s c =
    let l = c.h.at c.k in
    let now = (after c.h c.turns).at c.k in
    let n = node_of s.from c.table c.store in
    let early = asked-body n s.index c.event c.value c.table s.left l.table l.store c.called in
    let late = told-along now.store s.index (along_of now.table now.store s.index s.left) c.told c.asked c.there in
    let same = c.copied ∙ one-text member issued c.h c.turns c.follows c.k s.index s.left _ _ early late in
    let told : along_of l.table l.store s.index s.left ≡ along s.body = early ∙ ap along (sym same) in
    let there = told-there l s.index s.left s.body told in
    record {
      table = c.table;
      store = c.store;
      event = c.event;
      value = c.value;
      table' = l.table;
      store' = l.store;
      called = c.called;
      told = length s.body;
      asked = subst (λ (a : Along). AlongAt l.store s.index a (length s.body)) (sym told) (record { len = refl; part = there });
      copied = sym there;
      leaves = c.leaves;
    }
