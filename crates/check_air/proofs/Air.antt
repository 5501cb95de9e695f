-- What left a call, packed and delivered from the packet, is the delivery of the message that left.
use Prim.Native.Nat.{ℕ, zero, suc, ◌+◌, ◌*◌, ◌<◌}
use mathlib.Core.Path.{◌≡◌, refl, sym, ap, subst, ◌∙◌}
use mathlib.Core.Bool.{Bool, true, false}
use mathlib.Core.List.{List, [], ◌∷◌, ◌++◌, append_assoc}
use native.Mathlib.Omega.{arith}
use lib.ListN.{length, take, drop, get_or, length-append}
use lib.Seq.{get_or-append-add, take-append_seam, drop-append_seam}
use Rattle.hermes_record.specs.declared.timestamp.Timestamp.{Timestamp}
use Rattle.hermes_record.specs.declared.timestamp.Rule.{Rule}
use Rattle.hermes_record.specs.declared.record.Record.{Record}
use Rattle.hermes_record.specs.declared.record.State.{State}
use Rattle.hermes_record.specs.declared.record.State.TheVariants as state
use Rattle.hermes.specs.declared.message.Message.{Message}
use Rattle.hermes.specs.declared.message.Message.TheVariants.{Inv, Ack, Val}
use Rattle.packet_format.specs.Answer.{Fetched}
use Rattle.hermes.specs.Answer.{Outgoing, Answer}
use Rattle.std.specs.Prelude.{Err, None, Ok, Some}
use Rattle.hermes.specs.declared.event.Replica.{Replica}
use Rattle.hermes.specs.declared.event.Event.{Event}
use Rattle.hermes.specs.declared.event.Event.TheVariants.{Read, Ask, Write, Commit, Replay, Deliver, Validate, Resend}
use Rattle.hermes_record.specs.Order.{ties, later}
use Rattle.hermes.specs.Settings.{under}
use Rattle.hermes.specs.Kind.{message_of}
use Rattle.hermes.proofs.Kind.{message-back}
use Rattle.hermes.specs.Event.{sent_by, step, deliver_step, inv_step, ack_step, completes, resent}
use Rattle.hermes.specs.Node.{Node, Outcome, record_of, leaving, apply}
use Rattle.hermes.specs.Run.{Logged, logged}
use Rattle.hermes.proofs.Apply.{Applied, refused, accepted, applied}
use Rattle.packet_format.specs.declared.entry.Entry.{Entry}
use Rattle.packet_format.specs.Reading.{entry_place, fetched, body_of}
use Rattle.packet_words.specs.ReadBack.{many_in, word, said_by, body_from, ReadsAs}
use Rattle.export_packets.proofs.RoundTrip.{packed-reads}
use Rattle.packet_event.specs.Arrival.{received_of}
use Rattle.export_numbers.specs.declared.numbers.CetskobiAnswer.{CetskobiAnswer}
use Rattle.export_numbers.specs.Crossing.{message_out, answer_out}
use Rattle.export_calls.specs.Calls.{node_of, Done}
use Rattle.export_calls.specs.Part.{PartAt}
use Rattle.export_outgoing.specs.Leaving.{Along, along, along_of, AlongAt}
use Rattle.export_outgoing.proofs.Sent.{asked-body}
use Rattle.export_arrival.specs.Arrival.{Arrived}
use Rattle.export_accepted.specs.OnePass.{arrival_for}
use Rattle.export_numbers.specs.Crossing.{group_rule}
use Rattle.export_accepted.proofs.OnePass.{delivers-all}
use Rattle.check_air.specs.Air.{Sending, seven_of, words_sent, bodies_sent, Called, Packed, ThroughTheAir, AcceptedThroughTheAir}

-- ---- what leaves an event has the laptop's header and crosses as its answer

-- the message that leaves an event of `me` on record i
abbrev Headed : Replica → ℕ → Outgoing → Type 0
Headed me i None = Unit
Headed me i (Some (m, h)) = h ≡ record { sender = me.number; epoch = me.epoch; index = i }

module _ (me : Replica) (i : ℕ) (r : Record) (v : List ℕ) where
  again : (s : State) (t : Timestamp) → Headed me i (resent me i s t)
  again state.Valid t = refl
  again state.Invalid t = tt
  again state.InvalidWrite t = tt
  again state.Write t = refl
  again state.Replay t = refl

  delivered : (sender : ℕ) (x : Message) → Headed me i (deliver_step ties me i r sender x v).sent
  delivered sender (Inv t) = go (later (under ties me.settings) t r.timestamp)
    where
      go : (b : Bool) → Headed me i (inv_step b me i r t sender v).sent
      go true = refl
      go false = refl
  delivered sender (Ack t) = go (completes me r sender)
    where
      go : (c : Bool) → Headed me i (ack_step c me i r sender).sent
      go true = refl
      go false = tt
  delivered sender (Val t) = tt

  headed : (e : Event) → Headed me i (step ties me i r e v).sent
  headed Read = tt
  headed Ask = tt
  headed Write = refl
  headed (Commit t) = refl
  headed Replay = refl
  headed (Deliver m) = delivered m.sender m.message
  headed Validate = refl
  headed Resend = again r.state r.timestamp

-- the answer crosses as this message, and the log has it with its header and the bytes that it takes along
record Crosses (me : Replica) (i : ℕ) (a : Answer) (n : Node) (x : Logged) : Type 0 where
  answer : answer_out a ≡ message_out x.message
  header : x.header ≡ record { sender = me.number; epoch = me.epoch; index = i }
  body : x.body ≡ leaving (sent_by a) n.table n.store

crosses : (me : Replica) (i : ℕ) (n : Node) (x : Logged) (a : Answer) → Headed me i (sent_by a) → logged [] n (sent_by a) ≡ x ∷ [] → Crosses me i a n x
crosses me i n x (Ok None) h e = absurd (cc)
crosses me i n x (Ok (Some (m, d))) h e =
    let q : record { header = d; message = m; body = leaving (Some (m, d)) n.table n.store } ≡ x = cc in
    record {
      answer = ap (λ (y : Logged). message_out y.message) q;
      header = sym (ap (λ (y : Logged). y.header) q) ∙ h;
      body = sym (ap (λ (y : Logged). y.body) q);
    }
crosses me i n x (Err k) h e = absurd (cc)

-- the same of a call, by its contract
module _ (x : Logged) (s : Sending) (c : Called x s) where
  abbrev n : Node
  n = node_of s.from c.table c.store

  abbrev o : Outcome
  o = apply ties n s.index c.event c.value

  led : Headed n.me s.index (sent_by o.answer)
  led = go (applied ties n s.index c.event c.value)
    where
      go : Applied ties n s.index c.event c.value o → Headed n.me s.index (sent_by o.answer)
      go (refused k z p) = rw p tt
      go (accepted y d p) = rw p (headed n.me s.index (record_of s.index n) c.value c.event)

  crossed : Crosses n.me s.index o.answer o.node x
  crossed = crosses n.me s.index o.node x o.answer led c.leaves

  -- `cetskobi_body` told the bytes that it left with
  bytes_left : s.body ≡ x.body
  bytes_left =
      let left = leaving (sent_by o.answer) o.node.table o.node.store in
      let here : along_of c.table' c.store' s.index s.left ≡ along left =
      asked-body n s.index c.event c.value c.table s.left c.table' c.store' c.called in
      let part : PartAt c.store' s.index left c.told = subst (λ (a : Along). AlongAt c.store' s.index a c.told) here c.asked in
      c.copied ∙ part.part ∙ sym crossed.body

-- ---- the packet

-- the seven words of message k stand at 7 * k, its bytes behind those of the messages before it
length-words : (ss : List Sending) → length (words_sent ss) ≡ 7 * length ss
length-words [] = refl
length-words (s ∷ ss) = omega (arith, length-words ss)

words_append : (before after : List Sending) → words_sent (before ++ after) ≡ words_sent before ++ words_sent after
words_append [] after = refl
words_append (s ∷ before) after = ap (λ (l : List ℕ). seven_of s ++ l) (words_append before after)

word_at : (before after : List Sending) (s : Sending) (j : ℕ) → get_or (words_sent (before ++ s ∷ after)) (7 * length before + j) 0 ≡ get_or (seven_of s ++ words_sent after) j 0
word_at before after s j =
    rw (words_append before (s ∷ after), ← length-words before) (get_or-append-add (words_sent before) (seven_of s ++ words_sent after) j 0)

bodies-append : (before after : List Sending) → bodies_sent (before ++ after) ≡ bodies_sent before ++ bodies_sent after
bodies-append [] after = refl
bodies-append (s ∷ before) after = ap (λ (l : List ℕ). s.body ++ l) (bodies-append before after) ∙ sym (append_assoc s.body (bodies_sent before) (bodies_sent after))

body_at : (before after : List Sending) (s : Sending) → take (length s.body) (drop (length (bodies_sent before)) (bodies_sent (before ++ s ∷ after))) ≡ s.body
body_at before after s = rw (bodies-append before (s ∷ after), drop-append_seam (bodies_sent before) (bodies_sent (s ∷ after))) (take-append_seam s.body (bodies_sent after))

-- one message more in front
body-behind : (s : Sending) (words : List ℕ) (k : ℕ) → body_from (seven_of s ++ words) (suc k) ≡ length s.body + body_from words k
body-behind s words zero = omega arith
body-behind s words (suc k) =
    let place : 7 * suc k + 6 ≡ 7 + (7 * k + 6) = omega arith in
    let next : word (seven_of s ++ words) (suc k) 6 ≡ word words k 6 = ap (λ (j : ℕ). get_or (seven_of s ++ words) j 0) place ∙ get_or-append-add (seven_of s) words (7 * k + 6) 0 in
    omega (arith, body-behind s words k)

body-place : (before after : List Sending) → body_from (words_sent (before ++ after)) (length before) ≡ length (bodies_sent before)
body-place [] after = refl
body-place (s ∷ before) after =
    body-behind s (words_sent (before ++ after)) (length before) ∙ ap (λ (j : ℕ). length s.body + j) (body-place before after) ∙ sym (length-append s.body (bodies_sent before))

-- ---- the three calls

-- the entry of a message that left
abbrev pub entry_left : Logged → Entry
entry_left x = record { header = x.header; message = x.message; len = length x.body }

module _ (before after : List Sending) (s : Sending) (x : Logged) (c : Called x s) where
  abbrev words : List ℕ
  words = words_sent (before ++ s ∷ after)

  -- its words stand for the message that left
  said : said_by words (length before) ≡ entry_left x
  said =
      let w = word_at before after s in
      let d = crossed x s c in
      let left : s.left ≡ message_out x.message = c.called.answer ∙ d.answer in
      let named : (said_by words (length before)).header ≡ record { sender = s.from.number; epoch = s.from.epoch; index = s.index } =
      λ i. record { sender = w 1 i; epoch = w 2 i; index = w 3 i } in
      let told : (said_by words (length before)).message ≡ message_of s.left.kind (record { version = s.left.version; tie = s.left.tie }) =
      λ i. message_of (w 0 i) (record { version = w 4 i; tie = w 5 i }) in
      let header : (said_by words (length before)).header ≡ x.header = named ∙ sym d.header in
      let message : (said_by words (length before)).message ≡ x.message =
      told ∙ ap (λ (a : CetskobiAnswer). message_of a.kind (record { version = a.version; tie = a.tie })) left ∙ message-back x.message in
      let len : (said_by words (length before)).len ≡ length x.body = w 6 ∙ ap length (bytes_left x s c) in
      λ i. record { header = header i; message = message i; len = len i }

  body-said : take (word words (length before) 6) (drop (body_from words (length before)) (bodies_sent (before ++ s ∷ after))) ≡ x.body
  body-said = rw (word_at before after s 6, body-place before (s ∷ after)) (body_at before after s) ∙ bytes_left x s c

-- what a fetch found is delivered with its bytes
delivers : (n : Node) (table p : List ℕ) (e : Entry) (at : ℕ) (v : List ℕ) (a : CetskobiAnswer) (table' store' : List ℕ) → body_of p (Ok (e, at)) ≡ v
    → Arrived n table p (Ok (e, at)) a table' store' → Done n table e.header.index (Deliver (received_of e)) v a table' store'
delivers n table p e at v a table' store' brings h =
    rw (sym brings) (record { answer = h.answer; bytes = h.bytes; table = h.table; store = h.store })

-- a packet reads back as what was sent
reads : (rule : Rule) (ss : List Sending) (packet : List ℕ) → Packed rule ss packet → ReadsAs rule packet (words_sent ss) (bodies_sent ss)
reads rule ss packet p = rw p.front (packed-reads rule (words_sent ss) (bodies_sent ss) p.out p.accepted)

module _ (rule : Rule) (before after : List Sending) (s : Sending) (x : Logged) (packet : List ℕ) (c : Called x s) (p : Packed rule (before ++ s ∷ after) packet) where
  -- what the packet's reader finds
  pub found_left : (at : ℕ) × (fetched rule packet (length before) ≡ Ok (entry_left x, at)) × (body_of packet (Ok (entry_left x, at)) ≡ x.body)
  found_left =
      let ss = before ++ s ∷ after in
      let r : ReadsAs rule packet (words_sent ss) (bodies_sent ss) = reads rule ss packet p in
      let k : length before < many_in (words_sent ss) = omega (arith, length-words ss, length-append before (s ∷ after)) in
      let at = entry_place (many_in (words_sent ss)) + body_from (words_sent ss) (length before) in
      let found : fetched rule packet (length before) ≡ Ok (entry_left x, at) = r.message (length before) k ∙ ap (λ (e : Entry). Ok (e, at)) (said before after s x c) in
      (at, found, sym (ap (body_of packet) found) ∙ r.body (length before) k ∙ body-said before after s x c)

pub through-the-air : ThroughTheAir
through-the-air before after s x packet me c p table store table' store' a h =
    let (at, found, brings) = found_left (group_rule me) before after s x packet c p in
    let arrived : Arrived (node_of me table store) table packet (Ok (entry_left x, at)) a table' store' =
    subst (λ (f : Fetched). Arrived (node_of me table store) table packet f a table' store') found h in
    delivers (node_of me table store) table packet (entry_left x) at x.body a table' store' brings arrived

pub accepted-through-the-air : AcceptedThroughTheAir
accepted-through-the-air before after s x packet me c p table store table' store' r h =
    let d = delivers-all me table store packet (length before) r table' store' h in
    record {
      done = through-the-air before after s x packet me c p table store table' store' r.answer d.arrived;
      tells = d.message ∙ ap (λ (f : Fetched). arrival_for f r.answer) (found_left (group_rule me) before after s x packet c p).1;
    }
