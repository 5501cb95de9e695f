-- Every entry, as each record of its replica sees it, is a move of the protocol, and what leaves is honest.
-- The idea: a table and a store are handled once, for any step; each event is then its own move.
use Prim.Native.Nat.{ℕ, zero, suc, ◌*◌, ◌≤◌}
use mathlib.Core.Path.{◌≡◌, refl, sym, ap, ap₂, ◌∙◌}
use mathlib.Core.Bool.{Bool, true, false, false≢true}
use mathlib.Core.Logic.{◌⊎◌, inl, inr, ◌≢◌}
use mathlib.Core.List.Memᴰ
use mathlib.Core.List.{List, [], ◌∷◌, Memᴰ}
use native.Mathlib.Omega.{arith}
use native.Mathlib.Decide.{ℕ_discrete}
use lib.ListN.{length, take}
use borrow.Author.Rules.{rules}
use Rattle.hermes_record.specs.declared.timestamp.Timestamp.{Timestamp}
use Rattle.hermes_record.specs.declared.record.Record.{Record}
use Rattle.hermes_record.specs.declared.record.State.{State}
use Rattle.hermes_record.specs.declared.record.State.TheVariants as state
use Rattle.hermes.specs.declared.message.Message.{Message}
use Rattle.hermes.specs.declared.message.Message.TheVariants.{Inv, Ack, Val}
use Rattle.hermes.specs.declared.message.Header.{Header}
use Rattle.hermes.specs.Answer.{Outgoing}
use Rattle.std.specs.Prelude.{None, Some}
use Rattle.hermes.specs.declared.event.Replica.{Replica}
use Rattle.hermes.specs.declared.event.Settings.{Settings}
use Rattle.hermes.specs.declared.event.Event.{Event}
use Rattle.hermes.specs.declared.event.Event.TheVariants.{Read, Ask, Write, Commit, Replay, Deliver, Validate, Resend}
use Rattle.hermes_record.specs.Members.{with}
use Rattle.hermes_record.specs.Order.{Orders, TieOrder, later, NotAfter}
use Rattle.hermes.specs.Settings.{under}
use Rattle.hermes_record.specs.Record.{one_of}
use Rattle.hermes_record.proofs.Moves.{invalid-shown, invalid-own}
use Rattle.hermes.specs.Store.{slot, value_at, padded}
use Rattle.hermes.specs.Guards.{AllYes, first_no, question9}
use Rattle.hermes.specs.Event.{Step, write_step, inv_step, ack_step, completes, deliver_step, resent, body_of, answer_of}
use Rattle.hermes.specs.Node.{Node, Outcome, record_of, apply, view, viewed, view_questions, admission_of, admission_number, identity}
use Rattle.hermes.specs.Run as run
use Rattle.hermes.specs.Run.{Logged, Action, Result, Found, find, received, delivery, perform, node_after, logged, log_after}
use Rattle.hermes.specs.Frame.{bytes_after, Changed}
use Rattle.hermes.specs.Agreement.{AsIssued}
use Rattle.std.proofs.lemmas.Bool.{and_parts}
use Rattle.hermes.proofs.Log.{found_in}
use Rattle.hermes.proofs.Members.{Has, within-members, others-members, has-zero, with-members}
use Rattle.hermes_record.proofs.Order.{not_after-refl, not_after-total}
use Rattle.hermes.proofs.Store.{take-padded, value-slot, slot-elsewhere}
use Rattle.hermes.proofs.Guards.{KindOwn, all_yes, deliver-own, validate-own, view-inside, slot-fits}
use Rattle.hermes.proofs.Steps.{next-version}
use Rattle.hermes.proofs.Apply.{step_of, own_of, done, Applied, refused, accepted, applied, first-five, its_own, sound-step}
use Rattle.hermes.proofs.Protocol.{Setting, Copy, Msg, inv, ack, val, Move, stay, write, replay, rcv_inv, rcv_ack, rcv_last, rcv_val, send_vals, shrink, Honest}

-- ---- a replica's record as a copy of the protocol

-- a record's length and its 192 bytes
pub record Cell : Type 0 where
  pub len : ℕ
  pub bytes : List ℕ

-- what storing v leaves
abbrev pub cell_of : List ℕ → Cell
cell_of v = record { len = length v; bytes = padded v }

-- the bytes past the length are zero
abbrev pub Clean : Cell → Type 0
Clean c = cell_of (take c.len c.bytes) ≡ c

pub clean-cell : (v : List ℕ) → Clean (cell_of v)
clean-cell v = ap cell_of (take-padded v)

abbrev pub setting : Orders → Settings → (ℕ → ℕ) → Setting
setting wins settings issued = record { wins = under wins settings; Has = Has; issued = issued; Cell = Cell; Clean = Clean }

abbrev pub copy_of : Replica → Record → List ℕ → Copy Cell
copy_of me r bytes = record {
  epoch = me.epoch;
  view = me.view;
  valid = one_of r.state (state.Valid ∷ []);
  coordinates = one_of r.state (state.Write ∷ state.Replay ∷ []);
  timestamp = r.timestamp;
  writer = r.writer;
  written = r.written;
  acks = r.acks;
  cell = record { len = r.len; bytes = bytes };
}

abbrev pub copy : ℕ → Node → Copy Cell
copy i n = copy_of n.me (record_of i n) (slot i n.store)

abbrev pub msg : (sender epoch : ℕ) → Message → List ℕ → Msg Cell
msg sender epoch (Inv t) v = inv sender epoch t (cell_of v)
msg sender epoch (Ack t) v = ack sender epoch t
msg sender epoch (Val t) v = val sender epoch t

-- the message is in the log, about record i
abbrev pub Known : ℕ → List Logged → Msg Cell → Type 0
Known i log p = (x : Logged) × Memᴰ x log × (x.header.index ≡ i) × (msg x.header.sender x.header.epoch x.message x.body ≡ p)

-- ---- one record put back into its table and store

-- the copy that a step makes of record j
abbrev pub stepped : ℕ → Node → Step → Copy Cell
stepped j n s = copy_of n.me s.after (bytes_after s.stored (slot j n.store))

module _ (j : ℕ) (n : Node) (s : Step) (c : Changed j s n (done n j s)) where
  pub copy-here : copy j (done n j s) ≡ stepped j n s
  copy-here = ap₂ (copy_of n.me) c.here c.bytes

  pub copy-there : 192 * j ≤ length n.store → (i : ℕ) → i ≢ j → copy i (done n j s) ≡ copy i n
  copy-there h i d = ap₂ (copy_of n.me) (c.others i d) (slot-elsewhere j (done n j s).store n.store (omega (arith, c.room)) h c.before c.behind i d)

-- ---- what an entry is to a record

module _ (wins : Orders) (settings : Settings) (issued : ℕ → ℕ) where
  -- what leaves is true of the copy that was left
  abbrev True : Copy Cell → Message → Type 0
  True b (Inv s) = (s ≡ b.timestamp) × (b.coordinates ≡ true)
  True b (Ack s) = NotAfter (under wins settings) s b.timestamp
  True b (Val s) = (s ≡ b.timestamp) × (b.valid ≡ true)

  -- it goes out under the replica's name and epoch, about record j
  abbrev Says : Replica → ℕ → Copy Cell → Outgoing → Type 0
  Says me j b None = Unit
  Says me j b (Some (m, h)) = (h ≡ record { sender = me.number; epoch = me.epoch; index = j }) × True b m

  -- an accepted step on record j
  record Good (log : List Logged) (j : ℕ) (n : Node) (s : Step) : Type 0 where
    moves : Move (setting wins settings issued) n.me.number (Known j log) (copy j n) (stepped j n s)
    says : Says n.me j (stepped j n s) s.sent

  -- an entry, accepted or refused, as record i sees it
  pub record Refined (log : List Logged) (i : ℕ) (n : Node) (r : Result) : Type 0 where
    pub number : (node_after r n).me.number ≡ n.me.number
    pub fixed : (node_after r n).me.settings ≡ n.me.settings
    pub moves : Move (setting wins settings issued) n.me.number (Known i log) (copy i n) (copy i (node_after r n))
    pub left : (p : Msg Cell) → Known i (log_after r log) p → Known i log p ⊎ Honest (setting wins settings issued) n.me.number (copy i (node_after r n)) p

  -- nothing happened
  idle : (log : List Logged) (i : ℕ) (n : Node) → Refined log i n run.nothing
  idle log i n = record { number = refl; fixed = refl; moves = stay refl; left = λ p k. inl k }

  -- a true message is honest
  honest : (i : ℕ) (n : Node) (m : Message) → True (copy i n) m → (record_of i n).len ≤ 192
      → Honest (setting wins settings issued) n.me.number (copy i n) (msg n.me.number n.me.epoch m (body_of m (value_at i (record_of i n).len n.store)))
  honest i n (Inv s) h f = (h.0, λ k. ap cell_of (value-slot i (record_of i n).len n.store f) ∙ k, refl, h.1)
  honest i n (Ack s) h f = (refl, h)
  honest i n (Val s) h f = (refl, h.0, h.1)

  -- what was sent about record j of n joins the log
  joins : (i j : ℕ) (log : List Logged) (n : Node) (o : Outgoing) → (record_of j n).len ≤ 192 → Says n.me j (copy j n) o → (p : Msg Cell)
      → Known i (logged log n o) p → Known i log p ⊎ Honest (setting wins settings issued) n.me.number (copy i n) p
  joins i j log n None f h p k = inl k
  joins i j log n (Some (m, d)) f h p (x, t, e, q) = go (Memᴰ.append_cases log t)
    where
      new : Header → Logged
      new d = record { header = d; message = m; body = body_of m (value_at d.index (record_of d.index n).len n.store) }

      sent : Logged
      sent = new (record { sender = n.me.number; epoch = n.me.epoch; index = j })

      go : Memᴰ x log ⊎ Memᴰ x (new d ∷ []) → Known i log p ⊎ Honest (setting wins settings issued) n.me.number (copy i n) p
      go (inl t) = inl (x, t, e, q)
      go (inr t) =
          let s : x ≡ sent = Memᴰ.eq_of_singleton t ∙ ap new h.0 in
          let a : j ≡ i = sym (ap (λ (y : Logged). y.header.index) s) ∙ e in
          let b : msg n.me.number n.me.epoch m sent.body ≡ p = sym (ap (λ (y : Logged). msg y.header.sender y.header.epoch y.message y.body) s) ∙ q in
          inr (rw (← b, ← a) (honest j n m h.1 f))

  -- an event on record j whose step is good, as record i sees it
  of-event : (log : List Logged) (n : Node) (j : ℕ) (e : Event) (v : List ℕ)
      → (AllYes (own_of n j e v) → Good log j n (step_of wins n j e v)) → (i : ℕ) → Refined log i n (run.event (apply wins n j e v))
  of-event log n j e v good i = go (apply wins n j e v) (applied wins n j e v)
    where
      s : Step
      s = step_of wins n j e v

      go : (o : Outcome) → Applied wins n j e v o → Refined log i n (run.event o)
      go o (refused k z q) = rw q (record { number = refl; fixed = refl; moves = stay refl; left = λ p k. inl k })
      go o (accepted y c q) = rw q (record { number = refl; fixed = refl; moves = move (ℕ_discrete i j); left = λ p k. joins i j log (done n j s) s.sent (rw c.here (sound-step wins n j e v y).after.short) (rw here g.says) p k })
        where
          g : Good log j n s
          g = good (its_own n j e v y)

          here : copy j (done n j s) ≡ stepped j n s
          here = copy-here j n s c

          move : Dec (i ≡ j) → Move (setting wins settings issued) n.me.number (Known i log) (copy i n) (copy i (done n j s))
          move (yes d) = rw (d, here) g.moves
          move (no d) = stay (copy-there j n s c (omega (arith, slot-fits (first-five n j e v y))) i d)

-- ---- the events

module _ (wins : Orders) (settings : Settings) (ord : TieOrder (under wins settings)) (issued : ℕ → ℕ) (log : List Logged) (n : Node) (same : n.me.settings ≡ settings) where
  resent-says : (j : ℕ) (s : State) → (record_of j n).state ≡ s → Says wins settings issued n.me j (copy j n) (resent n.me j s (record_of j n).timestamp)
  resent-says j state.Valid e = (refl, (refl, rw e))
  resent-says j state.Invalid e = tt
  resent-says j state.InvalidWrite e = tt
  resent-says j state.Write e = (refl, (refl, rw e))
  resent-says j state.Replay e = (refl, (refl, rw e))

  inv-good : (j sender epoch : ℕ) (t : Timestamp) (v : List ℕ) → Known j log (inv sender epoch t (cell_of v))
      → (g : Bool) → later (under wins settings) t (record_of j n).timestamp ≡ g → Good wins settings issued log j n (inv_step g n.me j (record_of j n) t sender v)
  inv-good j sender epoch t v k true g = record {
    moves = rcv_inv sender epoch t (cell_of v) (clean-cell v) k g (rw (invalid-shown (record_of j n).state, invalid-own (record_of j n).state));
    says = (refl, not_after-refl (under wins settings) t);
  }
  inv-good j sender epoch t v k false g =
      let behind : NotAfter (under wins settings) t (record_of j n).timestamp = not_after-total (under wins settings) ord t (record_of j n).timestamp g in
      record { moves = stay refl; says = search rules }

  -- 02, Wish 1: an ACK that completes the view is also a validation
  ack-good : (j sender epoch : ℕ) → Known j log (ack sender epoch (record_of j n).written)
      → (c : Bool) → completes n.me (record_of j n) sender ≡ c → Good wins settings issued log j n (ack_step c n.me j (record_of j n) sender)
  ack-good j sender epoch k true c =
      let (p, q) = and_parts (one_of (record_of j n).state (state.Write ∷ state.Replay ∷ [])) _ c in
      record {
        moves = rcv_last sender epoch (with (record_of j n).acks sender) k (with-members (record_of j n).acks sender) p (others-members n.me.number n.me.view (with (record_of j n).acks sender) q) refl;
        says = (refl, (refl, refl));
      }
  ack-good j sender epoch k false c = record {
    moves = rcv_ack sender epoch (with (record_of j n).acks sender) k (with-members (record_of j n).acks sender) refl;
    says = tt;
  }

  deliver-good : (j sender epoch : ℕ) (m : Message) (v : List ℕ) → Known j log (msg sender epoch m v) → epoch ≡ n.me.epoch
      → KindOwn m sender (record_of j n) → Good wins settings issued log j n (deliver_step wins n.me j (record_of j n) sender m v)
  deliver-good j sender epoch (Inv t) v k p y =
      inv-good j sender epoch t v k (later (under wins n.me.settings) t (record_of j n).timestamp) (ap (λ (s : Settings). later (under wins s) t (record_of j n).timestamp) (sym same))
  deliver-good j sender epoch (Ack t) v k p y =
      ack-good j sender epoch (rw (← e) k) (completes n.me (record_of j n) sender) refl
    where
      e : t ≡ (record_of j n).written
      e = y.1
  deliver-good j sender epoch (Val t) v k p y = record { moves = rcv_val sender (rw (← p, ← e) k) refl; says = tt }
    where
      e : t ≡ (record_of j n).timestamp
      e = y.1

  none-in-zero : (m : ℕ) → Has 0 m → ⊥
  none-in-zero m h = false≢true (sym (has-zero m) ∙ h)

  -- the copy that a write of v at this version leaves
  writing : ℕ → List ℕ → ℕ → Copy Cell
  writing j v version = record {
    epoch = n.me.epoch;
    view = n.me.view;
    valid = false;
    coordinates = true;
    timestamp = record { version = version; tie = n.me.number };
    writer = n.me.number;
    written = record { version = version; tie = n.me.number };
    acks = 0;
    cell = cell_of v;
  }

  -- a write's step, below the greatest version
  write-good : (j : ℕ) (v : List ℕ) → (question9 (record_of j n)).yes ≡ true → Good wins settings issued log j n (write_step n.me j (record_of j n) v)
  unfolding writing
  write-good j v h = record { moves = write (cell_of v) (clean-cell v) 0 none-in-zero (ap (writing j v) (next-version (record_of j n).timestamp.version h)); says = (refl, (refl, refl)) }

  viewed-refined : (epoch next : ℕ) → next ≡ issued epoch → (i : ℕ) → Refined wins settings issued log i n (run.event (viewed n epoch next))
  unfolding viewed view
  viewed-refined epoch next q i = go (first_no (view_questions n.me epoch next)) refl
    where
      to : Replica
      to = record { number = n.me.number; epoch = epoch; view = next; settings = n.me.settings }

      go : (k : ℕ) → first_no (view_questions n.me epoch next) ≡ k → Refined wins settings issued log i n
          (run.event (record { answer = answer_of (admission_number (admission_of k to)) None; node = record { me = identity (admission_of k to) n.me; table = n.table; store = n.store } }))
      go zero z = record {
        number = refl;
        fixed = refl;
        moves = shrink epoch (λ m h. within-members next n.me.view (view-inside n.me epoch next (all_yes (view_questions n.me epoch next) refl z)).0 m (rw (← q) at h)) (rw (← q));
        left = λ p k. inl k;
      }
      go (suc k) z = record { number = refl; fixed = refl; moves = stay refl; left = λ p k. inl k }

  -- every entry, as record i of its replica sees it
  pub refined : (a : Action) → AsIssued issued a → (i : ℕ) → Refined wins settings issued log i n (perform wins a log n)
  refined (run.read j) c = of-event wins settings issued log n j Read [] (λ y. record { moves = stay refl; says = tt })
  refined (run.ask j) c = of-event wins settings issued log n j Ask [] (λ y. record { moves = stay refl; says = tt })
  refined (run.write j v) c = of-event wins settings issued log n j Write v (λ y. write-good j v y.1.1.0)
  refined (run.commit j t v) c = of-event wins settings issued log n j (Commit t) v (λ y. write-good j v y.1.1.0)
  refined (run.replay j) c = of-event wins settings issued log n j Replay [] (λ y. record { moves = replay 0 none-in-zero refl; says = (refl, (refl, refl)) })
  refined (run.validate j) c = of-event wins settings issued log n j Validate []
      (λ y. let o = validate-own n.me (record_of j n) 0 y in
      record { moves = send_vals o.pending (others-members n.me.number n.me.view (record_of j n).acks o.acknowledged) refl; says = (refl, (refl, refl)) })
  refined (run.resend j) c = of-event wins settings issued log n j Resend []
      (λ y. record { moves = stay refl; says = resent-says j (record_of j n).state refl })
  refined (run.deliver k) c = go (find log k) refl
    where
      go : (f : Found) → find log k ≡ f → (i : ℕ) → Refined wins settings issued log i n (delivery wins f n)
      go run.missing e = λ i. idle wins settings issued log i n
      go (run.found x) e = of-event wins settings issued log n x.header.index (Deliver (received x)) x.body
          (λ y. let o = deliver-own n.me (record_of x.header.index n) (received x) (length x.body) y in
          deliver-good x.header.index x.header.sender x.header.epoch x.message x.body (x, found_in log k x e, refl, refl) o.epoch o.kind)
  refined (run.view epoch next) c = viewed-refined epoch next c
