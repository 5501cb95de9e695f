-- Agreement of one record across a whole group: what an accepted event may do to it (`Move`), and an invariant that every move keeps.
-- The idea: timestamps only rise. A valid copy's timestamp has been reached by everyone in its view, an acknowledgement tells that its
-- sender has reached it, and a ghost book says which value was written under which timestamp.
-- Nothing here knows of questions, tables, stores or bits: a set is what `Has` says of it, a cell is a length with its 192 bytes.
use Prim.Native.Nat.{ℕ, ◌+◌, ◌≤◌}
use mathlib.Core.Path.{◌≡◌, refl, sym, ap, ◌∙◌}
use mathlib.Core.Bool.{Bool, true, false, cond, false≢true}
use mathlib.Core.Logic.{◌⊎◌, inl, inr, ⊎_map, ◌≢◌}
use native.Mathlib.Omega.{arith}
use native.Mathlib.Decide.{ℕ_discrete}
use Rattle.hermes_record.specs.declared.timestamp.Timestamp.{Timestamp}
use Rattle.hermes_record.specs.Order.{TieOrder, later, NotAfter, rises as goes-up, same_timestamp}
use Rattle.hermes_record.proofs.Order.{same-equal, equal-same, not_after-refl, not_after-trans, not_after-antisym, not_after-version, not_after-newer, later-apart}

-- what the protocol is over: the order of ties, membership in a set, the view issued for each epoch, a record's length with its bytes, and
-- which of those are clean (zero past the length)
pub record Setting : Type 1 where
  pub wins : ℕ → ℕ → Bool
  pub Has : ℕ → ℕ → Type 0
  pub issued : ℕ → ℕ
  pub Cell : Type 0
  pub Clean : Cell → Type 0

-- the record on one replica, with its replica's epoch and view; `coordinates`: in write or replay
pub record Copy (Cell : Type 0) : Type 0 where
  pub epoch : ℕ
  pub view : ℕ
  pub valid : Bool
  pub coordinates : Bool
  pub timestamp : Timestamp
  pub writer : ℕ
  pub written : Timestamp
  pub acks : ℕ
  pub cell : Cell

-- a message about the record: sender, epoch, timestamp; an INV's value is given as the cell that it makes
pub data Msg (Cell : Type 0) : Type 0 where
  inv : (sender epoch : ℕ) → Timestamp → Cell → Msg Cell
  ack : (sender epoch : ℕ) → Timestamp → Msg Cell
  val : (sender epoch : ℕ) → Timestamp → Msg Cell

-- the timestamp of a write by replica n
abbrev pub next : ℕ → Timestamp → Timestamp
next n s = record { version = s.version + 1; tie = n }

module _ (S : Setting) where
  -- What an event of replica n may make of its copy a, with these messages sent before. The names are those of the source's actions.
  pub data Move (n : ℕ) (sent : Msg S.Cell → Type 0) (a b : Copy S.Cell) : Type 0 where
    -- HRead, a resend, an INV that is not greater, and every refusal
    stay : b ≡ a → Move n sent a b
    -- HWrite
    write : (c : S.Cell) → S.Clean c → (none : ℕ) → ((m : ℕ) → S.Has none m → ⊥)
        → b ≡ record { epoch = a.epoch; view = a.view; valid = false; coordinates = true; timestamp = next n a.timestamp; writer = n; written = next n a.timestamp; acks = none; cell = c }
        → Move n sent a b
    -- HReplayWrite
    replay : (none : ℕ) → ((m : ℕ) → S.Has none m → ⊥)
        → b ≡ record { epoch = a.epoch; view = a.view; valid = false; coordinates = true; timestamp = a.timestamp; writer = n; written = a.timestamp; acks = none; cell = a.cell }
        → Move n sent a b
    -- HRcvInv of a greater timestamp
    rcv_inv : (sender e : ℕ) (s : Timestamp) (c : S.Cell) → S.Clean c → sent (inv sender e s c) → later S.wins s a.timestamp ≡ true
        → b ≡ record { epoch = a.epoch; view = a.view; valid = false; coordinates = false; timestamp = s; writer = sender; written = a.written; acks = a.acks; cell = c }
        → Move n sent a b
    -- HRcvAck
    rcv_ack : (sender e more : ℕ) → sent (ack sender e a.written) → ((m : ℕ) → S.Has more m → S.Has a.acks m ⊎ (m ≡ sender))
        → b ≡ record { epoch = a.epoch; view = a.view; valid = a.valid; coordinates = a.coordinates; timestamp = a.timestamp; writer = a.writer; written = a.written; acks = more; cell = a.cell }
        → Move n sent a b
    -- HRcvAck and HSendVals, one after the other
    rcv_last : (sender e more : ℕ) → sent (ack sender e a.written) → ((m : ℕ) → S.Has more m → S.Has a.acks m ⊎ (m ≡ sender))
        → a.coordinates ≡ true → ((m : ℕ) → S.Has a.view m → (m ≡ n) ⊎ S.Has more m)
        → b ≡ record { epoch = a.epoch; view = a.view; valid = true; coordinates = false; timestamp = a.timestamp; writer = a.writer; written = a.written; acks = more; cell = a.cell }
        → Move n sent a b
    -- HRcvVal, of this epoch and this timestamp
    rcv_val : (sender : ℕ) → sent (val sender a.epoch a.timestamp)
        → b ≡ record { epoch = a.epoch; view = a.view; valid = true; coordinates = false; timestamp = a.timestamp; writer = a.writer; written = a.written; acks = a.acks; cell = a.cell }
        → Move n sent a b
    -- HSendVals
    send_vals : a.coordinates ≡ true → ((m : ℕ) → S.Has a.view m → (m ≡ n) ⊎ S.Has a.acks m)
        → b ≡ record { epoch = a.epoch; view = a.view; valid = true; coordinates = false; timestamp = a.timestamp; writer = a.writer; written = a.written; acks = a.acks; cell = a.cell }
        → Move n sent a b
    -- nodeFailure, by sets: a view issued, within the one held
    shrink : (e : ℕ) → ((m : ℕ) → S.Has (S.issued e) m → S.Has a.view m)
        → b ≡ record { epoch = e; view = S.issued e; valid = a.valid; coordinates = a.coordinates; timestamp = a.timestamp; writer = a.writer; written = a.written; acks = a.acks; cell = a.cell }
        → Move n sent a b

  -- What a message that leaves replica n says of the copy b that the event left.
  abbrev pub Honest : ℕ → Copy S.Cell → Msg S.Cell → Type 0
  Honest n b (inv sender e s c) = (s ≡ b.timestamp) × (S.Clean b.cell → c ≡ b.cell) × (sender ≡ n) × (b.coordinates ≡ true)
  Honest n b (ack sender e s) = (sender ≡ n) × NotAfter S.wins s b.timestamp
  Honest n b (val sender e s) = (e ≡ b.epoch) × (s ≡ b.timestamp) × (b.valid ≡ true)

  -- ---- the invariant. `now m` is the timestamp that replica m holds; `book s` is the cell that was written under s

  -- c was written under s, whose writer has come as far as s
  pub record Booked (now : ℕ → Timestamp) (book : Timestamp → S.Cell) (s : Timestamp) (c : S.Cell) : Type 0 where
    pub entered : c ≡ book s
    pub writer : s.version ≤ (now s.tie).version

  -- everyone in the set holds s or a later timestamp
  abbrev pub Reached : (ℕ → Timestamp) → ℕ → Timestamp → Type 0
  Reached now set s = (m : ℕ) → S.Has set m → NotAfter S.wins s (now m)

  pub record CopyOk (now : ℕ → Timestamp) (book : Timestamp → S.Cell) (a : Copy S.Cell) : Type 0 where
    pub booked : Booked now book a.timestamp a.cell
    pub clean : S.Clean a.cell
    pub current : a.view ≡ S.issued a.epoch
    pub settled : a.valid ≡ true → Reached now a.view a.timestamp
    pub acked : Reached now a.acks a.written
    pub mine : a.coordinates ≡ true → a.written ≡ a.timestamp

  abbrev pub MsgOk : (ℕ → Timestamp) → (Timestamp → S.Cell) → Msg S.Cell → Type 0
  MsgOk now book (inv sender e s c) = Booked now book s c
  MsgOk now book (ack sender e s) = NotAfter S.wins s (now sender)
  MsgOk now book (val sender e s) = Reached now (S.issued e) s

  pub record Invariant (at : ℕ → Copy S.Cell) (sent : Msg S.Cell → Type 0) : Type 0 where
    pub book : Timestamp → S.Cell
    pub copies : (n : ℕ) → CopyOk (λ m. (at m).timestamp) book (at n)
    pub messages : (x : Msg S.Cell) → sent x → MsgOk (λ m. (at m).timestamp) book x

  -- one event of the whole group, on this record
  pub record Step (at at' : ℕ → Copy S.Cell) (sent sent' : Msg S.Cell → Type 0) : Type 0 where
    pub who : ℕ
    pub move : Move who sent (at who) (at' who)
    pub others : (m : ℕ) → m ≢ who → at' m ≡ at m
    pub left : (x : Msg S.Cell) → sent' x → sent x ⊎ Honest who (at' who) x

-- the book with c entered under t
enter : {Cell : Type 0} → (Timestamp → Cell) → Timestamp → Cell → Timestamp → Cell
enter book t c s = cond (same_timestamp s t) c (book s)

module _ (S : Setting) (ord : TieOrder S.wins) where
  -- ---- timestamps never go back
  rise : {n : ℕ} {sent : Msg S.Cell → Type 0} {a b : Copy S.Cell} → Move S n sent a b → NotAfter S.wins a.timestamp b.timestamp
  rise (stay e) = rw e (not_after-refl S.wins _)
  rise {n} {a = a} (write c k none h e) = rw e (not_after-newer S.wins a.timestamp (next n a.timestamp) (omega arith))
  rise (replay none h e) = rw e (not_after-refl S.wins _)
  rise (rcv_inv sender e s c k m g q) = rw q (goes-up g)
  rise (rcv_ack sender e more m h q) = rw q (not_after-refl S.wins _)
  rise (rcv_last sender e more m h o d q) = rw q (not_after-refl S.wins _)
  rise (rcv_val sender m q) = rw q (not_after-refl S.wins _)
  rise (send_vals o h q) = rw q (not_after-refl S.wins _)
  rise (shrink e h q) = rw q (not_after-refl S.wins _)

  pub rises : {at at' : ℕ → Copy S.Cell} {sent sent' : Msg S.Cell → Type 0} → Step S at at' sent sent'
      → (m : ℕ) → NotAfter S.wins (at m).timestamp (at' m).timestamp
  rises {at} {at'} st m = go (ℕ_discrete m st.who)
    where
      go : Dec (m ≡ st.who) → NotAfter S.wins (at m).timestamp (at' m).timestamp
      go (yes e) = rw e (rise st.move)
      go (no d) = rw (st.others m d) (not_after-refl S.wins (at m).timestamp)

  -- a move that keeps the timestamp keeps the cell
  same-cell : {n : ℕ} {sent : Msg S.Cell → Type 0} {a b : Copy S.Cell} → Move S n sent a b → b.timestamp ≡ a.timestamp → b.cell ≡ a.cell
  same-cell (stay e) t = rw e
  same-cell (write c k none h e) t = absurd (omega (arith, ap (λ (x : Timestamp). x.version) t, ap (λ (x : Copy S.Cell). x.timestamp.version) e))
  same-cell (replay none h e) t = rw e
  same-cell {a = a} (rcv_inv sender e s c k m g q) t = absurd (later-apart S.wins ord s a.timestamp g (sym t ∙ ap (λ (x : Copy S.Cell). x.timestamp) q))
  same-cell (rcv_ack sender e more m h q) t = rw q
  same-cell (rcv_last sender e more m h o d q) t = rw q
  same-cell (rcv_val sender m q) t = rw q
  same-cell (send_vals o h q) t = rw q
  same-cell (shrink e h q) t = rw q

  pub same-cells : {at at' : ℕ → Copy S.Cell} {sent sent' : Msg S.Cell → Type 0} → Step S at at' sent sent'
      → (m : ℕ) → (at' m).timestamp ≡ (at m).timestamp → (at' m).cell ≡ (at m).cell
  same-cells {at} {at'} st m t = go (ℕ_discrete m st.who)
    where
      go : Dec (m ≡ st.who) → (at' m).cell ≡ (at m).cell
      go (yes e) = rw e (same-cell st.move (rw e at t))
      go (no d) = rw (st.others m d)

  -- ---- what was so stays so while timestamps rise and the book grows
  module _ (now now' : ℕ → Timestamp) (book book' : Timestamp → S.Cell) (up : (m : ℕ) → NotAfter S.wins (now m) (now' m))
      (grows : (s : Timestamp) (c : S.Cell) → Booked S now book s c → Booked S now' book' s c) where
    reached-up : {set : ℕ} {s : Timestamp} → Reached S now set s → Reached S now' set s
    reached-up h m k = not_after-trans S.wins ord (h m k) (up m)

    copy-up : {a : Copy S.Cell} → CopyOk S now book a → CopyOk S now' book' a
    copy-up k = record { booked = grows _ _ k.booked; clean = k.clean; current = k.current; settled = λ v. reached-up (k.settled v); acked = reached-up k.acked; mine = k.mine }

    msg-up : (x : Msg S.Cell) → MsgOk S now book x → MsgOk S now' book' x
    msg-up (inv sender e s c) k = grows s c k
    msg-up (ack sender e s) k = not_after-trans S.wins ord k (up sender)
    msg-up (val sender e s) k = reached-up k

  -- ---- the book after a move
  record Extended (now now' : ℕ → Timestamp) (book : Timestamp → S.Cell) (b : Copy S.Cell) : Type 0 where
    book' : Timestamp → S.Cell
    grows : (s : Timestamp) (c : S.Cell) → Booked S now book s c → Booked S now' book' s c
    new : Booked S now' book' b.timestamp b.cell

  module _ (n : ℕ) (sent : Msg S.Cell → Type 0) (a b : Copy S.Cell) (now now' : ℕ → Timestamp) (book : Timestamp → S.Cell)
      (up : (m : ℕ) → NotAfter S.wins (now m) (now' m)) (here : now n ≡ a.timestamp) (here' : now' n ≡ b.timestamp)
      (ok : CopyOk S now book a) (oks : (x : Msg S.Cell) → sent x → MsgOk S now book x) where
    raise : (s : Timestamp) (c : S.Cell) → Booked S now book s c → Booked S now' book s c
    raise s c k = record { entered = k.entered; writer = omega (arith, k.writer, not_after-version S.wins (up s.tie)) }

    -- a write's timestamp is new: nothing is in the book under it
    fresh : (s : Timestamp) (c : S.Cell) → Booked S now book s c → (t : Bool) → same_timestamp s (next n a.timestamp) ≡ t → t ≡ false
    fresh s c k false e = refl
    fresh s c k true e =
        let q : s ≡ next n a.timestamp = same-equal s (next n a.timestamp) e in
        absurd (omega (arith, k.writer, ap (λ (x : Timestamp). x.version) q, ap (λ (x : Timestamp). (now x.tie).version) q, ap (λ (x : Timestamp). x.version) here))

    -- a move that keeps timestamp and cell keeps the book
    kept : (c : Copy S.Cell) → b ≡ c → c.timestamp ≡ a.timestamp → c.cell ≡ a.cell → Extended now now' book b
    kept c e p q = record { book' = book; grows = raise; new = rw (e, p, q) (raise _ _ ok.booked) }

    extend : Move S n sent a b → Extended now now' book b
    unfolding enter
    extend (stay e) = kept _ e refl refl
    extend (write c k none h e) = record {
      book' = enter book (next n a.timestamp) c;
      grows = λ s d p. record { entered = rw (fresh s d p (same_timestamp s (next n a.timestamp)) refl) p.entered; writer = (raise s d p).writer };
      new = rw e (record {
        entered = rw (equal-same (next n a.timestamp) (next n a.timestamp) refl);
        writer = omega (arith, ap (λ (x : Timestamp). x.version) here', ap (λ (x : Copy S.Cell). x.timestamp.version) e);
      });
    }
    extend (replay none h e) = kept _ e refl refl
    extend (rcv_inv sender e s c k m g q) = record { book' = book; grows = raise; new = rw q (raise s c (oks _ m)) }
    extend (rcv_ack sender e more m h q) = kept _ q refl refl
    extend (rcv_last sender e more m h o d q) = kept _ q refl refl
    extend (rcv_val sender m q) = kept _ q refl refl
    extend (send_vals o h q) = kept _ q refl refl
    extend (shrink e h q) = kept _ q refl refl

    -- the moved copy keeps its part of the invariant, with the new book
    moved : Move S n sent a b → (x : Extended now now' book b) → CopyOk S now' x.book' b
    moved mv x = go mv x.new
      where
        u : CopyOk S now' x.book' a
        u = copy-up now now' book x.book' up x.grows ok

        -- with an ACK counted, all that are counted have reached the timestamp that they acknowledged
        counted : {sender e : ℕ} → sent (ack sender e a.written) → (t : ℕ) → S.Has a.acks t ⊎ (t ≡ sender) → NotAfter S.wins a.written (now' t)
        counted m t (inl k) = u.acked t k
        counted {sender} m t (inr r) = rw r (not_after-trans S.wins ord (oks _ m) (up sender))

        -- who coordinates has reached its own timestamp, and so have all that are counted
        done : b.timestamp ≡ a.timestamp → a.coordinates ≡ true → (t : ℕ) → (t ≡ n) ⊎ NotAfter S.wins a.written (now' t) → NotAfter S.wins a.timestamp (now' t)
        done e o t (inl r) = rw (r, here', e) (not_after-refl S.wins a.timestamp)
        done e o t (inr k) = rw (ok.mine o) at k

        go : Move S n sent a b → Booked S now' x.book' b.timestamp b.cell → CopyOk S now' x.book' b
        go (stay e) s = rw e u
        go (write c k none h e) s = rw e (record {
          booked = rw e at s;
          clean = k;
          current = ok.current;
          settled = λ v. absurd (false≢true v);
          acked = λ m t. absurd (h m t);
          mine = λ o. refl;
        })
        go (replay none h e) s = rw e (record {
          booked = rw e at s;
          clean = ok.clean;
          current = ok.current;
          settled = λ v. absurd (false≢true v);
          acked = λ m t. absurd (h m t);
          mine = λ o. refl;
        })
        go (rcv_inv sender e s c k m g q) s' = rw q (record {
          booked = rw q at s';
          clean = k;
          current = ok.current;
          settled = λ v. absurd (false≢true v);
          acked = u.acked;
          mine = λ o. absurd (false≢true o);
        })
        go (rcv_ack sender e more m h q) s = rw q (record {
          booked = rw q at s;
          clean = ok.clean;
          current = ok.current;
          settled = u.settled;
          acked = λ t k. counted m t (h t k);
          mine = ok.mine;
        })
        go (rcv_last sender e more m h o d q) s = rw q (record {
          booked = rw q at s;
          clean = ok.clean;
          current = ok.current;
          settled = λ v t k. done (ap (λ (c : Copy S.Cell). c.timestamp) q) o t (⊎_map (λ r. r) (λ l. counted m t (h t l)) (d t k));
          acked = λ t k. counted m t (h t k);
          mine = λ o. absurd (false≢true o);
        })
        go (rcv_val sender m q) s = rw q (record {
          booked = rw q at s;
          clean = ok.clean;
          current = ok.current;
          acked = u.acked;
          mine = λ o. absurd (false≢true o);
          settled = λ v t k. not_after-trans S.wins ord (oks _ m t (rw ok.current at k)) (up t);
        })
        go (send_vals o h q) s = rw q (record {
          booked = rw q at s;
          clean = ok.clean;
          current = ok.current;
          settled = λ v t k. done (ap (λ (c : Copy S.Cell). c.timestamp) q) o t (⊎_map (λ r. r) (u.acked t) (h t k));
          acked = u.acked;
          mine = λ o. absurd (false≢true o);
        })
        go (shrink e h q) s = rw q (record {
          booked = rw q at s;
          clean = ok.clean;
          current = refl;
          settled = λ v t k. u.settled v t (h t k);
          acked = u.acked;
          mine = ok.mine;
        })

  -- an honest message is true of the copy that it left
  honest-ok : (n : ℕ) (now : ℕ → Timestamp) (book : Timestamp → S.Cell) (b : Copy S.Cell) → now n ≡ b.timestamp → CopyOk S now book b → (x : Msg S.Cell)
      → Honest S n b x → MsgOk S now book x
  honest-ok n now book b here ok (inv sender e s c) (p, q, w, o) = rw (p, q ok.clean) ok.booked
  honest-ok n now book b here ok (ack sender e s) (p, q) = rw (p, here) q
  honest-ok n now book b here ok (val sender e s) (p, q, v) = rw (p, q) (rw ok.current at (ok.settled v))

  -- ---- every step keeps the invariant
  pub preserve : {at at' : ℕ → Copy S.Cell} {sent sent' : Msg S.Cell → Type 0} → Step S at at' sent sent' → Invariant S at sent → Invariant S at' sent'
  preserve {at} {at'} {sent} {sent'} st i = record { book = x.book'; copies = λ m. copy m (ℕ_discrete m st.who); messages = λ p k. msg p (st.left p k) }
    where
      n : ℕ
      n = st.who

      now : ℕ → Timestamp
      now m = (at m).timestamp

      now' : ℕ → Timestamp
      now' m = (at' m).timestamp

      x : Extended now now' i.book (at' n)
      x = extend n sent (at n) (at' n) now now' i.book (rises st) refl refl (i.copies n) i.messages st.move

      mover : CopyOk S now' x.book' (at' n)
      mover = moved n sent (at n) (at' n) now now' i.book (rises st) refl refl (i.copies n) i.messages st.move x

      copy : (m : ℕ) → Dec (m ≡ n) → CopyOk S now' x.book' (at' m)
      copy m (yes e) = rw e mover
      copy m (no d) = rw (st.others m d) (copy-up now now' i.book x.book' (rises st) x.grows (i.copies m))

      msg : (p : Msg S.Cell) → sent p ⊎ Honest S n (at' n) p → MsgOk S now' x.book' p
      msg p (inl k) = msg-up now now' i.book x.book' (rises st) x.grows p (i.messages p k)
      msg p (inr h) = honest-ok n now' x.book' (at' n) refl mover p h

  -- ---- what the invariant gives
  pub agree : {at : ℕ → Copy S.Cell} {sent : Msg S.Cell → Type 0} → Invariant S at sent → (n m : ℕ)
      → S.Has (at n).view m → S.Has (at m).view n → (at n).valid ≡ true → (at m).valid ≡ true
      → ((at n).timestamp ≡ (at m).timestamp) × ((at n).cell ≡ (at m).cell)
  agree {at} i n m hm hn vn vm =
      let e : (at n).timestamp ≡ (at m).timestamp = not_after-antisym S.wins ord ((i.copies n).settled vn m hm) ((i.copies m).settled vm n hn) in
      (e, (i.copies n).booked.entered ∙ ap i.book e ∙ sym (i.copies m).booked.entered)

  -- ---- HInit: one and the same copy everywhere, and nothing sent
  pub initially : (g : Copy S.Cell) → g.timestamp.version ≡ 0 → S.Clean g.cell → g.view ≡ S.issued g.epoch → ((m : ℕ) → S.Has g.acks m → ⊥) → g.coordinates ≡ false
      → (at : ℕ → Copy S.Cell) → ((n : ℕ) → at n ≡ g) → (sent : Msg S.Cell → Type 0) → ((x : Msg S.Cell) → sent x → ⊥) → Invariant S at sent
  initially g first clean current none idle at all sent silent = record {
    book = λ s. g.cell;
    copies = λ n. rw (all n) (record {
      booked = record { entered = refl; writer = omega arith };
      clean = clean;
      current = current;
      settled = λ v m h. rw (all m) (not_after-refl S.wins g.timestamp);
      acked = λ m h. absurd (none m h);
      mine = λ o. absurd (false≢true (sym idle ∙ o));
    });
    messages = λ x s. absurd (silent x s);
  }
