-- The last writer stands behind what it sent, along every move of the protocol. The idea: a writer's INV leaves while it is in write or
-- replay; from then on it holds that timestamp as its own last writer, in write, replay or valid, until a later one comes.
use Prim.Native.Nat.{ℕ}
use mathlib.Core.Path.{◌≡◌, refl, sym, ap, ◌∙◌}
use mathlib.Core.Bool.{true, false, false≢true}
use mathlib.Core.Logic.{◌⊎◌, inl, inr}
use native.Mathlib.Omega.{arith}
use native.Mathlib.Decide.{ℕ_discrete}
use Rattle.hermes_record.specs.declared.timestamp.Timestamp.{Timestamp}
use Rattle.hermes_record.specs.Order.{TieOrder, later}
use Rattle.hermes_record.proofs.Order.{greater-later, later_trans}
use Rattle.hermes.proofs.Protocol.{Setting, Copy, Msg, inv, ack, val, next, Move, stay, write, replay, rcv_inv, rcv_ack, rcv_last, rcv_val, send_vals, shrink, Honest, Step}

module _ (S : Setting) where
  -- replica q, whose copy is a, stands behind the timestamp s: it is past s, or holds s as its own last writer, in write, replay or valid
  pub data Stands (q : ℕ) (s : Timestamp) (a : Copy S.Cell) : Type 0 where
    past : later S.wins a.timestamp s ≡ true → Stands q s a
    holds : a.timestamp ≡ s → a.writer ≡ q → (a.valid ≡ true) ⊎ (a.coordinates ≡ true) → Stands q s a

  -- of a message, its sender does
  abbrev pub Backed : (ℕ → Copy S.Cell) → Msg S.Cell → Type 0
  Backed at (inv sender e s c) = Stands sender s (at sender)
  Backed at (ack sender e s) = Unit
  Backed at (val sender e s) = Unit

  pub record Standing (at : ℕ → Copy S.Cell) (sent : Msg S.Cell → Type 0) : Type 0 where
    -- who is in write or replay is its own last writer
    pub own : (n : ℕ) → (at n).coordinates ≡ true → (at n).writer ≡ n
    -- every copy's last writer stands behind the copy's timestamp
    pub writers : (n : ℕ) → Stands (at n).writer (at n).timestamp (at (at n).writer)
    pub messages : (x : Msg S.Cell) → sent x → Backed at x

module _ (S : Setting) (ord : TieOrder S.wins) where
  -- ---- what a replica stands behind it goes on to stand behind
  module _ (n : ℕ) (s : Timestamp) (sent : Msg S.Cell → Type 0) (a b : Copy S.Cell) where
    -- a later timestamp
    newer : later S.wins b.timestamp a.timestamp ≡ true → Stands S n s a → Stands S n s b
    newer g (past h) = past (later_trans S.wins ord b.timestamp a.timestamp s g h)
    newer g (holds e w o) = past (rw e at g)

    stands_on : Move S n sent a b → Stands S n s a → Stands S n s b
    stands_on (stay e) h = rw e h
    stands_on (write c k none f e) h = newer (rw e (greater-later S.wins (next n a.timestamp) a.timestamp (inl (omega arith)))) h
    stands_on (replay none f e) (past h) = past (rw e h)
    stands_on (replay none f e) (holds p w o) = holds (rw e p) (rw e) (inr (rw e))
    stands_on (rcv_inv sender e t c k m g q) h = newer (rw q g) h
    stands_on (rcv_ack sender e more m f q) (past h) = past (rw q h)
    stands_on (rcv_ack sender e more m f q) (holds p w o) = holds (rw q p) (rw q w) (rw q o)
    stands_on (rcv_last sender e more m f o d q) (past h) = past (rw q h)
    stands_on (rcv_last sender e more m f o d q) (holds p w z) = holds (rw q p) (rw q w) (inl (rw q))
    stands_on (rcv_val sender m q) (past h) = past (rw q h)
    stands_on (rcv_val sender m q) (holds p w o) = holds (rw q p) (rw q w) (inl (rw q))
    stands_on (send_vals o f q) (past h) = past (rw q h)
    stands_on (send_vals o f q) (holds p w z) = holds (rw q p) (rw q w) (inl (rw q))
    stands_on (shrink e f q) (past h) = past (rw q h)
    stands_on (shrink e f q) (holds p w o) = holds (rw q p) (rw q w) (rw q o)

  -- ---- the copy that moved
  module _ {at at' : ℕ → Copy S.Cell} {sent sent' : Msg S.Cell → Type 0} (st : Step S at at' sent sent') (k : Standing S at sent) where
    abbrev n : ℕ
    n = st.who

    abbrev a : Copy S.Cell
    a = at n

    abbrev b : Copy S.Cell
    b = at' n

    still : (q : ℕ) (s : Timestamp) → Stands S q s (at q) → Stands S q s (at' q)
    still q s h = go (ℕ_discrete q n)
      where
        go : Dec (q ≡ n) → Stands S q s (at' q)
        go (yes e) = rw e (stands_on n s sent a b st.move (rw e at h))
        go (no d) = rw (st.others q d) h

    own-moved : b.coordinates ≡ true → b.writer ≡ n
    own-moved = go st.move
      where
        go : Move S n sent a b → b.coordinates ≡ true → b.writer ≡ n
        go (stay e) o = rw e (k.own n (rw e at o))
        go (write c f none h e) o = rw e
        go (replay none h e) o = rw e
        go (rcv_inv sender e t c f m g q) o = absurd (false≢true (rw q at o))
        go (rcv_ack sender e more m f q) o = rw q (k.own n (rw q at o))
        go (rcv_last sender e more m f z d q) o = absurd (false≢true (rw q at o))
        go (rcv_val sender m q) o = absurd (false≢true (rw q at o))
        go (send_vals z f q) o = absurd (false≢true (rw q at o))
        go (shrink e f q) o = rw q (k.own n (rw q at o))

    -- writer and timestamp as they were
    kept : b.writer ≡ a.writer → b.timestamp ≡ a.timestamp → Stands S b.writer b.timestamp (at' b.writer)
    kept w t = rw (w, t) (still a.writer a.timestamp (k.writers n))

    -- its own last writer, in write or replay
    mine : b.writer ≡ n → b.coordinates ≡ true → Stands S b.writer b.timestamp (at' b.writer)
    mine w o = rw w (holds refl w (inr o))

    writer-moved : Stands S b.writer b.timestamp (at' b.writer)
    writer-moved = go st.move
      where
        go : Move S n sent a b → Stands S b.writer b.timestamp (at' b.writer)
        go (stay e) = kept (rw e) (rw e)
        go (write c f none h e) = mine (rw e) (rw e)
        go (replay none h e) = mine (rw e) (rw e)
        go (rcv_inv sender e t c f m g q) = rw (ap (λ (x : Copy S.Cell). x.writer) q, ap (λ (x : Copy S.Cell). x.timestamp) q) (still sender t (k.messages _ m))
        go (rcv_ack sender e more m f q) = kept (rw q) (rw q)
        go (rcv_last sender e more m f z d q) = kept (rw q) (rw q)
        go (rcv_val sender m q) = kept (rw q) (rw q)
        go (send_vals z f q) = kept (rw q) (rw q)
        go (shrink e f q) = kept (rw q) (rw q)

    backed : (x : Msg S.Cell) → sent x ⊎ Honest S n b x → Backed S at' x
    backed (inv sender e s c) (inl h) = still sender s (k.messages _ h)
    backed (inv sender e s c) (inr (p, q, w, o)) = rw (w, p) (holds refl (own-moved o) (inr o))
    backed (ack sender e s) h = tt
    backed (val sender e s) h = tt

    pub standing : Standing S at' sent'
    standing = record { own = λ m. own m (ℕ_discrete m n); writers = λ m. writer m (ℕ_discrete m n); messages = λ x h. backed x (st.left x h) }
      where
        own : (m : ℕ) → Dec (m ≡ n) → (at' m).coordinates ≡ true → (at' m).writer ≡ m
        own m (yes e) = rw e own-moved
        own m (no d) = rw (st.others m d) (k.own m)

        writer : (m : ℕ) → Dec (m ≡ n) → Stands S (at' m).writer (at' m).timestamp (at' (at' m).writer)
        writer m (yes e) = rw e writer-moved
        writer m (no d) = rw (st.others m d) (still (at m).writer (at m).timestamp (k.writers m))

  -- ---- HInit: one and the same valid copy everywhere, and nothing sent
  pub stands-first : (g : Copy S.Cell) → g.valid ≡ true → g.coordinates ≡ false
      → (at : ℕ → Copy S.Cell) → ((n : ℕ) → at n ≡ g) → (sent : Msg S.Cell → Type 0) → ((x : Msg S.Cell) → sent x → ⊥) → Standing S at sent
  stands-first g valid idle at all sent silent = record {
    own = λ n o. absurd (false≢true (sym (rw (all n) idle) ∙ o));
    writers = λ n. rw (all n, all g.writer) (holds refl refl (inl valid));
    messages = λ x s. absurd (silent x s);
  }
