-- What a delivery comes to, by what its questions answered and by its kind; and what it makes of the store.
use Rattle.std.proofs.Common.{ℕ, zero, suc, ◌≡◌, ◌≤◌, Bool, true, false, List, length, refl, sym, ap, ◌∙◌}
use Rattle.std.specs.Prelude.{Ok}
use Rattle.hermes_record.specs.declared.timestamp.Timestamp.{Timestamp}
use Rattle.hermes_record.specs.declared.record.Record.{Record}
use Rattle.hermes.specs.declared.message.Message.{Message}
use Rattle.hermes.specs.declared.message.Message.TheVariants.{Inv, Ack, Val}
use Rattle.hermes.specs.declared.message.Received.{Received}
use Rattle.hermes.specs.declared.event.Replica.{Replica}
use Rattle.hermes.specs.declared.event.Event.TheVariants.{Deliver}
use Rattle.hermes.specs.declared.event.Moved.{Moved}
use Rattle.hermes_record.specs.Order.{ties}
use Rattle.hermes.specs.Event.{Step, kept, common, own, refusal, moved, effect, moved_by, stored_by, ack_step, completes, deliver_step}
use Rattle.hermes.proofs.Guards.{event-passed, own-passed, deliver-own, inv-fits}
use Rattle.replica_asking.specs.Cascade.{Asked, asked}
use Rattle.replica_outcome.specs.Placing.{room, stored_for}
use Rattle.replica_outcome.proofs.Bytes.{room-passed, stored-for}
use Rattle.replica_outcome.proofs.Outcomes.{accepted, goes}
use Rattle.replica_delivery.specs.Storing.{stores}

module _ (me : Replica) (count bytes i : ℕ) (r : Record) (m : Received) (v : List ℕ) where
  -- the same questions, where the code gives their operands other names
  pub as_asked : {a b : Asked} → a ≡ b → b ≡ asked (common me count bytes i r (own me r (Deliver m) (length v))) r → a ≡ asked (common me count bytes i r (own me r (Deliver m) (length v))) r
  as_asked e is = e ∙ is

  -- an accepted invalidation brings no more than 192 bytes
  short : (t : Timestamp) → m.message ≡ Inv t → refusal me count bytes i r (Deliver m) (length v) ≡ 0 → length v ≤ 192
  short t is z = inv-fits m.message t (length v) is (deliver-own me r m (length v) (own-passed me count bytes i r (Deliver m) (length v) z)).shape

  module _ (a : Asked) (asks : a ≡ asked (common me count bytes i r (own me r (Deliver m) (length v))) r) (x : Record) (passed : a ≡ Ok x) where
    pub passed-short : (t : Timestamp) → m.message ≡ Inv t → length v ≤ 192
    passed-short t is = short t is (accepted me count bytes i r (Deliver m) (length v) x (sym asks ∙ passed))

    -- the step of its kind on the record that was passed on
    pub does : (k : Message) → m.message ≡ k → (d : Moved) → d ≡ moved_by 0 x (deliver_step ties me i x m.sender k v) → d ≡ moved ties me count bytes i r (Deliver m) v
    unfolding moved
    does k is d step =
        step
        ∙ ap (λ (z : Message). moved_by 0 x (deliver_step ties me i x m.sender z v)) (sym is)
        ∙ goes me count bytes i r (Deliver m) (length v) a x (λ z. deliver_step ties me i z m.sender m.message v) asks passed

module _ (me : Replica) (count i : ℕ) (r : Record) (store : List ℕ) (m : Received) (v : List ℕ) where
  abbrev no : ℕ
  no = refusal me count (length store) i r (Deliver m) (length v)

  -- what moves is the effect's
  pub same-moved : moved ties me count (length store) i r (Deliver m) v ≡ (effect ties me count i r store (Deliver m) v).moved
  unfolding moved effect
  same-moved = refl

  -- ---- the store, by whether the value is stored

  fits : (t : Timestamp) → m.message ≡ Inv t → no ≡ 0 → room count (length store) i (length v) ≡ true
  fits t is z = room-passed (event-passed me count (length store) i r (Deliver m) (length v) z) (length v) (short me count (length store) i r m v t is z)

  -- where it is, the event's answer says whether it goes into its place
  pub is-stored : stores me.settings r.timestamp m.message ≡ true → (d : Moved) → d ≡ moved ties me count (length store) i r (Deliver m) v
      → stored_for d.answer count i v store ≡ (effect ties me count i r store (Deliver m) v).store
  unfolding moved effect
  is-stored newer d h = ap (λ (x : Moved). stored_for x.answer count i v store) h ∙ go m.message refl newer
    where
      go : (k : Message) → m.message ≡ k → stores me.settings r.timestamp k ≡ true
          → stored_for (moved_by no r (deliver_step ties me i r m.sender m.message v)).answer count i v store ≡ stored_by no i store (deliver_step ties me i r m.sender m.message v)
      go (Inv t) is newer = stored-for no count i r (deliver_step ties me i r m.sender m.message v) v store (rw (is, newer) refl) (fits t is)
      go (Ack t) is none = absurd (cc)
      go (Val t) is none = absurd (cc)

  -- where it is not, the store stays
  pub is-kept : stores me.settings r.timestamp m.message ≡ false → store ≡ (effect ties me count i r store (Deliver m) v).store
  unfolding effect
  is-kept none = still no (deliver_step ties me i r m.sender m.message v) (go m.message none)
    where
      last : (c : Bool) → (ack_step c me i r m.sender).stored ≡ kept
      last true = refl
      last false = refl

      go : (k : Message) → stores me.settings r.timestamp k ≡ false → (deliver_step ties me i r m.sender k v).stored ≡ kept
      go (Inv t) older = rw older
      go (Ack t) e = last (completes me r m.sender)
      go (Val t) e = refl

      still : (k : ℕ) (s : Step) → s.stored ≡ kept → store ≡ stored_by k i store s
      still zero s e = rw e
      still (suc k) s e = refl
