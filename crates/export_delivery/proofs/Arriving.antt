-- A message is delivered by a step that moves the record as its delivery does, and that stores its value where the delivery does.
use Rattle.std.specs.Prelude.{ℕ, ◌≡◌, ◌⊎◌, Bool, true, false, cond, List, length}
use Rattle.std.proofs.Common.{refl, ◌∙◌, inl, inr}
use Rattle.hermes.specs.declared.message.Message.TheVariants.{Ack, Val}
use Rattle.hermes_record.specs.declared.timestamp.Timestamp.{Timestamp}
use Rattle.hermes_record.specs.declared.record.Record.{Record}
use Rattle.hermes.specs.declared.message.Received.{Received}
use Rattle.hermes.specs.declared.event.Settings.{Settings}
use Rattle.hermes.specs.declared.event.Replica.{Replica}
use Rattle.hermes.specs.declared.event.Subject.{Subject}
use Rattle.hermes.specs.declared.event.Event.TheVariants.{Deliver}
use Rattle.hermes.specs.declared.event.Moved.{Moved}
use Rattle.hermes_record.specs.Order.{ties}
use Rattle.hermes.specs.Event.{moved, effect}
use Rattle.replica_outcome.specs.Placing.{stored_for}
use Rattle.replica_delivery.specs.Storing.{stores}
use Rattle.replica_delivery.proofs.Deliveries.{same-moved, is-stored, is-kept}
use Rattle.export_numbers.specs.declared.numbers.CetskobiReplica.{CetskobiReplica}
use Rattle.export_numbers.specs.declared.numbers.CetskobiAnswer.{CetskobiAnswer}
use Rattle.export_calls.specs.Calls.{node_of, Done}
use Rattle.export_calls.specs.Steps.{Step, Quietly, Storing}

-- the store after it
keeps : (who : Replica) (count i : ℕ) (r : Record) (store : List ℕ) (m : Received) (v : List ℕ) (b : Bool) → stores who.settings r.timestamp m.message ≡ b
    → cond b (stored_for (moved ties who count (length store) i r (Deliver m) v).answer count i v store) store ≡ (effect ties who count i r store (Deliver m) v).store
keeps who count i r store m v true e = is-stored who count i r store m v e _ refl
keeps who count i r store m v false e = is-kept who count i r store m v e

pub stored_done : (me : CetskobiReplica) (before store : List ℕ) (i : ℕ) (v : List ℕ) (takes : Subject → Bool → Type 0) (step : Step) (a : CetskobiAnswer) (bytes' store' : List ℕ)
    → Storing takes step me before store i v a bytes' store' → (m : Received)
    → ((s : Subject) (b : Bool) → takes s b → b ≡ stores s.me.settings s.found.timestamp m.message)
    → ((s : Subject) (d : Moved) → step s (length store) d → d ≡ moved ties s.me s.count (length store) s.index s.found (Deliver m) v)
    → Done (node_of me before store) before i (Deliver m) v a bytes' store'
stored_done me before store i v takes step a bytes' store' d m asks moves =
    d.done (Deliver m) (λ s b d p q. rw (asks s b p, moves s d q) (same-moved s.me s.count s.index s.found store m v, keeps s.me s.count s.index s.found store m v _ refl))

-- and the same of an ACK and a VAL, whose delivery stores nothing
pub kept_done : (me : CetskobiReplica) (before : List ℕ) (n i : ℕ) (step : Step) (a : CetskobiAnswer) (bytes' : List ℕ) → Quietly step me before n i a bytes'
    → (store : List ℕ) (m : Received) (v : List ℕ) → ((t : Timestamp) × (m.message ≡ Ack t)) ⊎ ((t : Timestamp) × (m.message ≡ Val t)) → length store ≡ n
    → ((s : Subject) (d : Moved) → step s n d → d ≡ moved ties s.me s.count n s.index s.found (Deliver m) v)
    → Done (node_of me before store) before i (Deliver m) v a bytes' store
kept_done me before n i step a bytes' d store m v kind l moves =
    d.done store (Deliver m) v l (λ s x p. ((rw l (moves s x (rw l at p))) ∙ same-moved s.me s.count s.index s.found store m v, is-kept s.me s.count s.index s.found store m v (none s.me.settings s.found.timestamp kind)))
  where
    none : (x : Settings) (now : Timestamp) → ((t : Timestamp) × (m.message ≡ Ack t)) ⊎ ((t : Timestamp) × (m.message ≡ Val t)) → stores x now m.message ≡ false
    none x now (inl (t, e)) = rw e
    none x now (inr (t, e)) = rw e
