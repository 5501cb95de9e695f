-- Who gets what leaves an event: "INV and VAL go to all others in the view", and an ACK leaves "for its sender", that of the INV (01, "Steps").
use Rattle.std.specs.Prelude.{ℕ, ◌≡◌, true, ◌↔◌, ◌≢◌, List, None, Some}
use Rattle.hermes_record.specs.declared.timestamp.Timestamp.{Timestamp}
use Rattle.hermes.specs.declared.message.Message.TheVariants.{Inv, Ack, Val}
use Rattle.hermes.specs.Answer.{Outgoing}
use Rattle.hermes.specs.declared.message.Received.{Received}
use Rattle.hermes.specs.declared.event.Replica.{Replica}
use Rattle.hermes.specs.declared.event.Event.{Event}
use Rattle.hermes.specs.declared.event.Event.TheVariants.{Deliver}
use Rattle.hermes_record.specs.Members.{has}
use Rattle.hermes_record.specs.Order.{Orders}
use Rattle.hermes.specs.Event.{sent_by, recipients}
use Rattle.hermes.specs.Node.{Node, apply}

-- the members of a set are exactly the numbers of which P holds
abbrev pub Exactly : ℕ → (ℕ → Type 0) → Type 0
Exactly s P = (m : ℕ) → (has s m ≡ true) ↔ P m

-- number m is one of "all others in the view"
abbrev pub Other : Replica → ℕ → Type 0
Other me m = (has me.view m ≡ true) × (m ≢ me.number)

-- an ACK of timestamp t goes to exactly the sender of its INV: the event delivered an INV of that timestamp. By question 11 that sender is
-- another of the view
pub record ForItsSender (me : Replica) (e : Event) (t : Timestamp) (to : ℕ) : Type 0 where
  pub inv : Received
  pub delivered : e ≡ Deliver inv
  pub timestamp : inv.message ≡ Inv t
  pub sender : Exactly to (λ m. m ≡ inv.sender)
  pub other : Other me inv.sender

-- whom the set `to` has to be, of what leaves event e
abbrev pub GoesTo : Replica → Event → Outgoing → ℕ → Type 0
GoesTo me e None to = Exactly to (λ m. ⊥)
GoesTo me e (Some (Inv t, h)) to = Exactly to (Other me)
GoesTo me e (Some (Ack t, h)) to = ForItsSender me e t to
GoesTo me e (Some (Val t, h)) to = Exactly to (Other me)

-- what leaves an event on record i, with the value v
abbrev pub leaves : Orders → Node → ℕ → Event → List ℕ → Outgoing
leaves wins n i e v = sent_by (apply wins n i e v).answer

-- for every replica, sound or not, and every input
abbrev pub WhoGets : Type 0
WhoGets = (wins : Orders) (n : Node) (i : ℕ) (e : Event) (v : List ℕ)
    → GoesTo n.me e (leaves wins n i e v) (recipients n.me e (leaves wins n i e v))

-- so nothing goes to the replica itself, or to one outside its view
abbrev pub OthersOnly : Type 0
OthersOnly = (wins : Orders) (n : Node) (i : ℕ) (e : Event) (v : List ℕ) (m : ℕ)
    → has (recipients n.me e (leaves wins n i e v)) m ≡ true → Other n.me m
