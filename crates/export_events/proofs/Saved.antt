-- An exported event that saves its value: the record moved and put back and the value in its place are what hermes's `apply` says.
use Rattle.std.specs.Prelude.{ℕ, ◌≡◌, Option, None, Some, Bool, true, List, length}
use Rattle.std.proofs.Common.{refl}
use Rattle.hermes_record.specs.declared.timestamp.Timestamp.{Timestamp}
use Rattle.hermes.specs.declared.event.Subject.{Subject}
use Rattle.hermes.specs.declared.event.Event.{Event}
use Rattle.hermes.specs.declared.event.Event.TheVariants.{Write, Commit}
use Rattle.hermes.specs.declared.event.Moved.{Moved}
use Rattle.hermes_record.specs.Order.{ties}
use Rattle.hermes.specs.Event.{moved}
use Rattle.replica_saving.specs.Saving.{save_of}
use Rattle.replica_saving.proofs.Saves.{save-moved, save-stored}
use Rattle.export_numbers.specs.declared.numbers.CetskobiReplica.{CetskobiReplica}
use Rattle.export_numbers.specs.declared.numbers.CetskobiAnswer.{CetskobiAnswer}
use Rattle.export_calls.specs.Calls.{node_of, Done}
use Rattle.export_calls.specs.Steps.{Step, Storing}
use Rattle.hermes_record.specs.declared.record.Record.{Record}
use Rattle.hermes.specs.declared.event.Replica.{Replica}
use Rattle.replica_outcome.specs.Placing.{stored_for}
use Rattle.replica_saving.proofs.Saves.{saves_as}
use Rattle.replica_saving.proofs.Saves as event
use Rattle.export_calls.specs.Calls.{Finished}
use Rattle.export_calls.proofs.Ends.{Taken, done}
use Rattle.std.proofs.Common.{sym, ap, subst, ◌∙◌}

module _ (me : CetskobiReplica) (before store : List ℕ) (i : ℕ) (v : List ℕ) (takes : Subject → Bool → Type 0) (step : Step) (a : CetskobiAnswer) (bytes' store' : List ℕ) (d : Storing takes step me before store i v a bytes' store') where
  -- the value is always stored, and the record moves as by this event
  abbrev pub Saves : Event → Type 0
  Saves e = ((s : Subject) (b : Bool) → takes s b → b ≡ true)
      × ((s : Subject) (m : Moved) → step s (length store) m → m ≡ moved ties s.me s.count (length store) s.index s.found e v)

  saved : (opened : Option Timestamp) → Saves (save_of opened) → Done (node_of me before store) before i (save_of opened) v a bytes' store'
  saved opened (always, moves) =
      d.done (save_of opened) (λ s b m p q. rw (always s b p, moves s m q) (save-moved s.me s.count s.index s.found store v opened, save-stored s.me s.count s.index s.found store v opened _ refl))

  pub write_done : Saves Write → Done (node_of me before store) before i Write v a bytes' store'
  write_done s = saved None s

  pub commit_done : (t : Timestamp) → Saves (Commit t) → Done (node_of me before store) before i (Commit t) v a bytes' store'
  commit_done t s = saved (Some t) s

-- the same of a record that was taken out, moved by such an event and put back
pub saved-done : (me : CetskobiReplica) (bytes : List ℕ) (i : ℕ) (who : Replica) (count : ℕ) (r : Record) → Taken me bytes i who count r
    → (store : List ℕ) (e : Event) → event.Saves e → (v : List ℕ) (m : Moved) (a : CetskobiAnswer) (bytes' store' : List ℕ)
    → m ≡ moved ties who count (length store) i r e v → Finished bytes i m a bytes' → store' ≡ stored_for m.answer count i v store
    → Done (node_of me bytes store) bytes i e v a bytes' store'
saved-done me bytes i who count r t store e s v m a bytes' store' moves ends stores = go (saves_as e s).0 (saves_as e s).1
  where
    go : (opened : Option Timestamp) → save_of opened ≡ e → Done (node_of me bytes store) bytes i e v a bytes' store'
    go opened same =
        let moves' : m ≡ moved ties who count (length store) i r (save_of opened) v = moves ∙ ap (λ (x : Event). moved ties who count (length store) i r x v) (sym same) in
        subst (λ (x : Event). Done (node_of me bytes store) bytes i x v a bytes' store') same
        (done me bytes i who count r t store (save_of opened) v m a bytes' store' (moves' ∙ save-moved who count i r store v opened, stores ∙ save-stored who count i r store v opened m moves') ends)
