-- What is missing until a save that nobody has heard of is shown by all: that its INV leaves; and of every other laptop of the view that it takes the INV,
-- that its ACK is counted, and that it takes the VAL. Here is what holds as long as no other save is made, and how much is missing.
use Prim.Native.Nat.{ℕ, ◌+◌, ◌≤◌}
use mathlib.Core.Path.{◌≡◌, subst}
use mathlib.Core.Bool.{Bool, true, false, cond, not, ◌&&◌}
use mathlib.Core.Logic.{◌⊎◌}
use mathlib.Core.List.{List}
use native.Mathlib.Omega.{arith}
use lib.ListN.{length}
use Rattle.hermes_record.specs.declared.timestamp.Timestamp.{Timestamp}
use Rattle.hermes_record.specs.declared.record.Record.{Record}
use Rattle.hermes_record.specs.declared.record.State.TheVariants as state
use Rattle.hermes.specs.declared.message.Message.{Message}
use Rattle.hermes.specs.declared.message.Message.TheVariants.{Inv, Ack, Val}
use Rattle.hermes.specs.Answer.{Outgoing}
use Rattle.std.specs.Prelude.{None, Some}
use Rattle.hermes.specs.declared.event.Replica.{Replica}
use Rattle.hermes.specs.declared.event.Event.{Event}
use Rattle.hermes_record.specs.Members.{has, count_below, others_in}
use Rattle.hermes_record.specs.Order.{same_timestamp}
use Rattle.hermes.specs.Guards.{AllYes}
use Rattle.hermes.specs.Event.{own}
use Rattle.hermes.specs.Node.{record_of, apply}
use Rattle.hermes.specs.Run.{Action, by, Group, Logged, find, found, event, perform, result}
use Rattle.hermes.specs.Agreement.{IsAccepted}
use Rattle.hermes.specs.Recipe.{is_valid, other}
use Rattle.hermes.proofs.Members.{Has}
use Rattle.hermes.proofs.Apply.{was-accepted, its_own}
use Rattle.hermes.proofs.Progress.{Task, self, Alive, identity}

-- ---- an accepted event's own questions said yes

pub asked : (T : Task) (g : Group) → Alive T g → (m : ℕ) → Has T.set m → (what : Action) (ev : Event) (v : List ℕ) → perform T.wins what g.log (g.at m) ≡ event (apply T.wins (g.at m) T.i ev v)
    → IsAccepted (result T.wins g (by m what)) → AllYes (own (self T m) (record_of T.i (g.at m)) ev (length v))
unfolding result
asked T g all m h what ev v does c = subst (λ (me : Replica). AllYes (own me (record_of T.i (g.at m)) ev (length v))) (identity T m (g.at m) (all.live m h))
    (its_own (g.at m) T.i ev v (was-accepted T.wins (g.at m) T.i ev v (rw does at c)).0)

-- ---- numbers that fall by e at most

pub record Falls (e a b : ℕ) : Type 0 where
  pub most : a ≤ b + e

pub keeps : {a b : ℕ} → a ≡ b → Falls 0 a b
keeps e = record { most = omega (arith, e) }

pub sent-once : (b : Bool) → Falls 1 (cond b 0 1) 0
sent-once true = record { most = omega arith }
sent-once false = record { most = omega arith }

pub total : {x y a a' b b' c c' e f g h : ℕ} → Falls e x y → Falls f a a' → Falls g b b' → Falls h c c' → e + f + g + h ≤ 1 → Falls 1 (x + (a + (b + c))) (y + (a' + (b' + c')))
total p q r s l = record { most = omega (arith, p.most, q.most, r.most, s.most) }

-- ---- what is so along the list: d has saved at M where all held t0

module _ (T : Task) (d : ℕ) (M t0 : Timestamp) where
  -- the saver's record: the save is under way, or all have replied
  pub data Saving (r : Record) : Type 0 where
    waits : r.state ≡ state.Write → Saving r
    done : r.state ≡ state.Valid → others_in d T.set r.acks ≡ true → Saving r

  -- another's: it has not heard of it; or it has, and so the INV has left since
  pub data Hears (sent : Bool) (r : Record) : Type 0 where
    unheard : r.timestamp ≡ t0 → r.state ≡ state.Valid → Hears sent r
    heard : sent ≡ true → r.timestamp ≡ M → r.writer ≡ d → (r.state ≡ state.Invalid) ⊎ (r.state ≡ state.Valid) → Hears sent r

  -- a message that left since
  abbrev pub Fine : Bool → Group → ℕ → Message → Type 0
  Fine sent g sender (Inv t) = (t ≡ M) × (sender ≡ d) × (sent ≡ true)
  Fine sent g sender (Ack t) = (record_of T.i (g.at sender)).timestamp ≡ M
  Fine sent g sender (Val t) = ((t ≡ M) × (sender ≡ d)) ⊎ (t ≡ t0)

  -- what leaves
  abbrev pub Leaves : Bool → Group → Outgoing → Type 0
  Leaves sent g None = Unit
  Leaves sent g (Some (m, h)) = Fine sent g h.sender m

  pub record Stage (sent : Bool) (g : Group) : Type 0 where
    pub alive : Alive T g
    pub held : (record_of T.i (g.at d)).timestamp ≡ M
    pub own : (record_of T.i (g.at d)).written ≡ M
    pub saving : Saving (record_of T.i (g.at d))
    pub hears : (u : ℕ) → other T.set d u ≡ true → Hears sent (record_of T.i (g.at u))
    pub counted : (u : ℕ) → has (record_of T.i (g.at d)).acks u ≡ true → (record_of T.i (g.at u)).timestamp ≡ M
    pub messages : (k : ℕ) (x : Logged) → T.old ≤ k → find g.log k ≡ found x → x.header.index ≡ T.i → Fine sent g x.header.sender x.message

  -- ---- what is missing: that the INV leaves, and of each other laptop that it takes the INV, that it shows M, and that it is counted
  abbrev pub unaware : Group → ℕ → Bool
  unaware g u = other T.set d u && not (same_timestamp (record_of T.i (g.at u)).timestamp M)

  abbrev pub unshown : Group → ℕ → Bool
  unshown g u = other T.set d u && not (same_timestamp (record_of T.i (g.at u)).timestamp M && is_valid (record_of T.i (g.at u)))

  abbrev pub uncounted : Group → ℕ → Bool
  uncounted g u = other T.set d u && not (has (record_of T.i (g.at d)).acks u)

  abbrev pub missing : Bool → Group → ℕ
  missing sent g = cond sent 0 1 + (count_below 16 (unaware g) + (count_below 16 (unshown g) + count_below 16 (uncounted g)))

  -- one entry later, and nearer by one at most
  pub record Nearer (sent : Bool) (g f : Group) : Type 0 where
    pub sent' : Bool
    pub stage : Stage sent' f
    pub near : Falls 1 (missing sent g) (missing sent' f)
