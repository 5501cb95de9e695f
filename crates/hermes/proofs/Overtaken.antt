-- 02, Wish 2: an overtaken save is given up by the replay, and no record hangs. The idea: in invalid-write the record's timestamp is later than the
-- laptop's own save, and timestamps and last-write timestamps only rise from there; and who is invalid took an INV of another laptop.
use Prim.Native.Nat.{ℕ}
use mathlib.Core.Path.{◌≡◌, refl, sym, subst, ◌∙◌}
use mathlib.Core.Bool.{Bool, true, false, false≢true}
use mathlib.Core.Logic.{inl, ◌≢◌}
use mathlib.Core.List.{List, [], ◌∷◌}
use native.Mathlib.Omega.{arith}
use lib.ListN.{length}
use Rattle.hermes_record.specs.declared.timestamp.Timestamp.{Timestamp}
use Rattle.hermes_record.specs.declared.record.Record.{Record}
use Rattle.hermes_record.specs.declared.record.State.{State}
use Rattle.hermes_record.specs.declared.record.State.TheVariants as state
use Rattle.hermes.specs.declared.message.Message.{Message}
use Rattle.hermes.specs.declared.message.Message.TheVariants.{Inv, Ack}
use Rattle.hermes.specs.declared.message.Received.{Received}
use Rattle.hermes.specs.declared.event.Replica.{Replica}
use Rattle.hermes.specs.declared.event.Settings.{Settings}
use Rattle.hermes.specs.declared.event.Event.{Event}
use Rattle.hermes.specs.declared.event.Event.TheVariants.{Replay, Deliver, Validate, Resend}
use Rattle.hermes_record.specs.Members.{has, others_in}
use Rattle.hermes_record.specs.Order.{TieOrder, later}
use Rattle.hermes.specs.Settings.{under}
use Rattle.hermes_record.specs.Record.{one_of, invalidated_state, next_timestamp}
use Rattle.hermes.specs.Guards.{AllYes}
use Rattle.hermes.specs.Event.{resent, send, number_of}
use Rattle.hermes.specs.Node.{Node, record_of, apply}
use Rattle.hermes.specs.Run as run
use Rattle.hermes.specs.Run.{Group, result, advance}
use Rattle.hermes.specs.Agreement.{after}
use Rattle.hermes.specs.Reads.{Sound}
use Rattle.hermes.specs.Overtaken.{replay_of, GivenUp, Turn, shown, finishes, resends, takes_over, awaits, NobodyHangs}
use Rattle.std.proofs.lemmas.Bool.{and_from}
use Rattle.hermes.proofs.Members.{every-other}
use Rattle.hermes_record.proofs.Order.{greater-later, later_trans, later-apart}
use Rattle.hermes.proofs.Guards.{KindOwn, deliver-own}
use Rattle.hermes.proofs.Apply.{questions_of, own_of, changed, was-accepted, its_own, answered}
use Rattle.hermes.proofs.Agreement.{at-who}
use Rattle.hermes.proofs.Sound.{stay-sound, five-say-yes, reads-tell}
use Rattle.hermes.proofs.Along.{fresh-record, Becomes, same, writes, replays, invalidates, counts, settles, validates, always}

-- ---- what every accepted event keeps of its record

-- a write has the record's timestamp, and in invalid-write that is later than the laptop's own
abbrev Ahead : (ℕ → ℕ → Bool) → State → Timestamp → Timestamp → Type 0
Ahead wins state.Valid t w = Unit
Ahead wins state.Invalid t w = Unit
Ahead wins state.InvalidWrite t w = later wins t w ≡ true
Ahead wins state.Write t w = t ≡ w
Ahead wins state.Replay t w = Unit

-- in invalid and invalid-write another laptop is the last writer
abbrev Foreign : State → ℕ → ℕ → Type 0
Foreign state.Valid writer k = Unit
Foreign state.Invalid writer k = writer ≢ k
Foreign state.InvalidWrite writer k = writer ≢ k
Foreign state.Write writer k = Unit
Foreign state.Replay writer k = Unit

-- both of the record's timestamps are later than t
record Risen (wins : ℕ → ℕ → Bool) (t : Timestamp) (r : Record) : Type 0 where
  held : later wins r.timestamp t ≡ true
  own : later wins r.written t ≡ true

taken-foreign : (s : State) (sender k : ℕ) → sender ≢ k → Foreign (invalidated_state s) sender k
taken-foreign state.Valid sender k d = d
taken-foreign state.Invalid sender k d = d
taken-foreign state.InvalidWrite sender k d = d
taken-foreign state.Write sender k d = d
taken-foreign state.Replay sender k d = d

foreign-keeps : (wins : ℕ → ℕ → Bool) (me : Replica) (r b : Record) → Becomes wins me r b → Foreign r.state r.writer me.number → Foreign b.state b.writer me.number
foreign-keeps wins me r b (same e) h = rw e h
foreign-keeps wins me r b (writes n more e) h = rw e tt
foreign-keeps wins me r b (replays d e) h = rw e tt
foreign-keeps wins me r b (invalidates t sender n l d e) h = rw e (taken-foreign r.state sender me.number d)
foreign-keeps wins me r b (counts sender c e) h = rw e h
foreign-keeps wins me r b (settles sender e) h = rw e tt
foreign-keeps wins me r b (validates e) h = rw e tt

module _ (wins : ℕ → ℕ → Bool) (ord : TieOrder wins) where
  taken-ahead : (s : State) (t w new : Timestamp) → later wins new t ≡ true → Ahead wins s t w → Ahead wins (invalidated_state s) new w
  taken-ahead state.Valid t w new l h = tt
  taken-ahead state.Invalid t w new l h = tt
  taken-ahead state.InvalidWrite t w new l h = later_trans wins ord new t w l h
  taken-ahead state.Write t w new l h = subst (λ (x : Timestamp). later wins new x ≡ true) h l
  taken-ahead state.Replay t w new l h = tt

  ahead-keeps : (me : Replica) (r b : Record) → Becomes wins me r b → Ahead wins r.state r.timestamp r.written → Ahead wins b.state b.timestamp b.written
  ahead-keeps me r b (same e) h = rw e h
  ahead-keeps me r b (writes n more e) h = rw e refl
  ahead-keeps me r b (replays d e) h = rw e tt
  ahead-keeps me r b (invalidates t sender n l d e) h = rw e (taken-ahead r.state r.timestamp r.written t l h)
  ahead-keeps me r b (counts sender c e) h = rw e h
  ahead-keeps me r b (settles sender e) h = rw e tt
  ahead-keeps me r b (validates e) h = rw e tt

  risen-keeps : (t : Timestamp) (me : Replica) (r b : Record) → Becomes wins me r b → Risen wins t r → Risen wins t b
  risen-keeps t me r b (same e) h = rw e h
  risen-keeps t me r b (writes n more e) h = rw e (record { held = new; own = new })
    where
      new : later wins (next_timestamp r.timestamp me.number) t ≡ true
      new = later_trans wins ord (next_timestamp r.timestamp me.number) r.timestamp t (greater-later wins (next_timestamp r.timestamp me.number) r.timestamp (inl (omega (arith, more)))) h.held
  risen-keeps t me r b (replays d e) h = rw e (record { held = h.held; own = h.held })
  risen-keeps t me r b (invalidates new sender n l d e) h = rw e (record { held = later_trans wins ord new r.timestamp t l h.held; own = h.own })
  risen-keeps t me r b (counts sender c e) h = rw e (record { held = h.held; own = h.own })
  risen-keeps t me r b (settles sender e) h = rw e (record { held = h.held; own = h.own })
  risen-keeps t me r b (validates e) h = rw e (record { held = h.held; own = h.own })

-- ---- the overtaken save is given up

pub given-up : GivenUp
unfolding result
given-up wins ords member count issued settings g s before i k l m x rest = record { overtaken = past.held; uncounted = refuses }
  where
    n : Node
    n = after wins g before k

    t : Timestamp
    t = (record_of i n).written

    -- by the laptop's own rule, before and after the rest
    order : Settings → ℕ → ℕ → Bool
    order x = under wins x

    ord : (x : Settings) → TieOrder (order x)
    ord x = ords x.rule

    ahead : Ahead (order n.me.settings) (record_of i n).state (record_of i n).timestamp t
    ahead = always wins i (λ number x r. Ahead (order x) r.state r.timestamp r.written) (λ me. ahead-keeps (order me.settings) (ord me.settings) me) k g (rw (fresh-record member count issued settings g s i k l m) tt) before

    behind : later (order n.me.settings) (record_of i n).timestamp t ≡ true
    behind = subst (λ (z : State). Ahead (order n.me.settings) z (record_of i n).timestamp t) x.invalid_write ahead

    done-risen : Risen (order (apply wins n i Replay []).node.me.settings) t (record_of i (apply wins n i Replay []).node)
    done-risen = let (y, q) = was-accepted wins n i Replay [] x.accepted in rw (q, (changed wins n i Replay [] y).here) (record { held = behind; own = behind })

    now : Group
    now = advance wins (run.run wins g before) (replay_of k i)

    begun : Risen (order (now.at k).me.settings) t (record_of i (now.at k))
    begun = rw (at-who wins (run.run wins g before) (replay_of k i)) done-risen

    past : Risen (order (after wins now rest k).me.settings) t (record_of i (after wins now rest k))
    past = always wins i (λ number x r. Risen (order x) t r) (λ me. risen-keeps (order me.settings) (ord me.settings) t me) k now begun rest

    refuses : (msg : Received) (v : List ℕ) → msg.message ≡ Ack t → number_of (apply wins (after wins now rest k) i (Deliver msg) v).answer ≡ 0 → ⊥
    refuses msg v is e =
        let y = (was-accepted wins (after wins now rest k) i (Deliver msg) v e).0 in
        let kind = (deliver-own (after wins now rest k).me (record_of i (after wins now rest k)) msg (length v) (its_own (after wins now rest k) i (Deliver msg) v y)).kind in
        let own : t ≡ (record_of i (after wins now rest k)).written = (subst (λ (z : Message). KindOwn z msg.sender (record_of i (after wins now rest k))) is kind).1 in
        later-apart (order (after wins now rest k).me.settings) (ord (after wins now rest k).me.settings) (record_of i (after wins now rest k)).written t past.own own

-- ---- nobody hangs

pub nobody-hangs : NobodyHangs
nobody-hangs wins member count issued settings g s entries c i k l m v = go (record_of i n).state refl
  where
    n : Node
    n = after wins g entries k

    ok : Sound count settings k n
    ok = stay-sound wins member count issued settings g s entries c k m

    five : (e : Event) → AllYes (own_of n i e []) → AllYes (questions_of n i e [])
    five e y = five-say-yes count settings k n ok i l v e [] y

    foreign : Foreign (record_of i n).state (record_of i n).writer n.me.number
    foreign = always wins i (λ number x r. Foreign r.state r.writer number) (λ me. foreign-keeps (under wins me.settings) me) k g (rw (fresh-record member count issued settings g s i k l m) tt) entries

    invalidated : one_of (record_of i n).state (state.Invalid ∷ state.InvalidWrite ∷ []) ≡ true → (record_of i n).writer ≢ n.me.number
        → (b : Bool) → has n.me.view (record_of i n).writer ≡ b → Turn wins n i
    invalidated e d true h = awaits h d
    invalidated e d false h = let (p, q) = answered wins n i Replay [] (five Replay (rw (e, h), tt)) in takes_over p q

    working : (one_of (record_of i n).state (state.Write ∷ state.Replay ∷ []) ≡ true) → resent n.me i (record_of i n).state (record_of i n).timestamp ≡ send n.me i (Inv (record_of i n).timestamp)
        → (b : Bool) → others_in n.me.number n.me.view (record_of i n).acks ≡ b → Turn wins n i
    working e f true a = let (p, q) = answered wins n i Validate [] (five Validate (and_from _ _ e a, tt)) in finishes p q
    working e f false a =
        let (p, q) = answered wins n i Resend [] (five Resend (rw e, tt)) in
        resends (λ h. false≢true (sym a ∙ every-other n.me.number n.me.view (record_of i n).acks h.1)) p (q ∙ f)

    go : (x : State) → (record_of i n).state ≡ x → Turn wins n i
    go state.Valid e = shown ((reads-tell wins member count issued settings g s entries c i k l m v).0 e)
    go state.Invalid e = invalidated (rw e) (subst (λ (z : State). Foreign z (record_of i n).writer n.me.number) e foreign) (has n.me.view (record_of i n).writer) refl
    go state.InvalidWrite e = invalidated (rw e) (subst (λ (z : State). Foreign z (record_of i n).writer n.me.number) e foreign) (has n.me.view (record_of i n).writer) refl
    go state.Write e = working (rw e) (rw e) (others_in n.me.number n.me.view (record_of i n).acks) refl
    go state.Replay e = working (rw e) (rw e) (others_in n.me.number n.me.view (record_of i n).acks) refl
