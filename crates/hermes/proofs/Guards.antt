-- What it says that no question of an event says no, as named fields.
use Prim.Native.Nat.{ℕ, ◌+◌, ◌*◌, ◌≤◌, ◌<◌}
use mathlib.Core.Path.{◌≡◌, refl, sym, ◌∙◌}
use mathlib.Core.Bool.{Bool, true, false, cond, not, ◌&&◌, false≢true}
use mathlib.Core.List.{List, [], ◌∷◌}
use mathlib.Core.Logic.{◌⊎◌, inl, inr, ◌≢◌}
use native.Mathlib.Omega.{arith}
use lib.Dec.{ltb, leb, eqb}
use borrow.Author.Tests.{ltb-true, leb-true, eqb-true, not-true}
use Rattle.hermes_record.specs.declared.timestamp.Timestamp.{Timestamp}
use Rattle.hermes_record.specs.declared.record.Record.{Record}
use Rattle.hermes_record.specs.declared.record.State.TheVariants as state
use Rattle.hermes.specs.declared.message.Message.{Message}
use Rattle.hermes.specs.declared.message.Message.TheVariants.{Inv, Ack, Val}
use Rattle.hermes.specs.declared.message.Received.{Received}
use Rattle.hermes.specs.declared.event.Replica.{Replica}
use Rattle.hermes.specs.declared.event.Event.{Event}
use Rattle.hermes.specs.declared.event.Event.TheVariants.{Read, Ask, Write, Commit, Replay, Deliver, Validate, Resend}
use Rattle.hermes_record.specs.Members.{has, size, others_in, within}
use Rattle.hermes_record.specs.Order.{same_timestamp}
use Rattle.hermes_record.specs.Record.{one_of}
use Rattle.hermes.specs.Guards.{Question, AllYes, first_no, question5, shapely}
use Rattle.hermes.specs.Event.{common, of_kind, own, refusal}
use Rattle.hermes.specs.Node.{view_questions}
use Rattle.std.proofs.lemmas.Bool.{and_parts, or_cases}
use Rattle.hermes_record.proofs.Order.{same-equal}

-- ---- lists of questions

-- every number is above 0
abbrev pub positive : List Question → Bool
positive [] = true
positive (q ∷ qs) = ltb 0 q.number && positive qs

pub all_yes : (qs : List Question) → positive qs ≡ true → first_no qs ≡ 0 → AllYes qs
all_yes [] p e = tt
all_yes (q ∷ qs) p e = go q.yes refl e (all_yes qs (and_parts (ltb 0 q.number) (positive qs) p).1)
  where
    go : (b : Bool) → q.yes ≡ b → cond b (first_no qs) q.number ≡ 0 → (first_no qs ≡ 0 → AllYes qs) → (q.yes ≡ true) × AllYes qs
    go true y z rest = (y, rest z)
    go false y z rest = absurd (omega (arith, ltb-true 0 q.number (and_parts (ltb 0 q.number) (positive qs) p).0))

pub none-says-no : (qs : List Question) → AllYes qs → first_no qs ≡ 0
none-says-no [] y = refl
none-says-no (q ∷ qs) (y, ys) = rw (y, none-says-no qs ys)

-- where every question says yes or has another number, that number is not answered
abbrev pub Otherwise : ℕ → List Question → Type 0
Otherwise k [] = Unit
Otherwise k (q ∷ qs) = ((q.yes ≡ true) ⊎ (q.number ≢ k)) × Otherwise k qs

pub other-number : (k : ℕ) (qs : List Question) → Otherwise k qs → k ≢ 0 → first_no qs ≢ k
other-number k [] o z = λ e. z (sym e)
other-number k (q ∷ qs) (o, os) z = go q.yes refl o (other-number k qs os z)
  where
    go : (b : Bool) → q.yes ≡ b → (q.yes ≡ true) ⊎ (q.number ≢ k) → first_no qs ≢ k → cond b (first_no qs) q.number ≢ k
    go true y o rest = rest
    go false y (inl t) rest = absurd (false≢true (sym y ∙ t))
    go false y (inr d) rest = d

-- the numbers of an event's questions are above 0
pub positive-kind : (m : Message) (sender : ℕ) (r : Record) → positive (of_kind m sender r) ≡ true
positive-kind (Inv t) sender r = refl
positive-kind (Ack t) sender r = refl
positive-kind (Val t) sender r = refl

pub positive-own : (me : Replica) (r : Record) (e : Event) (n : ℕ) → positive (own me r e n) ≡ true
positive-own me r Read n = refl
positive-own me r Ask n = refl
positive-own me r Write n = refl
positive-own me r (Commit t) n = refl
positive-own me r Replay n = refl
positive-own me r (Deliver m) n = positive-kind m.message m.sender r
positive-own me r Validate n = refl
positive-own me r Resend n = refl

-- ---- questions 1 to 5

pub record Sound (me : Replica) (r : Record) : Type 0 where
  pub short : r.len ≤ 192
  pub tie : r.timestamp.tie ≤ 15
  pub own-tie : r.written.tie ≤ 15
  pub writer : r.writer ≤ 15
  pub uncounted : has r.acks me.number ≡ false

pub record Common (me : Replica) (count bytes i : ℕ) (r : Record) : Type 0 where
  pub number : me.number ≤ 15
  pub two : 2 ≤ size me.view
  pub some : 1 ≤ count
  pub few : count ≤ 4096
  pub whole : bytes ≡ 192 * count
  pub in-view : has me.view me.number ≡ true
  pub inside : i < count
  pub sound : Sound me r

pub sound-passed : (me : Replica) (r : Record) → (question5 me r).yes ≡ true → Sound me r
sound-passed me r e =
    let p = and_parts _ (not (has r.acks me.number)) e in
    let q = and_parts _ (leb r.writer 15) p.0 in
    let s = and_parts _ (leb r.written.tie 15) q.0 in
    let t = and_parts _ (leb r.timestamp.tie 15) s.0 in
    record {
      short = leb-true _ _ t.0;
      tie = leb-true _ _ t.1;
      own-tie = leb-true _ _ s.1;
      writer = leb-true _ _ q.1;
      uncounted = not-true _ p.1;
    }

pub common-passed : (me : Replica) (count bytes i : ℕ) (r : Record) (rest : List Question) → AllYes (common me count bytes i r rest) → Common me count bytes i r
common-passed me count bytes i r rest (q1, (q2, (q3, (q4, (q5, y))))) =
    let a = and_parts _ (leb 2 (size me.view)) q1 in
    let b = and_parts _ (eqb bytes (192 * count)) q2 in
    let c = and_parts _ (leb count 4096) b.0 in
    record {
      number = leb-true _ _ a.0;
      two = leb-true _ _ a.1;
      some = leb-true _ _ c.0;
      few = leb-true _ _ c.1;
      whole = eqb-true _ _ b.1;
      in-view = q3;
      inside = ltb-true _ _ q4;
      sound = sound-passed me r q5;
    }

-- ---- the events' own questions, when every one says yes

pub record WriteOwn (r : Record) (n : ℕ) : Type 0 where
  pub idle : one_of r.state (state.Valid ∷ state.Invalid ∷ []) ≡ true
  pub fits : n ≤ 192
  pub below : r.timestamp.version < 4294967295

pub record CommitOwn (t : Timestamp) (r : Record) (n : ℕ) : Type 0 where
  pub valid : one_of r.state (state.Valid ∷ []) ≡ true
  pub current : t ≡ r.timestamp
  pub fits : n ≤ 192
  pub below : r.timestamp.version < 4294967295

-- question 13 of an acknowledgement, 14 of a validation
abbrev pub KindOwn : Message → ℕ → Record → Type 0
KindOwn (Inv t) sender r = Unit
KindOwn (Ack t) sender r = (one_of r.state (state.Write ∷ state.InvalidWrite ∷ state.Replay ∷ []) ≡ true) × (t ≡ r.written) × (has r.acks sender ≡ false)
KindOwn (Val t) sender r = (one_of r.state (state.Valid ∷ []) ≡ false) × (t ≡ r.timestamp)

pub record DeliverOwn (me : Replica) (r : Record) (m : Received) (n : ℕ) : Type 0 where
  pub epoch : m.epoch ≡ me.epoch
  pub known : has me.view m.sender ≡ true
  pub other : eqb m.sender me.number ≡ false
  pub shape : shapely m.message n ≡ true
  pub kind : KindOwn m.message m.sender r

pub record ValidateOwn (me : Replica) (r : Record) : Type 0 where
  pub pending : one_of r.state (state.Write ∷ state.Replay ∷ []) ≡ true
  pub acknowledged : others_in me.number me.view r.acks ≡ true

-- question 16
pub record ReplayOwn (me : Replica) (r : Record) : Type 0 where
  pub invalidated : one_of r.state (state.Invalid ∷ state.InvalidWrite ∷ []) ≡ true
  pub gone : has me.view r.writer ≡ false

-- question 17: something is under way, or the replica wrote what the record shows
abbrev pub ResendOwn : Replica → Record → Type 0
ResendOwn me r = (one_of r.state (state.Write ∷ state.Replay ∷ []) ≡ true) ⊎ ((one_of r.state (state.Valid ∷ []) ≡ true) × (r.writer ≡ me.number))

module _ (me : Replica) (r : Record) where
  pub read-own : (n : ℕ) → AllYes (own me r Read n) → one_of r.state (state.Valid ∷ []) ≡ true
  read-own n y = y.0

  pub write-own : (n : ℕ) → AllYes (own me r Write n) → WriteOwn r n
  write-own n y = record { idle = y.0; fits = leb-true _ _ y.1.0; below = ltb-true _ _ y.1.1.0 }

  pub commit-own : (t : Timestamp) (n : ℕ) → AllYes (own me r (Commit t) n) → CommitOwn t r n
  commit-own t n y =
      let (p, q) = and_parts (one_of r.state (state.Valid ∷ [])) (same_timestamp t r.timestamp) y.0 in
      record { valid = p; current = same-equal t r.timestamp q; fits = leb-true _ _ y.1.0; below = ltb-true _ _ y.1.1.0 }

  pub kind-own : (m : Message) (sender : ℕ) → AllYes (of_kind m sender r) → KindOwn m sender r
  kind-own (Inv t) sender y = tt
  kind-own (Ack t) sender y =
      let (a, c) = and_parts (one_of r.state (state.Write ∷ state.InvalidWrite ∷ state.Replay ∷ []) && same_timestamp t r.written) (not (has r.acks sender)) y.0 in
      let (p, q) = and_parts (one_of r.state (state.Write ∷ state.InvalidWrite ∷ state.Replay ∷ [])) (same_timestamp t r.written) a in
      (p, same-equal t r.written q, not-true _ c)
  kind-own (Val t) sender y =
      let (p, q) = and_parts (not (one_of r.state (state.Valid ∷ []))) (same_timestamp t r.timestamp) y.0 in
      (not-true _ p, same-equal t r.timestamp q)

  pub deliver-own : (m : Received) (n : ℕ) → AllYes (own me r (Deliver m) n) → DeliverOwn me r m n
  deliver-own m n y =
      let q11 = and_parts (has me.view m.sender) _ y.1.0 in
      record {
        epoch = eqb-true _ _ y.0;
        known = q11.0;
        other = not-true _ q11.1;
        shape = y.1.1.0;
        kind = kind-own m.message m.sender y.1.1.1;
      }

  pub validate-own : (n : ℕ) → AllYes (own me r Validate n) → ValidateOwn me r
  validate-own n y =
      let (p, q) = and_parts (one_of r.state (state.Write ∷ state.Replay ∷ [])) (others_in me.number me.view r.acks) y.0 in
      record { pending = p; acknowledged = q }

  pub replay-own : (n : ℕ) → AllYes (own me r Replay n) → ReplayOwn me r
  replay-own n y =
      let (p, q) = and_parts (one_of r.state (state.Invalid ∷ state.InvalidWrite ∷ [])) (not (has me.view r.writer)) y.0 in
      record { invalidated = p; gone = not-true _ q }

  pub resend-own : (n : ℕ) → AllYes (own me r Resend n) → ResendOwn me r
  resend-own n y = go (or_cases (one_of r.state (state.Write ∷ state.Replay ∷ [])) (one_of r.state (state.Valid ∷ []) && eqb r.writer me.number) y.0)
    where
      go : (one_of r.state (state.Write ∷ state.Replay ∷ []) ≡ true) ⊎ ((one_of r.state (state.Valid ∷ []) && eqb r.writer me.number) ≡ true) → ResendOwn me r
      go (inl h) = inl h
      go (inr h) = let (p, q) = and_parts (one_of r.state (state.Valid ∷ [])) (eqb r.writer me.number) h in inr (p, eqb-true _ _ q)

-- of a view, question 18, and question 19; each by itself, since agreement needs 19 alone
pub view-later : (me : Replica) (epoch view : ℕ) → AllYes (view_questions me epoch view) → me.epoch < epoch
view-later me epoch view y = ltb-true me.epoch epoch y.1.1.0

pub view-inside : (me : Replica) (epoch view : ℕ) → AllYes (view_questions me epoch view) → (within view me.view ≡ true) × (leb 2 (size view) ≡ true)
view-inside me epoch view y = and_parts (within view me.view) (leb 2 (size view)) y.1.1.1.0

module _ (me : Replica) (count bytes i : ℕ) (r : Record) where
  -- every answer is yes: no question says no
  pub none-refuses : (e : Event) (n : ℕ) → AllYes (common me count bytes i r (own me r e n)) → refusal me count bytes i r e n ≡ 0
  unfolding refusal
  none-refuses e n y = none-says-no (common me count bytes i r (own me r e n)) y

  -- and back
  pub passed : (e : Event) (n : ℕ) → refusal me count bytes i r e n ≡ 0 → AllYes (common me count bytes i r (own me r e n))
  unfolding refusal
  passed e n z = all_yes (common me count bytes i r (own me r e n)) (positive-own me r e n) z

  pub event-passed : (e : Event) (n : ℕ) → refusal me count bytes i r e n ≡ 0 → Common me count bytes i r
  event-passed e n z = common-passed me count bytes i r (own me r e n) (passed e n z)

  -- its own questions
  pub own-passed : (e : Event) (n : ℕ) → refusal me count bytes i r e n ≡ 0 → AllYes (own me r e n)
  own-passed e n z = (passed e n z).1.1.1.1.1

-- question 12 of an invalidation
pub inv-fits : (m : Message) (t : Timestamp) (n : ℕ) → m ≡ Inv t → shapely m n ≡ true → n ≤ 192
inv-fits m t n e h = leb-true n 192 (and_parts (leb t.tie 15) (leb n 192) (rw e at h)).1

-- the 192 bytes of a record below the count lie in the store
pub slot-fits : {me : Replica} {count bytes i : ℕ} {r : Record} → Common me count bytes i r → 192 * i + 192 ≤ bytes
slot-fits p = omega (arith, p.whole, p.inside)
