-- Wish 5. The idea: a laptop's timestamp of a record never goes back, while it stays the text stays, and a record that was valid with it is valid
-- with it. So two moments of one timestamp have one timestamp and one text at every moment between, and 26 means a later one.
use Prim.Native.Nat.{ℕ, ◌<◌}
use mathlib.Core.Path.{◌≡◌, refl, sym, ap, subst, ◌∙◌}
use mathlib.Core.Bool.{Bool, true}
use mathlib.Core.Logic.{inl, inr, ◌≢◌}
use mathlib.Core.List.{List, [], ◌∷◌, ◌++◌, append_assoc}
use native.Mathlib.Omega.{arith}
use lib.ListN.{length, take}
use Rattle.hermes_record.specs.declared.timestamp.Timestamp.{Timestamp}
use Rattle.hermes_record.specs.declared.record.Record.{Record}
use Rattle.hermes_record.specs.declared.record.State.TheVariants as state
use Rattle.hermes.specs.declared.event.Replica.{Replica}
use Rattle.hermes.specs.declared.event.Settings.{Settings}
use Rattle.hermes.specs.declared.event.Event.TheVariants.{Read, Ask, Commit}
use Rattle.hermes_record.specs.Order.{ties, TieOrders, Orders, TieOrder, later, NotAfter, equal, rises}
use Rattle.hermes.specs.Settings.{under}
use Rattle.hermes_record.specs.Record.{next_timestamp}
use Rattle.hermes.specs.Store.{slot}
use Rattle.hermes.specs.Event.{number_of, Handed, refusal, effect, moved, read_part, ask_stamp, ask_hands}
use Rattle.hermes.specs.Node.{Node, Outcome, record_of, value_of, apply}
use Rattle.hermes.specs.Run as run
use Rattle.hermes.specs.Run.{Entry, Group, result, run}
use Rattle.hermes.specs.Agreement.{Started, Entries, Shows, Alike, IsAccepted, after}
use Rattle.hermes.specs.Reads.{Sound}
use Rattle.hermes.specs.Asking.{EveryAskGives, RefusedBy, Still, HandsOut, reads, asks, Apart, Opened, AskingAny, Asking}
use Rattle.hermes_record.proofs.Order.{ties-order, equal-same, greater-later, later-apart, not_after-trans, not_after-antisym}
use Rattle.std.proofs.lemmas.Bool.{and_from}
use Rattle.hermes.proofs.Store.{value-slot}
use Rattle.hermes.proofs.Guards.{sound-passed, commit-own, other-number}
use Rattle.hermes.proofs.Words.{is_state, state-is}
use Rattle.hermes.proofs.Apply.{refusal_of, passed-zero, questions_of, Applied, refused, accepted, applied, was-accepted, was-refused, first-five, its_own}
use Rattle.hermes.proofs.Refine.{Cell, copy}
use Rattle.hermes.proofs.Agreement.{Ok, copies, copies-member, start-ok, run_ok, run-rises, run-cells, run-append, entries-append}
use Rattle.hermes.proofs.Sound.{read-gives, stay-sound}
use Rattle.hermes.proofs.Along.{Becomes, same, writes, replays, invalidates, counts, settles, validates, always}

-- ---- one ask

-- it asks a read's questions, and does a read's step
pub as_read_lem : (wins : Orders) (n : Node) (i : ℕ) → apply wins n i Ask [] ≡ apply wins n i Read []
unfolding apply effect refusal
as_read_lem wins n i = refl

-- the same of one record
pub moves-as-read : (wins : Orders) (me : Replica) (count bytes i : ℕ) (r : Record) → moved wins me count bytes i r Ask [] ≡ moved wins me count bytes i r Read []
unfolding moved refusal
moves-as-read wins me count bytes i r = refl

pub ask-gives : EveryAskGives
unfolding ask_hands ask_stamp read_part refusal
ask-gives wins n i = record {
  as_read = as_read_lem wins n i;
  part = refl;
  accepted = λ a. rw (passed-zero n i Ask [] (was-accepted wins n i Ask [] a).0);
  refused = λ a. let (k, z, q) = was-refused wins n i Ask [] a in rw z;
}

-- ---- one entry

-- an accepted read finds its record valid, and within the table
reads-find : (wins : Orders) (n : Node) (i : ℕ) → number_of (apply wins n i Read []).answer ≡ 0 → Shows n i × (i < length n.table)
reads-find wins n i a = let y = (was-accepted wins n i Read [] a).0 in (is_state (record_of i n).state state.Valid (its_own n i Read [] y).0, (first-five n i Read [] y).inside)

-- what an entry that hands out t and a text finds at record i of its laptop
record Finds (n : Node) (i : ℕ) (t : Timestamp) (text : List ℕ) : Type 0 where
  timestamp : (record_of i n).timestamp ≡ t
  value : value_of i n ≡ text
  shows : Shows n i
  inside : i < length n.table

hands : (wins : Orders) (g : Group) (a : Entry) (i : ℕ) (t : Timestamp) (text : List ℕ) → HandsOut wins g a i t text → Finds (g.at a.who) i t text
unfolding result
hands wins g a i t text (reads e z p s) =
    let f = reads-find wins (g.at a.who) i (rw e at z) in
    record { timestamp = s; value = sym ((read-gives wins (g.at a.who) i).accepted (rw e at z)) ∙ p; shows = f.0; inside = f.1 }
hands wins g a i t text (asks e z p) =
    let f = reads-find wins (g.at a.who) i (rw (as_read_lem wins (g.at a.who) i) at (rw e at z)) in
    record { timestamp = ap (λ (h : Handed). h.timestamp) q; value = ap (λ (h : Handed). h.part) q; shows = f.0; inside = f.1 }
  where
    q : ◌≡◌ {A = Handed} (record { part = value_of i (g.at a.who); timestamp = (record_of i (g.at a.who)).timestamp }) (record { part = text; timestamp = t })
    q = sym ((ask-gives wins (g.at a.who) i).accepted (rw e at z)) ∙ p

-- an accepted commit found the timestamp that it brought
commits : (wins : Orders) (n : Node) (i : ℕ) (t : Timestamp) (v : List ℕ) → number_of (apply wins n i (Commit t) v).answer ≡ 0 → (record_of i n).timestamp ≡ t
commits wins n i t v a = sym (commit-own n.me (record_of i n) t (length v) (its_own n i (Commit t) v (was-accepted wins n i (Commit t) v a).0)).current

-- one that finds its record valid with that timestamp is not refused by 26
not-in-vain : (wins : Orders) (n : Node) (i : ℕ) (t : Timestamp) (v : List ℕ) → Shows n i → t ≡ (record_of i n).timestamp → number_of (apply wins n i (Commit t) v).answer ≢ 26
unfolding refusal
not-in-vain wins n i t v h e = go (apply wins n i (Commit t) v) (applied wins n i (Commit t) v)
  where
    yes26 : refusal_of n i (Commit t) v ≢ 26
    yes26 = other-number 26 (questions_of n i (Commit t) v) (
      inr (λ z. omega arith),
      (
        inr (λ z. omega arith),
        (
          inr (λ z. omega arith),
          (
            inr (λ z. omega arith),
            (
              inr (λ z. omega arith),
              (inl (and_from _ _ (state-is (record_of i n).state state.Valid h) (equal-same t (record_of i n).timestamp e)), (inr (λ z. omega arith), (inr (λ z. omega arith), tt))),
            ),
          ),
        ),
      ),
    ) (λ z. omega arith)

    go : (o : Outcome) → Applied wins n i (Commit t) v o → number_of o.answer ≢ 26
    go o (refused k z q) a = yes26 (z ∙ sym (ap (λ (x : Outcome). number_of x.answer) q) ∙ a)
    go o (accepted y c q) a = omega (arith, ap (λ (x : Outcome). number_of x.answer) q)

-- ---- what every accepted event keeps of its record

-- it is valid with the timestamp t, or has a later one
record Current (wins : ℕ → ℕ → Bool) (t : Timestamp) (r : Record) : Type 0 where
  onward : NotAfter wins t r.timestamp
  valid : r.timestamp ≡ t → r.state ≡ state.Valid

module _ (wins : ℕ → ℕ → Bool) (ord : TieOrder wins) (t : Timestamp) where
  -- a later timestamp than one that is not before t
  past : (s u : Timestamp) → NotAfter wins t s → later wins u s ≡ true → NotAfter wins t u × (u ≡ t → ⊥)
  past s u h l = (not_after-trans wins ord h (rises l), λ e. later-apart wins ord u s l (not_after-antisym wins ord (rises l) (subst (λ (x : Timestamp). NotAfter wins x s) (sym e) h)))

  current-keeps : (me : Replica) (r b : Record) → Becomes wins me r b → Current wins t r → Current wins t b
  current-keeps me r b (same e) h = rw e h
  current-keeps me r b (writes n more e) h = rw e (record { onward = p.0; valid = λ z. absurd (p.1 z) })
    where
      p : NotAfter wins t (next_timestamp r.timestamp me.number) × (next_timestamp r.timestamp me.number ≡ t → ⊥)
      p = past r.timestamp (next_timestamp r.timestamp me.number) h.onward
          (greater-later wins (next_timestamp r.timestamp me.number) r.timestamp (inl (omega (arith, more))))
  current-keeps me r b (replays d e) h = rw e (record { onward = h.onward; valid = λ z. absurd (d (h.valid z)) })
  current-keeps me r b (invalidates new sender n l d e) h = rw e (record { onward = p.0; valid = λ z. absurd (p.1 z) })
    where
      p : NotAfter wins t new × (new ≡ t → ⊥)
      p = past r.timestamp new h.onward l
  current-keeps me r b (counts sender c e) h = rw e (record { onward = h.onward; valid = h.valid })
  current-keeps me r b (settles sender e) h = rw e (record { onward = h.onward; valid = λ z. refl })
  current-keeps me r b (validates e) h = rw e (record { onward = h.onward; valid = λ z. refl })

-- ---- from one point of a list to a later one

-- the text is in the record's 192 bytes
same_text : (count : ℕ) (settings : Settings) (i k : ℕ) (n m : Node) → i < count → Sound count settings k n → Sound count settings k m → Alike i n m → value_of i n ≡ value_of i m
same_text count settings i k n m h a b s = value n a ∙ (λ t. take (s.lengths t) (s.bytes t)) ∙ sym (value m b)
  where
    value : (x : Node) → Sound count settings k x → value_of i x ≡ take (record_of i x).len (slot i x.store)
    value x ok = value-slot i (record_of i x).len x.store (sound-passed x.me (record_of i x) (ok.fifth i h)).short

module _ (wins : Orders) (ords : TieOrders wins) (member : ℕ → Bool) (count : ℕ) (issued : ℕ → ℕ) (settings : Settings) (g : Group) (s : Started member count issued settings g) where
  -- the order of the group
  abbrev order : ℕ → ℕ → Bool
  order = under wins settings

  abbrev ord : TieOrder (under wins settings)
  ord = ords settings.rule

  -- a list in two parts: laptop k at the point between them, and at its end
  module _ (xs ys : List Entry) (c : Entries member issued (xs ++ ys)) (i k : ℕ) (mem : member k ≡ true) where
    abbrev mid : Group
    mid = run wins g xs

    abbrev end : Group
    end = run wins g (xs ++ ys)

    parts : Entries member issued xs × Entries member issued ys
    parts = entries-append member issued xs ys c

    mid-ok : Ok wins settings ord member count issued mid
    mid-ok = run_ok wins settings ord member count issued g (start-ok wins settings ord member count issued g s) xs parts.0

    here : copies wins settings ord member count issued i mid k ≡ copy i (mid.at k)
    here = copies-member wins settings ord member count issued i mid k mem

    there : copies wins settings ord member count issued i (run wins mid ys) k ≡ copy i ((run wins mid ys).at k)
    there = copies-member wins settings ord member count issued i (run wins mid ys) k mem

    onwards : NotAfter order (record_of i (mid.at k)).timestamp (record_of i (end.at k)).timestamp
    onwards = rw (run-append wins g xs ys) (rw (here, there) at (run-rises wins settings ord member count issued mid mid-ok ys parts.1 i k))

    unmoved : (record_of i (end.at k)).timestamp ≡ (record_of i (mid.at k)).timestamp → Alike i (end.at k) (mid.at k)
    unmoved e = rw (run-append wins g xs ys) (record { timestamps = e'; lengths = ap (λ (x : Cell). x.len) cells; bytes = ap (λ (x : Cell). x.bytes) cells })
      where
        e' : (record_of i ((run wins mid ys).at k)).timestamp ≡ (record_of i (mid.at k)).timestamp
        e' = rw (run-append wins g xs ys) at e

        cells : (copy i ((run wins mid ys).at k)).cell ≡ (copy i (mid.at k)).cell
        cells = rw (here, there) at (run-cells wins settings ord member count issued mid mid-ok ys parts.1 i k (rw (here, there) e'))

    -- what was valid with t at the first point is so at the end, or has a later timestamp there
    current : (t : Timestamp) → (record_of i (mid.at k)).timestamp ≡ t → Shows (mid.at k) i → Current order t (record_of i (end.at k))
    current t e v = rw (run-append wins g xs ys)
        (subst (λ (x : Settings). Current (under wins x) t (record_of i ((run wins mid ys).at k))) ((run_ok wins settings ord member count issued mid mid-ok ys parts.1).fixed k mem)
        (always wins i (λ number x r. Current (under wins x) t r) (λ me. current-keeps (under wins me.settings) (ords me.settings.rule) t me) k mid (record { onward = equal (sym e); valid = λ z. v }) ys))

  sound-at : (xs : List Entry) → Entries member issued xs → (k : ℕ) → member k ≡ true → Sound count settings k ((run wins g xs).at k)
  sound-at xs c k mem = stay-sound wins member count issued settings g s xs c k mem

  module _ (entries : List Entry) (c : Entries member issued entries) where
    -- of two entries of one laptop
    module _ (i : ℕ) (before between : List Entry) (a b : Entry) (apart : Apart entries before between a b) where
      -- the list up to the second
      due : Entries member issued (before ++ a ∷ between)
      due = (entries-append member issued (before ++ a ∷ between) (b ∷ apart.rest) (rw (append_assoc before (a ∷ between) (b ∷ apart.rest)) (rw apart.split at c))).0

      mem : member a.who ≡ true
      mem = (entries-append member issued before (a ∷ between) due).1.0

      -- the laptop at the second, under the name of the first
      by_first : (P : Node → Type 0) → P ((run wins g (before ++ a ∷ between)).at b.who) → P ((run wins g (before ++ a ∷ between)).at a.who)
      by_first P p = subst (λ (k : ℕ). P ((run wins g (before ++ a ∷ between)).at k)) (sym apart.one) p

      goes-forward : (t u : Timestamp) (first second : List ℕ) → HandsOut wins (run wins g before) a i t first → HandsOut wins (run wins g (before ++ a ∷ between)) b i u second
          → NotAfter (under wins settings) t u × (t ≡ u → first ≡ second)
      goes-forward t u first second x y = (rw (p.timestamp, q.timestamp) at (onwards before (a ∷ between) due i a.who mem), λ z. sym p.value ∙ sym (text z) ∙ q.value)
        where
          p : Finds ((run wins g before).at a.who) i t first
          p = hands wins (run wins g before) a i t first x

          q : Finds ((run wins g (before ++ a ∷ between)).at a.who) i u second
          q = by_first (λ n. Finds n i u second) (hands wins (run wins g (before ++ a ∷ between)) b i u second y)

          early : Sound count settings a.who ((run wins g before).at a.who)
          early = sound-at before (entries-append member issued before (a ∷ between) due).0 a.who mem

          text : t ≡ u → value_of i ((run wins g (before ++ a ∷ between)).at a.who) ≡ value_of i ((run wins g before).at a.who)
          text z = same_text count settings i a.who ((run wins g (before ++ a ∷ between)).at a.who) ((run wins g before).at a.who) (omega (arith, p.inside, early.records))
              (sound-at (before ++ a ∷ between) due a.who mem) early (unmoved before (a ∷ between) due i a.who mem (q.timestamp ∙ sym z ∙ sym p.timestamp))

      module _ (t : Timestamp) (text v : List ℕ) (x : HandsOut wins (run wins g before) a i t text) (f : b.what ≡ run.commit i t v) where
        found : Finds ((run wins g before).at a.who) i t text
        found = hands wins (run wins g before) a i t text x

        is-kept : IsAccepted (result wins (run wins g (before ++ a ∷ between)) b) → (upto beyond : List Entry) → between ≡ upto ++ beyond
            → Still i t (after wins g (before ++ a ∷ upto) a.who) (after wins g before a.who)
        is-kept z upto beyond e = record {
          timestamp = stamp;
          shows = (current before (a ∷ upto) d i a.who mem t found.timestamp found.shows).valid stamp;
          alike = unmoved before (a ∷ upto) d i a.who mem (stamp ∙ sym found.timestamp);
        }
          where
            whole : Entries member issued ((before ++ a ∷ upto) ++ beyond)
            whole = rw (append_assoc before (a ∷ upto) beyond, ← e) due

            d : Entries member issued (before ++ a ∷ upto)
            d = (entries-append member issued (before ++ a ∷ upto) beyond whole).0

            last : (record_of i ((run wins g ((before ++ a ∷ upto) ++ beyond)).at a.who)).timestamp ≡ t
            last = rw (append_assoc before (a ∷ upto) beyond, ← e)
                (by_first (λ n. (record_of i n).timestamp ≡ t) (unfold result in commits wins ((run wins g (before ++ a ∷ between)).at b.who) i t v (rw f at z)))

            stamp : (record_of i ((run wins g (before ++ a ∷ upto)).at a.who)).timestamp ≡ t
            stamp = not_after-antisym order ord (rw last at (onwards (before ++ a ∷ upto) beyond whole i a.who mem)) (rw found.timestamp at (onwards before (a ∷ upto) d i a.who mem))

        is-newer : RefusedBy 26 (result wins (run wins g (before ++ a ∷ between)) b)
            → later order (record_of i (after wins g (before ++ a ∷ between) a.who)).timestamp t ≡ true
        is-newer z = go now.onward
          where
            n : Node
            n = (run wins g (before ++ a ∷ between)).at a.who

            now : Current order t (record_of i n)
            now = current before (a ∷ between) due i a.who mem t found.timestamp found.shows

            says : number_of (apply wins n i (Commit t) v).answer ≡ 26
            says = by_first (λ n. number_of (apply wins n i (Commit t) v).answer ≡ 26) (unfold result in rw f at z)

            go : NotAfter order t (record_of i n).timestamp → later order (record_of i n).timestamp t ≡ true
            go (equal e) = absurd (not-in-vain wins n i t v (now.valid (sym e)) e says)
            go (rises l) = l

    claim : Opened wins settings g entries
    claim = record { forward = goes-forward; kept = is-kept; newer = is-newer }

-- ---- the theorems

-- over every strict total order of ties
pub asking-by : AskingAny
asking-by wins ord member count issued settings g s entries c = claim wins ord member count issued settings g s entries c

-- Wish 5
pub asking : Asking
asking = asking-by ties ties-order
