-- The second reading of demand 3 follows from the first (`agreement`) and from the laptops' staying sound. The idea: the entries of a history,
-- oldest first, are a list of entries of the first reading, and a run of that list leaves every laptop as the history does.
use Prim.Native.Nat.{ℕ, suc, ◌+◌, ◌*◌, ◌<◌}
use mathlib.Core.Path.{◌≡◌, refl, sym, ap, subst, ◌∙◌}
use mathlib.Core.Bool.{Bool, true, false, cond, ◌&&◌}
use mathlib.Core.Logic.{◌⊎◌, inl, inr, ⊎_elim, ⊎_map, ◌≢◌}
use mathlib.Core.List.{List, [], ◌∷◌, ◌++◌, append_assoc}
use native.Mathlib.Omega.{arith}
use lib.Dec.{ltb, eqb}
use lib.ListN.{length, get_or, drop}
use lib.Seq.{get_or-take, get_or-drop}
use borrow.Author.Tests.{eqb-true, ltb-true, eq-eqb, ne_eqb}
use Rattle.hermes_record.specs.declared.timestamp.Timestamp.{Timestamp}
use Rattle.hermes_record.specs.declared.timestamp.Rule.{Rule}
use Rattle.hermes_record.specs.declared.timestamp.Rule.TheVariants.{Higher, Lower}
use Rattle.hermes_record.specs.declared.record.State.TheVariants as state
use Rattle.hermes.specs.declared.message.Message.TheVariants.{Inv, Ack, Val}
use Rattle.hermes.specs.Answer.{Outgoing}
use Rattle.std.specs.Prelude.{None, Ok, Some}
use Rattle.hermes.specs.declared.event.Replica.{Replica}
use Rattle.hermes.specs.declared.event.Settings.{Settings}
use Rattle.hermes_record.specs.Members.{has}
use Rattle.hermes_record.specs.Order.{ties, later, NotAfter, equal, rises}
use Rattle.hermes.specs.Settings.{old_settings}
use Rattle.hermes_record.specs.Record.{one_of}
use Rattle.hermes.specs.Store.{slot}
use Rattle.hermes.specs.Event.{completes, number_of, sent_by}
use Rattle.hermes.specs.Node.{Node, Start, lent, record_of, newcomer, start}
use Rattle.hermes.specs.Run as run
use Rattle.hermes.specs.Run.{Logged, Action, Group, find, found, logged, result, advance}
use Rattle.hermes.specs.Agreement as one
use Rattle.hermes.specs.Agreement.{Started, AsIssued, Entries, Alike, validates, acknowledges}
use Rattle.hermes.specs.Reads.{Sound}
use Rattle.hermes.specs.SecondReading.{InView, WinsTie, Greater, by_version, by_tie, SameOrLater, same, greater, Among, first, further}
use Rattle.hermes.specs.SecondReading.{Mail, Happening, read, write, replay, delivery, validation, resend, change, ask, commit, perform}
use Rattle.hermes.specs.SecondReading.{Entry, outcome, Leaves, Left, Honest, Replaced, here, there, History, empty, next}
use Rattle.hermes.specs.SecondReading.{FreshStart, Different, Premises, ShowsValid, Agree, Agreement, InWriteOrReplay, LastAck, Validates, Kept, SecondDemand3}
use Rattle.std.proofs.lemmas.Bool.{and_parts, or_cases}
use Rattle.hermes.proofs.Log.{find-front, find-last}
use Rattle.hermes.proofs.Members.{bit-member, member-bit, has-small}
use Rattle.hermes.proofs.LastAck.{does-complete}
use Rattle.hermes.proofs.Start.{begun}
use Rattle.hermes.proofs.Agreement.{run-append, at-who, at_other, agreement}
use Rattle.hermes.proofs.Sound.{stay-sound}

-- ---- views, stamps, bytes

-- a number that stands in a view is a member
pub in-view : (k s : ℕ) → InView k s → has s k ≡ true
in-view k s v = bit-member s k v.0 v.1

pub view_in : (k s : ℕ) → has s k ≡ true → InView k s
view_in k s h = (has-small s k h, member-bit s k h)

-- the two orders of stamps
wins-tie : (rule : Rule) (a b : ℕ) → ties rule a b ≡ true → WinsTie rule a b
wins-tie Higher a b e = ltb-true b a e
wins-tie Lower a b e = ltb-true a b e

same-or-later : (rule : Rule) (s t : Timestamp) → NotAfter (ties rule) s t → SameOrLater rule s t
unfolding later
same-or-later rule s t (equal e) = same (sym e)
same-or-later rule s t (rises e) = greater (go (or_cases _ _ e))
  where
    go : (ltb s.version t.version ≡ true) ⊎ ((eqb t.version s.version && ties rule t.tie s.tie) ≡ true) → Greater rule t s
    go (inl v) = by_version (ltb-true s.version t.version v)
    go (inr v) = let (p, q) = and_parts _ _ v in by_tie (eqb-true t.version s.version p) (wins-tie rule t.tie s.tie q)

-- a record's 192 bytes, one by one
agree : (i : ℕ) (a b : Node) → Alike i a b → Agree i a b
agree i a b k = record {
  one_stamp = k.timestamps;
  same_length = k.lengths;
  same_bytes = λ j l. sym (byte a.store j l) ∙ ap (λ (x : List ℕ). get_or x j 0) k.bytes ∙ byte b.store j l;
}
  where
    byte : (s : List ℕ) (j : ℕ) → j < 192 → get_or (slot i s) j 0 ≡ get_or s (192 * i + j) 0
    byte s j l = get_or-take 192 (drop (192 * i) s) j 0 l ∙ get_or-drop (192 * i) s j 0

-- ---- the laptops of a list, by number

-- the laptop with number k; where there is none, one with another number
abbrev at : List Node → ℕ → Node
at [] k = lent (newcomer (suc k) 0 old_settings) [] []
at (n ∷ rest) k = cond (eqb n.me.number k) n (at rest k)

-- one of them has number k
abbrev member : List Node → ℕ → Bool
member list k = eqb (at list k).me.number k

sought : (list : List Node) (k : ℕ) → (at list k).me.number ≡ k → Among (at list k) list
sought [] k e = absurd (omega arith)
sought (n ∷ rest) k e = go (eqb n.me.number k) e (sought rest k)
  where
    go : (b : Bool) → (cond b n (at rest k)).me.number ≡ k → ((at rest k).me.number ≡ k → Among (at rest k) rest) → Among (cond b n (at rest k)) (n ∷ rest)
    go true e others = first
    go false e others = further (others e)

-- where numbers differ, each of the list is the one with its number
standing : (list : List Node) → Different list → (n : Node) → Among n list → at list n.me.number ≡ n
standing [] d n a = elim a [ ]
standing (o ∷ rest) d n first = rw (eq-eqb n.me.number n.me.number refl)
standing (o ∷ rest) d n (further a) = rw (ne_eqb o.me.number n.me.number (λ e. d.0 n a (sym e))) (standing rest d.1 n a)

module _ {old new : Node} where
  -- the laptop that an entry replaces was one of the group
  was : {before after : List Node} → Replaced old new before after → Among old before
  was here = first
  was (there r) = further (was r)

  -- one of the group then is the new laptop, or was there before under another number
  stands : {before after : List Node} → Replaced old new before after → Different before → (n : Node) → Among n after → (n ≡ new) ⊎ (Among n before × (n.me.number ≢ old.me.number))
  stands here d n first = inl refl
  stands here d n (further a) = inr (further a, d.0 n a)
  stands (there r) d n first = inr (first, λ e. d.0 old (was r) (sym e))
  stands (there r) d n (further a) = ⊎_map (λ e. e) (λ x. (further x.0, x.1)) (stands r d.1 n a)

  -- numbers stay different
  differ : {before after : List Node} → Replaced old new before after → new.me.number ≡ old.me.number → Different before → Different after
  differ here e d = (λ m a. rw e (d.0 m a), d.1)
  differ (there r) e d = (λ m a s. ⊎_elim (λ q. d.0 old (was r) (sym e ∙ ap (λ (n : Node). n.me.number) (sym q) ∙ s)) (λ x. d.0 m x.0 s) (stands r d.1 m a), differ r e d.1)

-- a fresh start of the second reading is one of the first
fresh_start : (count : ℕ) (issued : ℕ → ℕ) (settings : Settings) (k : ℕ) (n : Node) → n.me.number ≡ k → FreshStart (issued 0) count settings n → one.FreshStart count issued settings k n
fresh_start count issued settings k n e f = subst (λ (x : ℕ). one.FreshStart count issued settings x n) (sym number ∙ e) (record {
  table = f.table;
  store = f.store;
  records = f.records;
  accepted = admitted;
  table_after = ap (λ (s : Start). s.table) (sym f.accepted);
  store_after = ap (λ (s : Start). s.store) (sym f.accepted);
})
  where
    admitted : (start f.number (issued 0) settings f.table f.store).admission ≡ Ok n.me
    admitted = ap (λ (s : Start). s.admission) f.accepted

    number : n.me.number ≡ f.number
    number = ap (λ (me : Replica). me.number) (begun f.number (issued 0) settings f.table f.store n.me admitted).identity

-- ---- messages and the log

-- a message as the log has it
abbrev posted : Mail → Logged
posted m = record { header = record { sender = m.sender; epoch = m.epoch; index = m.number }; message = m.kind; body = m.bytes }

-- the log has the message, under some number
abbrev In : List Logged → Mail → Type 0
In log m = (j : ℕ) × (find log j ≡ found (posted m))

module _ (m : Mail) (log : List Logged) (n : Node) where
  -- what the log has, it keeps
  stays : (out : Outgoing) → In log m → In (logged log n out) m
  stays None k = k
  stays (Some (kind, h)) (j, e) = (j, find-front log _ j (posted m) e)

  -- what leaves joins it, with the same bytes
  joins : (out : Outgoing) → Leaves m out n → In (logged log n out) m
  joins None e = elim e [ ]
  joins (Some (Inv t, h)) e = rw e (length log, find-last log _)
  joins (Some (Ack t, h)) e = rw e (length log, find-last log _)
  joins (Some (Val t, h)) e = rw e (length log, find-last log _)

-- ---- entries

-- an event as an action of the first reading; j is the log number of the message that it delivers
abbrev action : Happening → ℕ → Action
action (read i) j = run.read i
action (write i v) j = run.write i v
action (replay i) j = run.replay i
action (delivery m) j = run.deliver j
action (validation i) j = run.validate i
action (resend i) j = run.resend i
action (change epoch set) j = run.view epoch set
action (ask i) j = run.ask i
action (commit i t v) j = run.commit i t v

abbrev entry_of : Entry → ℕ → run.Entry
entry_of e j = record { who = e.found.me.number; what = action e.event j }

-- the log has the message that an event delivers, under number j
abbrev Brings : List Logged → Happening → ℕ → Type 0
Brings log (read i) j = Unit
Brings log (write i v) j = Unit
Brings log (replay i) j = Unit
Brings log (delivery m) j = find log j ≡ found (posted m)
Brings log (validation i) j = Unit
Brings log (resend i) j = Unit
Brings log (change epoch set) j = Unit
Brings log (ask i) j = Unit
Brings log (commit i t v) j = Unit

-- the action is one that the first reading takes, and does the same
record Taken (issued : ℕ → ℕ) (log : List Logged) (n : Node) (h : Happening) : Type 0 where
  number : ℕ
  brings : Brings log h number
  due : AsIssued issued (action h number)
  does : run.perform ties (action h number) log n ≡ run.event (perform h n)

module _ (issued : ℕ → ℕ) (earlier : List Entry) (log : List Logged) (known : (m : Mail) → Left m earlier → In log m) (n : Node) where
  taken : (h : Happening) → Honest issued earlier h → Taken issued log n h
  taken (read i) o = record { number = 0; brings = tt; due = tt; does = refl }
  taken (write i v) o = record { number = 0; brings = tt; due = tt; does = refl }
  taken (replay i) o = record { number = 0; brings = tt; due = tt; does = refl }
  taken (delivery m) o = let (j, e) = known m o in record { number = j; brings = e; due = tt; does = rw e }
  taken (validation i) o = record { number = 0; brings = tt; due = tt; does = refl }
  taken (resend i) o = record { number = 0; brings = tt; due = tt; does = refl }
  taken (change epoch set) o = record { number = 0; brings = tt; due = o; does = refl }
  taken (ask i) o = record { number = 0; brings = tt; due = tt; does = refl }
  taken (commit i t v) o = record { number = 0; brings = tt; due = tt; does = refl }

-- a last ACK completes the view in the first reading too
completing : (m : Mail) (i : ℕ) (n : Node) → LastAck m i n → completes n.me (record_of i n) m.sender ≡ true
completing m i n w = does-complete n.me (record_of i n) m.sender (waits w.waiting) (λ k h d. ⊎_map (λ e. e) (in-view k (record_of i n).acks) (w.completing k (view_in k n.me.view h) d))
  where
    waits : InWriteOrReplay i n → one_of (record_of i n).state (state.Write ∷ state.Replay ∷ []) ≡ true
    waits (inl e) = rw e
    waits (inr e) = rw e

-- one entry more
entries-add : (member : ℕ → Bool) (issued : ℕ → ℕ) (xs : List run.Entry) (a : run.Entry) → Entries member issued xs → member a.who ≡ true → AsIssued issued a.what
    → Entries member issued (xs ++ a ∷ [])
entries-add member issued [] a c e d = (e, d, tt)
entries-add member issued (x ∷ xs) a c e d = (c.0, c.1, entries-add member issued xs a c.2 e d)

-- ---- a history, as a run of the first reading

module _ (issued : ℕ → ℕ) (settings : Settings) (begun : List Node) (p : Premises issued settings begun) where
  abbrev group : Group
  group = record { at = at begun; log = [] }

  started : Started (member begun) p.count issued settings group
  started = record {
    fresh = λ k e. let s = eqb-true (at begun k).me.number k e in fresh_start p.count issued settings k (at begun k) s (p.fresh (at begun k) (sought begun k s));
    silent = refl;
  }

  abbrev after : List run.Entry → Group
  after entries = run.run ties group entries

  sound : (entries : List run.Entry) → Entries (member begun) issued entries → (k : ℕ) → member begun k ≡ true → Sound p.count settings k ((after entries).at k)
  sound = stay-sound ties (member begun) p.count issued settings group started

  -- an entry of the history: where it stands in the run, which then finds its laptop and does its event, and has in the log what left it
  record Past (entries : List run.Entry) (e : Entry) : Type 0 where
    before : List run.Entry
    rest : List run.Entry
    number : ℕ
    split : entries ≡ before ++ entry_of e number ∷ rest
    brings : Brings (after before).log e.event number
    finds : (after before).at e.found.me.number ≡ e.found
    gives : result ties (after before) (entry_of e number) ≡ run.event (outcome e)
    sent : (m : Mail) → Leaves m (sent_by (outcome e).answer) (outcome e).node → In (after entries).log m

  -- laptop n is one of the group, and as the run leaves it
  abbrev Held : List run.Entry → Node → Type 0
  Held entries n = (member begun n.me.number ≡ true) × ((after entries).at n.me.number ≡ n)

  record Matched (list : List Entry) (now : List Node) : Type 0 where
    entries : List run.Entry
    due : Entries (member begun) issued entries
    different : Different now
    held : (n : Node) → Among n now → Held entries n
    past : (e : Entry) → Among e list → Past entries e

  -- ---- one entry more
  module _ (e : Entry) {earlier : List Entry} {old new : List Node} (m : Matched earlier old) (o : Honest issued earlier e.event) (r : Replaced e.found (outcome e).node old new) where
    abbrev g : Group
    g = after m.entries

    it : Held m.entries e.found
    it = m.held e.found (was r)

    act : Taken issued g.log e.found e.event
    act = taken issued earlier g.log (λ x l. (m.past l.entry l.listed).sent x l.left) e.found e.event o

    abbrev a : run.Entry
    a = entry_of e act.number

    abbrev list : List run.Entry
    list = m.entries ++ a ∷ []

    gives : result ties g a ≡ run.event (outcome e)
    unfolding result
    gives = rw it.1 act.does

    advanced : after list ≡ advance ties g a
    advanced = run-append ties group m.entries (a ∷ [])

    at-it : (after list).at e.found.me.number ≡ (outcome e).node
    at-it = rw (advanced, at-who ties g a, gives)

    log : (after list).log ≡ logged g.log (outcome e).node (sent_by (outcome e).answer)
    unfolding advance
    log = rw (advanced, gives)

    due : Entries (member begun) issued list
    due = entries-add (member begun) issued m.entries a m.due it.0 act.due

    -- a laptop keeps its number
    number : (outcome e).node.me.number ≡ e.found.me.number
    number = rw at-it at (sound list due a.who it.0).number

    held : (n : Node) → (n ≡ (outcome e).node) ⊎ (Among n old × (n.me.number ≢ e.found.me.number)) → Held list n
    held n (inl q) = rw (q, number) (it.0, at-it)
    held n (inr (b, d)) = rw (advanced, at_other ties g a n.me.number d) (m.held n b)

    past : (f : Entry) → Among f (e ∷ earlier) → Past list f
    past f first = record {
      before = m.entries;
      rest = [];
      number = act.number;
      split = refl;
      brings = act.brings;
      finds = it.1;
      gives = gives;
      sent = λ x l. rw log (joins x g.log (outcome e).node (sent_by (outcome e).answer) l);
    }
    past f (further b) = let q = m.past f b in record {
      before = q.before;
      rest = q.rest ++ a ∷ [];
      number = q.number;
      split = ap (λ (xs : List run.Entry). xs ++ a ∷ []) q.split ∙ append_assoc q.before (entry_of f q.number ∷ q.rest) (a ∷ []);
      brings = q.brings;
      finds = q.finds;
      gives = q.gives;
      sent = λ x l. rw log (stays x g.log (outcome e).node (sent_by (outcome e).answer) (q.sent x l));
    }

    one_more : Matched (e ∷ earlier) new
    one_more = record { entries = list; due = due; different = differ r number m.different; held = λ n b. held n (stands r m.different n b); past = past }

  matched : {list : List Entry} {now : List Node} → History issued begun list now → Matched list now
  matched empty = record {
    entries = [];
    due = tt;
    different = p.different;
    held = λ n a. let q = standing begun p.different n a in (eq-eqb _ _ (ap (λ (x : Node). x.me.number) q), q);
    past = λ e. elim [ ];
  }
  matched (next e h o r) = one_more e (matched h) o r

  -- an accepted validation is one of the first reading
  validated : (entries : List run.Entry) (h : Happening) (f : Node) (i : ℕ) → Validates h i f → (q : Past entries (record { found = f; event = h }))
      → number_of (perform h f).answer ≡ 0 → one.Validation ties (after q.before) (entry_of (record { found = f; event = h }) q.number) i
  validated entries (read _) f i w q z = elim w [ ]
  validated entries (write _ _) f i w q z = elim w [ ]
  validated entries (replay _) f i w q z = elim w [ ]
  validated entries (resend _) f i w q z = elim w [ ]
  validated entries (change _ _) f i w q z = elim w [ ]
  validated entries (ask _) f i w q z = elim w [ ]
  validated entries (commit _ _ _) f i w q z = elim w [ ]
  validated entries (delivery x) f i w q z =
      acknowledges q.number (posted x) w.stamp refl q.brings w.its_record w.ack (rw q.finds (completing x i f w)) (rw q.gives z)
  validated entries (validation j) f i w q z = validates (ap run.validate w) (rw q.gives z)

  -- ---- the claim

  module _ (list : List Entry) (now : List Node) (m : Matched list now) where
    claimed : one.Agreement ties (member begun) p.count settings group m.entries
    claimed = agreement (member begun) p.count issued settings group started m.entries m.due

    inside : (i : ℕ) (n : Node) → Among n now → ShowsValid i n → i < p.count
    inside i n b s = omega (arith, rw (m.held n b).1 at (sound m.entries m.due n.me.number (m.held n b).0).records, s.its_own)

    agrees : Agreement now
    agrees i a b ha hb va vb sa sb =
        let p : (after m.entries).at a.me.number ≡ a = (m.held a ha).1 in
        let q : (after m.entries).at b.me.number ≡ b = (m.held b hb).1 in
        agree i a b (rw (p, q) at (claimed.alike i a.me.number b.me.number (inside i a ha sa) (m.held a ha).0 (m.held b hb).0
        (rw p (in-view b.me.number a.me.view va)) (rw q (in-view a.me.number b.me.view vb)) (rw p sa.valid) (rw q sb.valid)))

    kept : Kept settings.rule list now
    kept i h f a b w z ha v s =
        let q = m.past (record { found = f; event = h }) b in
        same-or-later settings.rule (record_of i f).timestamp (record_of i a).timestamp
        (rw (q.finds, (m.held a ha).1) at (claimed.lasting i a.me.number q.before q.rest (entry_of (record { found = f; event = h }) q.number)
        (inside i a ha s) (m.held a ha).0 q.split (validated m.entries h f i w q z) (rw q.finds (in-view a.me.number f.me.view v)) (rw (m.held a ha).1 s.valid)))

-- ---- the theorem

-- demand 3, second reading
pub second-demand3 : SecondDemand3
second-demand3 issued settings begun p list now h = let m = matched issued settings begun p h in (agrees issued settings begun p list now m, kept issued settings begun p list now m)
