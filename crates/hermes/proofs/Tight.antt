-- The bound 3k − 2 cannot be bettered: so much is missing after a save that nobody has heard of, and nothing where all show it.
use Prim.Native.Nat.{ℕ, suc, ◌+◌, ◌*◌, ◌≤◌, ◌<◌}
use mathlib.Core.Path.{◌≡◌, refl, sym, ap, subst, ◌∙◌}
use mathlib.Core.Bool.{Bool, true, false, not, ◌&&◌, false≢true, and-true}
use mathlib.Core.Logic.{inl}
use mathlib.Core.List.{List, [], ◌∷◌}
use native.Mathlib.Omega.{arith}
use native.Mathlib.Decide.{ℕ_discrete}
use lib.Dec.{leb}
use lib.ListN.{length}
use borrow.Author.Tests.{not-true}
use Rattle.hermes_record.specs.declared.timestamp.Timestamp.{Timestamp}
use Rattle.hermes_record.specs.declared.record.Record.{Record}
use Rattle.hermes_record.specs.declared.record.State.{State}
use Rattle.hermes_record.specs.declared.record.State.TheVariants as state
use Rattle.hermes.specs.declared.event.Replica.{Replica}
use Rattle.hermes.specs.declared.event.Settings.{Settings}
use Rattle.hermes.specs.declared.event.Event.TheVariants.{Write}
use Rattle.hermes_record.specs.Members.{has, count_below, size, lowest, others_in}
use Rattle.hermes_record.specs.Order.{Orders, TieOrder, later, same_timestamp}
use Rattle.hermes.specs.Settings.{under}
use Rattle.hermes_record.specs.Record.{one_of, fresh_record, next_timestamp, written_by}
use Rattle.hermes.specs.Guards.{AllYes}
use Rattle.hermes.specs.Event.{own}
use Rattle.hermes.specs.Node.{record_of}
use Rattle.hermes.specs.Run as run
use Rattle.hermes.specs.Run.{Entry, by, Group, result, advance, run}
use Rattle.hermes.specs.Agreement.{Started, Shows, IsAccepted, after}
use Rattle.hermes.specs.Settling.{next_number, Gathered, AllHelp}
use Rattle.hermes.specs.Recipe.{is_valid, other}
use Rattle.hermes.specs.Tight.{saved, Tight, Exact}
use Rattle.std.proofs.lemmas.Bool.{and_parts, and_from, false_from_ne_true}
use Rattle.hermes_record.proofs.Order.{equal-same, greater-later}
use Rattle.hermes.proofs.Members.{Has, has-zero, others-every}
use Rattle.hermes.proofs.Words.{state-is, Two, size-two, count_same, count_none}
use Rattle.hermes.proofs.Log.{find-below}
use Rattle.hermes.proofs.Start.{begun}
use Rattle.hermes.proofs.Sound.{stay-sound}
use Rattle.hermes.proofs.Along.{fresh-record}
use Rattle.hermes.proofs.Progress.{Task, order, self, step_by, Alive, Did, did}
use Rattle.hermes.proofs.Drive.{other-yes, yes-other}
use Rattle.hermes.proofs.Driver.{others-size}
use Rattle.hermes.proofs.Missing.{asked, Falls, keeps, Saving, waits, done, Hears, unheard, heard, Stage, unaware, unshown, uncounted, missing}
use Rattle.hermes.proofs.Mending.{apart, different, any_entry}

module _ (T : Task) (inside : T.i < T.count) (ord : TieOrder (order T)) (d : ℕ) (hd : Has T.set d) (M t0 : Timestamp) (newer : later (order T) M t0 ≡ true) where
  open T use {wins, set, i, old}

  -- ---- lists of entries

  record Reaches (sent : Bool) (g : Group) (entries : List Entry) : Type 0 where
    sent' : Bool
    stage : Stage T d M t0 sent' (run wins g entries)
    near : Falls (length entries) (missing T d M t0 sent g) (missing T d M t0 sent' (run wins g entries))

  further : {e a b c : ℕ} → Falls 1 a b → Falls e b c → Falls (suc e) a c
  further x y = record { most = omega (arith, x.most, y.most) }

  reaches : (sent : Bool) (g : Group) → Stage T d M t0 sent g → (entries : List Entry) → AllHelp wins set i old g entries → Reaches sent g entries
  reaches sent g p [] h = record { sent' = sent; stage = p; near = keeps refl }
  reaches sent g p (a ∷ rest) (hw, k, c, h) =
      let n = any_entry T inside ord d hd M t0 newer sent g p a hw k c in
      let m = reaches n.sent' (advance wins g a) n.stage rest h in
      record { sent' = m.sent'; stage = m.stage; near = further n.near m.near }

  -- ---- the end: nothing is missing where all show the record
  none-missing : (sent : Bool) (g : Group) → Stage T d M t0 sent g → Two 16 (has set) → ((u : ℕ) → Has set u → (record_of i (g.at u)).state ≡ state.Valid) → missing T d M t0 sent g ≡ 0
  none-missing sent g p two v = rw (left (somebody two), count_none 16 _ (λ u. aware u), count_none 16 _ (λ u. shows u), count_none 16 _ (λ u. replied u))
    where
      all : others_in d set (record_of i (g.at d)).acks ≡ true
      all = go p.saving
        where
          go : Saving T d M t0 (record_of i (g.at d)) → others_in d set (record_of i (g.at d)).acks ≡ true
          go (waits e) = absurd (false≢true (ap (λ (s : State). one_of s (state.Write ∷ [])) (sym (v d hd) ∙ e)))
          go (done e o) = o

      acks : (u : ℕ) → other set d u ≡ true → Has (record_of i (g.at d)).acks u
      acks u o = others-every d set (record_of i (g.at d)).acks all u (other-yes set d u o).0 (other-yes set d u o).1

      somebody : Two 16 (has set) → (u : ℕ) × (other set d u ≡ true)
      somebody t = go (ℕ_discrete t.one d)
        where
          go : Dec (t.one ≡ d) → (u : ℕ) × (other set d u ≡ true)
          go (yes z) = (t.two, yes-other set d t.two t.two_passes (λ q. t.apart (z ∙ sym q)))
          go (no n) = (t.one, yes-other set d t.one t.one_passes n)

      left : ((u : ℕ) × (other set d u ≡ true)) → sent ≡ true
      left (u, o) = go (p.hears u o)
        where
          go : Hears T d M t0 sent (record_of i (g.at u)) → sent ≡ true
          go (unheard a b) = absurd (apart T inside ord d hd M t0 newer (sym a ∙ p.counted u (acks u o)))
          go (heard z a b c) = z

      aware : (u : ℕ) → unaware T d M t0 g u ≡ false
      aware u = false_from_ne_true _ (λ h. let (o, n) = and_parts (other set d u) _ h in false≢true (sym (not-true _ n) ∙ equal-same _ M (p.counted u (acks u o))))

      shows : (u : ℕ) → unshown T d M t0 g u ≡ false
      shows u = false_from_ne_true _ (λ h. let (o, n) = and_parts (other set d u) _ h in
          false≢true (sym (not-true _ n) ∙ and_from _ _ (equal-same _ M (p.counted u (acks u o))) (state-is _ state.Valid (v u (other-yes set d u o).0))))

      replied : (u : ℕ) → uncounted T d M t0 g u ≡ false
      replied u = false_from_ne_true _ (λ h. let (o, n) = and_parts (other set d u) _ h in false≢true (sym (not-true _ n) ∙ acks u o))

-- ---- the start, and the theorem

module _ (wins : Orders) (settings : Settings) (ord : TieOrder (under wins settings)) (member : ℕ → Bool) (count : ℕ) (issued : ℕ → ℕ) (g : Group) (s : Started member count issued settings g) (all : Gathered member issued 0 g)
    (i d : ℕ) (v : List ℕ) (inside : i < count) (hd : has (issued 0) d ≡ true) (ok : IsAccepted (result wins g (by d (run.write i v)))) where
  abbrev set : ℕ
  set = issued 0

  -- before the save, and after it
  abbrev first : Task
  first = record { wins = wins; settings = settings; count = count; e = 0; set = set; i = i; old = 0 }

  abbrev g1 : Group
  g1 = saved wins g d i v

  abbrev task : Task
  task = record { wins = wins; settings = settings; count = count; e = 0; set = set; i = i; old = next_number g1 }

  abbrev t0 : Timestamp
  t0 = (fresh_record (lowest set)).timestamp

  abbrev M : Timestamp
  M = next_timestamp t0 d

  newer : later (under wins settings) M t0 ≡ true
  newer = greater-later (under wins settings) M t0 (inl (omega arith))

  begin : (u : ℕ) → Has set u → record_of i (g.at u) ≡ fresh_record (lowest set)
  begin u h = fresh-record member count issued settings g s i u inside (all u h).0

  alive : Alive first g
  alive = record {
    live = λ u h. record {
      sound = stay-sound wins member count issued settings g s [] tt u (all u h).0;
      epoch = (all u h).1;
      view = ap (λ (me : Replica). me.view) (begun u set settings (s.fresh u (all u h).0).table (s.fresh u (all u h).0).store (g.at u).me (s.fresh u (all u h).0).accepted).identity;
    };
    since = omega arith;
  }

  says : AllYes (own (self first d) (record_of i (g.at d)) Write (length v))
  says = asked first g alive d hd (run.write i v) Write v refl ok

  D : Did first g (by d (run.write i v)) (step_by first d (record_of i (g.at d)) Write v)
  D = did first inside g alive d hd (run.write i v) Write v refl says

  -- d's record, and the others'
  here : record_of i (g1.at d) ≡ written_by (fresh_record (lowest set)) d (length v)
  here = D.here ∙ ap (λ (r : Record). written_by r d (length v)) (begin d hd)

  there : (u : ℕ) → other set d u ≡ true → record_of i (g1.at u) ≡ fresh_record (lowest set)
  there u o = D.others u (other-yes set d u o).1 ∙ begin u (other-yes set d u o).0

  stage : Stage task d M t0 false g1
  stage = record {
    alive = record { live = λ u h. let l = D.alive.live u h in record { sound = l.sound; epoch = l.epoch; view = l.view }; since = omega arith };
    held = rw here;
    own = rw here;
    saving = waits (rw here);
    hears = λ u o. unheard (rw (there u o)) (rw (there u o));
    counted = λ u h. absurd (false≢true (sym (has-zero u) ∙ rw here at h));
    messages = λ k x l e j. absurd (omega (arith, find-below g1.log k x e));
  }

  -- all is missing
  apart-first : same_timestamp t0 M ≡ false
  apart-first = different task inside ord d hd M t0 newer

  all-missing : missing task d M t0 false g1 ≡ 1 + (count_below 16 (other set d) + (count_below 16 (other set d) + count_below 16 (other set d)))
  all-missing = rw (
    count_same 16 (unaware task d M t0 g1) (other set d) (λ u l. unaware-all u),
    count_same 16 (unshown task d M t0 g1) (other set d) (λ u l. unshown-all u),
    count_same 16 (uncounted task d M t0 g1) (other set d) (λ u l. uncounted-all u),
  )
    where
      unaware-all : (u : ℕ) → unaware task d M t0 g1 u ≡ other set d u
      unaware-all u = go (other set d u) refl
        where
          go : (b : Bool) → other set d u ≡ b → (b && not (same_timestamp (record_of i (g1.at u)).timestamp M)) ≡ b
          go false q = refl
          go true q = rw (there u q, apart-first)

      unshown-all : (u : ℕ) → unshown task d M t0 g1 u ≡ other set d u
      unshown-all u = go (other set d u) refl
        where
          go : (b : Bool) → other set d u ≡ b → (b && not (same_timestamp (record_of i (g1.at u)).timestamp M && is_valid (record_of i (g1.at u)))) ≡ b
          go false q = refl
          go true q = rw (there u q, apart-first)

      uncounted-all : (u : ℕ) → uncounted task d M t0 g1 u ≡ other set d u
      uncounted-all u = rw (here, has-zero u, and-true (other set d u))

  bound : (entries : List Entry) → AllHelp wins set i (next_number g1) g1 entries → ((m : ℕ) → has set m ≡ true → Shows (after wins g1 entries m) i) → 3 * size set ≤ length entries + 2
  bound entries h shown = sum (count_below 16 (other set d)) n.near all-missing (none-missing task inside ord d hd M t0 newer n.sent' (run wins g1 entries) n.stage two shown) (others-size (under wins settings) set i g1 d hd)
    where
      n : Reaches task inside ord d hd M t0 newer false g1 entries
      n = reaches task inside ord d hd M t0 newer false g1 stage entries h

      two : Two 16 (has set)
      two = size-two set (subst (λ (x : ℕ). leb 2 (size x) ≡ true) (alive.live d hd).view (and_parts (leb (g.at d).me.number 15) _ (alive.live d hd).sound.first).1)

      sum : {e a b k : ℕ} (o : ℕ) → Falls e a b → a ≡ 1 + (o + (o + o)) → b ≡ 0 → o + 1 ≡ k → 3 * k ≤ e + 2
      sum o x p q y = omega (arith, x.most, p, q, y)

-- the bound 3k − 2 cannot be bettered
pub tight : Tight
tight wins ord member count issued settings g s all i d v inside hd ok entries h shown = omega (arith, bound wins settings (ord settings.rule) member count issued g s all i d v inside hd ok entries h shown)

-- so a list that settles such a save has exactly so many entries
pub exact : Exact
exact wins ord member count issued settings g s all i d v inside hd ok entries x =
    omega (arith, x.few, tight wins ord member count issued settings g s all i d v inside hd ok entries x.help (λ m h. (x.shown m h).0))
