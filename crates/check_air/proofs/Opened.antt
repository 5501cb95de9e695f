-- Wish 5 of the exported functions, from hermes's `asking`: the calls are entries of a run, and an ask and its commit among them are an ask and its commit there.
use Prim.Native.Nat.{ℕ}
use mathlib.Core.Path.{◌≡◌, refl, sym, ap, subst, ◌∙◌}
use mathlib.Core.Bool.{Bool, true}
use mathlib.Core.List.{List, [], ◌∷◌, ◌++◌}
use Rattle.hermes_record.specs.declared.timestamp.Timestamp.{Timestamp}
use Rattle.hermes.specs.declared.event.Event.TheVariants.{Commit}
use Rattle.hermes.specs.declared.event.Settings.{Settings}
use Rattle.hermes_record.specs.Order.{ties, later, NotAfter}
use Rattle.hermes.specs.Settings.{under}
use Rattle.hermes.specs.Event.{number_of}
use Rattle.hermes.specs.Node as hermes
use Rattle.hermes.specs.Node.{Node, apply, asked, record_of}
use Rattle.hermes.specs.Run as run
use Rattle.hermes.specs.Run.{Action, Entry, Group, Result, perform, result}
use Rattle.hermes.specs.Agreement.{IsAccepted}
use Rattle.hermes.specs.Asking as asking-of
use Rattle.hermes.specs.Asking.{Still, HandsOut, Apart, Opened}
use Rattle.hermes.proofs.Agreement.{run-append}
use Rattle.hermes.proofs.Asking.{asking}
use Rattle.export_numbers.specs.declared.numbers.CetskobiAnswer.{CetskobiAnswer}
use Rattle.export_numbers.specs.Crossing.{group_rule}
use Rattle.check_air.specs.Callers.{Laptop, node, Call, commit, Returns, Hut, Turn, next, after, Follows, AllBegun, laptop}
use Rattle.check_air.specs.Opened.{Hands, asks, reads, CalledAsking}
use Rattle.check_air.proofs.Callers.{Match, number-out, is_read, is_ask, is-commit, entry, turn-matches, entries, first_entry, are-entries, matches, first_part, second-part, both-parts, group_of, started, match}

-- calls cut in two
after-append : (h : Hut) (before rest : List Turn) → after h (before ++ rest) ≡ after (after h before) rest
after-append h [] rest = refl
after-append h (s ∷ before) rest = after-append (next h s) before rest

-- the number that `cetskobi_commit` answers
commit-number : (i version tie : ℕ) (v : List ℕ) (l l' : Laptop) (number : ℕ) (c : Call) → c ≡ commit i version tie v → Returns c l number l'
    → number_of (apply ties (node l) i (Commit (record { version = version; tie = tie })) v).answer ≡ number
commit-number i version tie v l l' number c e =
    subst (λ (x : Call). Returns x l number l' → number_of (apply ties (node l) i (Commit (record { version = version; tie = tie })) v).answer ≡ number) (sym e)
    (λ r. sym (ap (λ (x : CetskobiAnswer). x.number) r.1.answer ∙ number-out (apply ties (node l) i (Commit (record { version = version; tie = tie })) v).answer) ∙ r.2)

-- accepted is refused by 0
accepted-of : (r : Result) → asking-of.RefusedBy 0 r → IsAccepted r
accepted-of run.nothing q = q
accepted-of (run.event o) q = q

-- ---- a call that hands out is such an entry

module _ (member : ℕ → Bool) (issued : ℕ → ℕ) (g : Group) (h : Hut) (m : Match g h) (s : Turn) (f : Follows member issued h (s ∷ [])) where
  abbrev a : Entry
  a = entry member issued h s f.1

  abbrev n : Node
  n = node (h.at s.who)

  entry-does : (x : Action) → a.what ≡ x → result ties g a ≡ perform ties x h.log n
  unfolding result
  entry-does x is = λ j. perform ties (is j) (m.logs j) (m.nodes s.who j)

  hands : (i : ℕ) (t : Timestamp) (text : List ℕ) → Hands n s.call i t text → HandsOut ties g a i t text
  hands i t text (asks p c d z e b) = asking-of.asks is (subst IsAccepted (sym (entry-does (run.ask i) is)) (sym d.number ∙ z)) out
    where
      is : a.what ≡ run.ask i
      is = is_ask issued h.log (group_rule (h.at s.who).me) i s.call c f.1

      out : asked (g.at s.who) i ≡ record { part = text; timestamp = t }
      out = ap (λ (x : Node). asked x i) (m.nodes s.who) ∙ λ j. record { part = (sym d.part.part ∙ b) j; timestamp = ((λ k. record { version = sym d.version k; tie = sym d.tie k }) ∙ e) j }
  hands i t text (reads p c d z e b) = asking-of.reads is (subst IsAccepted (sym (entry-does (run.read i) is)) (sym d.number ∙ z)) out (ap (λ (x : Node). (record_of i x).timestamp) (m.nodes s.who) ∙ e)
    where
      is : a.what ≡ run.read i
      is = is_read issued h.log (group_rule (h.at s.who).me) i s.call c f.1

      out : hermes.read (g.at s.who) i ≡ text
      out = ap (λ (x : Node). hermes.read x i) (m.nodes s.who) ∙ sym d.part.part ∙ b

-- ---- two calls of one laptop, and those between

module _ (member : ℕ → Bool) (count : ℕ) (issued : ℕ → ℕ) (settings : Settings) (h : Hut) (begun : AllBegun member count issued settings h) (before upto beyond rest : List Turn) (s c : Turn)
    (f : Follows member issued h (before ++ s ∷ ((upto ++ beyond) ++ c ∷ rest))) (one : s.who ≡ c.who) where
  -- the group at the first, after it, and at the second
  abbrev h1 : Hut
  h1 = after h before

  abbrev h2 : Hut
  h2 = next h1 s

  abbrev h3 : Hut
  h3 = after h2 (upto ++ beyond)

  f1 : Follows member issued h before
  f1 = first_part member issued h before (s ∷ ((upto ++ beyond) ++ c ∷ rest)) f

  f2 : Follows member issued h1 (s ∷ ((upto ++ beyond) ++ c ∷ rest))
  f2 = second-part member issued h before (s ∷ ((upto ++ beyond) ++ c ∷ rest)) f

  between : Follows member issued h2 (upto ++ beyond)
  between = first_part member issued h2 (upto ++ beyond) (c ∷ rest) f2.3

  f3 : Follows member issued h3 (c ∷ rest)
  f3 = second-part member issued h2 (upto ++ beyond) (c ∷ rest) f2.3

  -- their entries
  abbrev e1 : List Entry
  e1 = entries member issued h before f1

  abbrev first : Entry
  first = entry member issued h1 s f2.1

  abbrev second : Entry
  second = entry member issued h3 c f3.1

  abbrev entries-after : (turns : List Turn) → Follows member issued h2 turns → List Entry
  entries-after turns g = entries member issued h2 turns g

  -- the run at the first, and after further calls
  abbrev at_first : Group
  at_first = run.run ties (group_of h) e1

  abbrev at_second : Group
  at_second = run.run ties (group_of h) (e1 ++ first ∷ entries-after (upto ++ beyond) between)

  claim : Opened ties settings (group_of h) (entries member issued h (before ++ s ∷ ((upto ++ beyond) ++ c ∷ rest)) f)
  claim = asking member count issued settings (group_of h) (started member count issued settings h begun) _ (are-entries member issued h (before ++ s ∷ ((upto ++ beyond) ++ c ∷ rest)) f)

  apart : Apart (entries member issued h (before ++ s ∷ ((upto ++ beyond) ++ c ∷ rest)) f) e1 (entries-after (upto ++ beyond) between) first second
  unfolding f1 f2 f3 between
  apart = record {
    rest = entries member issued (next h3 c) rest f3.3;
    split =
        both-parts member issued h before (s ∷ ((upto ++ beyond) ++ c ∷ rest)) f
        ∙ ap (λ (es : List Entry). e1 ++ es) (first_entry member issued h1 s ((upto ++ beyond) ++ c ∷ rest) f2)
        ∙ ap (λ (es : List Entry). e1 ++ first ∷ es) (both-parts member issued h2 (upto ++ beyond) (c ∷ rest) f2.3)
        ∙ ap (λ (es : List Entry). e1 ++ first ∷ (entries-after (upto ++ beyond) between ++ es)) (first_entry member issued h3 c rest f3);
    one = one;
  }

  here : Match at_first h1
  here = match member count issued settings h begun before f1

  there : (turns : List Turn) (g : Follows member issued h2 turns) → Match (run.run ties (group_of h) (e1 ++ first ∷ entries-after turns g)) (after h2 turns)
  there turns g = subst (λ x. Match x (after h2 turns)) (sym (run-append ties (group_of h) e1 (first ∷ entries-after turns g)))
      (matches member issued (run.advance ties at_first first) h2 turns g (turn-matches member issued at_first h1 s f2.1 f2.2 here))

  later-laptop : (turns : List Turn) (k : ℕ) → node ((after h2 turns).at k) ≡ laptop h (before ++ s ∷ turns) k
  later-laptop turns k = ap (λ (x : Hut). node (x.at k)) (sym (after-append h before (s ∷ turns)))

  -- what the two hand out
  hands-first : (i : ℕ) (t : Timestamp) (text : List ℕ) → Hands (laptop h before s.who) s.call i t text → HandsOut ties at_first first i t text
  hands-first i t text x = hands member issued at_first h1 here s (f2.0, f2.1, f2.2, tt) i t text x

  hands-second : (i : ℕ) (t : Timestamp) (text : List ℕ) → Hands (laptop h (before ++ s ∷ (upto ++ beyond)) c.who) c.call i t text → HandsOut ties at_second second i t text
  hands-second i t text x =
      hands member issued at_second h3 (there (upto ++ beyond) between) c (f3.0, f3.1, f3.2, tt) i t text
      (subst (λ (n : Node). Hands n c.call i t text) (sym (later-laptop (upto ++ beyond) c.who)) x)

  forward-here : (i : ℕ) (t u : Timestamp) (one' other : List ℕ) → Hands (laptop h before s.who) s.call i t one' → Hands (laptop h (before ++ s ∷ (upto ++ beyond)) c.who) c.call i u other
      → NotAfter (under ties settings) t u × (t ≡ u → one' ≡ other)
  forward-here i t u one' other x y = claim.forward i e1 (entries-after (upto ++ beyond) between) first second apart t u one' other (hands-first i t one' x) (hands-second i u other y)

  -- a commit of what the first handed out
  module _ (i : ℕ) (t : Timestamp) (text v : List ℕ) (x : Hands (laptop h before s.who) s.call i t text) (commits : c.call ≡ commit i t.version t.tie v) where
    is : second.what ≡ run.commit i t v
    is = is-commit issued h3.log (group_rule (h3.at c.who).me) i t.version t.tie v c.call commits f3.1

    -- its entry answers what the call did
    committed : (number : ℕ) → c.number ≡ number → asking-of.RefusedBy number (result ties at_second second)
    committed number e =
        subst (asking-of.RefusedBy number) (sym (entry-does member issued at_second h3 (there (upto ++ beyond) between) c (f3.0, f3.1, f3.2, tt) (run.commit i t v) is))
        (commit-number i t.version t.tie v (h3.at c.who) c.left c.number c.call commits f3.2 ∙ e)

    still : c.number ≡ 0 → Still i t (laptop h (before ++ s ∷ upto) s.who) (laptop h before s.who)
    still e =
        let g = first_part member issued h2 upto beyond between in
        subst (λ (y : Node). Still i t y (laptop h before s.who)) ((there upto g).nodes s.who ∙ later-laptop upto s.who)
        (subst (λ (y : Node). Still i t ((run.run ties (group_of h) (e1 ++ first ∷ entries-after upto g)).at s.who) y) (here.nodes s.who)
        (claim.kept i e1 (entries-after (upto ++ beyond) between) first second apart t text v (hands-first i t text x) is (accepted-of (result ties at_second second) (committed 0 e))
        (entries-after upto g) (entries member issued (after h2 upto) beyond (second-part member issued h2 upto beyond between)) (both-parts member issued h2 upto beyond between)))

    newer-here : c.number ≡ 26 → later (under ties settings) (record_of i (laptop h (before ++ s ∷ (upto ++ beyond)) s.who)).timestamp t ≡ true
    newer-here e =
        subst (λ (y : Node). later (under ties settings) (record_of i y).timestamp t ≡ true) ((there (upto ++ beyond) between).nodes s.who ∙ later-laptop (upto ++ beyond) s.who)
        (claim.newer i e1 (entries-after (upto ++ beyond) between) first second apart t text v (hands-first i t text x) is (committed 26 e))

-- ---- the theorem

pub called-asking : CalledAsking
called-asking member count issued settings h begun turns f = record {
  forward = λ i before between s c w t u first second x y.
      forward-here member count issued settings h begun before [] between w.rest s c (subst (Follows member issued h) w.split f) w.one i t u first second x y;
  kept = λ i before between s c w t text v x k e upto beyond cut.
      let split : turns ≡ before ++ s ∷ ((upto ++ beyond) ++ c ∷ w.rest) = w.split ∙ ap (λ (y : List Turn). before ++ s ∷ (y ++ c ∷ w.rest)) cut in
      let kept = still member count issued settings h begun before upto beyond w.rest s c (subst (Follows member issued h) split f) w.one i t text v x k e in
      (kept.timestamp, kept.shows, kept.alike);
  newer = λ i before between s c w t text v x k e.
      newer-here member count issued settings h begun before [] between w.rest s c (subst (Follows member issued h) w.split f) w.one i t text v x k e;
}
