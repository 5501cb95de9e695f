-- Wish 3: from every situation that the premises allow, a record settles. Here the invariants along a list (`Agreement`, `Standing`) are what the recipe
-- starts from, and the text at the end is what the holder had.
use Prim.Native.Nat.{ℕ, ◌<◌}
use mathlib.Core.Path.{◌≡◌, refl, sym, ap, subst, ◌∙◌}
use mathlib.Core.Bool.{Bool, true, ◌||◌}
use mathlib.Core.Logic.{◌⊎◌, inl, inr}
use mathlib.Core.List.{List, [], ◌∷◌}
use native.Mathlib.Omega.{arith}
use Rattle.hermes_record.specs.declared.timestamp.Timestamp.{Timestamp}
use Rattle.hermes.specs.declared.event.Settings.{Settings}
use Rattle.hermes_record.specs.Order.{ties, Orders, TieOrder, later, NotAfter}
use Rattle.hermes.specs.Settings.{under}
use Rattle.hermes.specs.Node.{record_of}
use Rattle.hermes.specs.Run as run
use Rattle.hermes.specs.Run.{Action, Entry, Group, Logged, advance, run}
use Rattle.hermes.specs.Agreement.{AsIssued, Entries}
use Rattle.hermes.specs.Reads.{Sound}
use Rattle.hermes.specs.Settling.{next_number, Helps, AllHelp, Settled, Gathered, SettlingAny, Settling}
use Rattle.hermes.specs.Recipe.{goes_on, says_again, takes_over, drive, recipe, RecipeSettles, AnyDriverSettles}
use Rattle.hermes_record.proofs.Order.{ties-order}
use Rattle.hermes.proofs.Members.{Has, has-small}
use Rattle.hermes.proofs.Protocol.{Copy, Booked}
use Rattle.hermes.proofs.Standing.{Stands, past, holds}
use Rattle.hermes.proofs.Refine.{Cell, setting, copy}
use Rattle.hermes.proofs.Agreement.{Ok, copies, copies-member, start-ok, run_ok, run-cells}
use Rattle.hermes.proofs.Sound.{stay-sound}
use Rattle.hermes.proofs.Progress.{Task}
use Rattle.hermes.proofs.Driver.{Behind, Outset, Top, top, Achieves, by-driver, by-recipe}

-- ---- a list that helps is a list of entries of the group

as-issued : (issued : ℕ → ℕ) (i old : ℕ) (log : List Logged) (a : Action) → Helps i old log a → AsIssued issued a
as-issued issued i old log (run.read j) h = tt
as-issued issued i old log (run.ask j) h = tt
as-issued issued i old log (run.write j v) h = tt
as-issued issued i old log (run.commit j t v) h = tt
as-issued issued i old log (run.replay j) h = tt
as-issued issued i old log (run.deliver k) h = tt
as-issued issued i old log (run.validate j) h = tt
as-issued issued i old log (run.resend j) h = tt
as-issued issued i old log (run.view epoch next) h = absurd h

are-entries : (wins : Orders) (member : ℕ → Bool) (issued : ℕ → ℕ) (set i old : ℕ) → ((u : ℕ) → Has set u → member u ≡ true)
    → (g : Group) (entries : List Entry) → AllHelp wins set i old g entries → Entries member issued entries
are-entries wins member issued set i old m g [] p = tt
are-entries wins member issued set i old m g (a ∷ rest) (h, k, c, p) =
    (m a.who h, as-issued issued i old g.log a.what k, are-entries wins member issued set i old m (advance wins g a) rest p)

module _ (wins : Orders) (settings : Settings) (ord : TieOrder (under wins settings)) (member : ℕ → Bool) (count : ℕ) (issued : ℕ → ℕ) (g : Group) (ok : Ok wins settings ord member count issued g)
    (sounds : (k : ℕ) → member k ≡ true → Sound count settings k (g.at k)) (i e : ℕ) (inside : i < count) (gathered : Gathered member issued e g) where
  abbrev set : ℕ
  set = issued e

  abbrev task : Task
  task = record { wins = wins; settings = settings; count = count; e = e; set = set; i = i; old = next_number g }

  -- every copy of the record
  abbrev at : ℕ → Copy Cell
  at = copies wins settings ord member count issued i g

  -- ---- what the invariants say of the replicas of the view
  module _ (u : ℕ) (h : Has set u) where
    seen : at u ≡ copy i (g.at u)
    seen = copies-member wins settings ord member count issued i g u (gathered u h).0

    view-is : (g.at u).me.view ≡ set
    view-is = sym (ap (λ (c : Copy Cell). c.view) seen) ∙ ((ok.holds i inside).copies u).current ∙ ap issued (ap (λ (c : Copy Cell). c.epoch) seen ∙ (gathered u h).1)

    reaches : (v : ℕ) → Has set v → (t : Timestamp) → NotAfter (under wins settings) t (at v).timestamp → NotAfter (under wins settings) t (record_of i (g.at v)).timestamp
    reaches v k t n = subst (λ (c : Copy Cell). NotAfter (under wins settings) t c.timestamp) (copies-member wins settings ord member count issued i g v (gathered v k).0) n

  outset : Outset task g
  outset = record {
    alive = record { live = λ u h. record { sound = sounds u (gathered u h).0; epoch = (gathered u h).1; view = view-is u h }; since = omega arith };
    settled = λ u v h k x. reaches u h v k (record_of i (g.at u)).timestamp (subst (λ (c : Copy Cell). (c.valid ≡ true → (m : ℕ) → Has c.view m → NotAfter (under wins settings) c.timestamp (at m).timestamp)) (seen u h) ((ok.holds i inside).copies u).settled x v (rw (view-is u h) k));
    acked = λ u v h k x. reaches u h v k (record_of i (g.at u)).written (subst (λ (c : Copy Cell). ((m : ℕ) → Has c.acks m → NotAfter (under wins settings) c.written (at m).timestamp)) (seen u h) ((ok.holds i inside).copies u).acked v x);
    mine = λ u h x. subst (λ (c : Copy Cell). (c.coordinates ≡ true → c.written ≡ c.timestamp)) (seen u h) ((ok.holds i inside).copies u).mine x;
    writers = λ u v h k w. stands u v (subst (λ (x : ℕ). Stands (setting wins settings issued) x (record_of i (g.at u)).timestamp (at x)) w
        (subst (λ (c : Copy Cell). Stands (setting wins settings issued) c.writer c.timestamp (at c.writer)) (seen u h) ((ok.stands i inside).writers u))) (seen v k);
  }
    where
      stands : (u v : ℕ) → Stands (setting wins settings issued) v (record_of i (g.at u)).timestamp (at v) → at v ≡ copy i (g.at v)
          → Behind (under wins settings) v (record_of i (g.at v)) (record_of i (g.at u)).timestamp
      stands u v (past z) q = inl (subst (λ (c : Copy Cell). later (under wins settings) c.timestamp (record_of i (g.at u)).timestamp ≡ true) q z)
      stands u v (holds t w z) q = inr (
        subst (λ (c : Copy Cell). c.timestamp ≡ (record_of i (g.at u)).timestamp) q t,
        subst (λ (c : Copy Cell). c.writer ≡ v) q w,
        subst (λ (c : Copy Cell). (c.valid ≡ true) ⊎ (c.coordinates ≡ true)) q z,
      )

  -- ---- the driver's list, and the text

  -- m is somebody in the view; the greatest timestamp is that of the first who holds it
  module _ (m : ℕ) (hm : Has set m) where
    abbrev t : Top task g 16
    t = top task inside ord g m hm 16

    abbrev M : Timestamp
    M = (record_of i (g.at t.who)).timestamp

    most : (u : ℕ) → Has set u → NotAfter (under wins settings) (record_of i (g.at u)).timestamp M
    most u h = t.most u (has-small set u h) h

    settles : (entries : List Entry) → Achieves task inside ord g outset M t.who t.seen refl most entries → Settled wins settings set i g entries
    settles entries w = record {
      few = omega (arith, w.few);
      help = w.plays.help;
      holder = t.who;
      held = t.seen;
      greatest = most;
      shown = λ u h. ((w.plays.then u h).0, record { timestamps = (w.plays.then u h).1; lengths = ap (λ (c : Cell). c.len) (cell u h); bytes = ap (λ (c : Cell). c.bytes) (cell u h) });
    }
      where
        end : Group
        end = run wins g entries

        theirs : Entries member issued entries
        theirs = are-entries wins member issued set i (next_number g) (λ u h. (gathered u h).0) g entries w.plays.help

        ok2 : Ok wins settings ord member count issued end
        ok2 = run_ok wins settings ord member count issued g ok entries theirs

        last : ℕ → Copy Cell
        last = copies wins settings ord member count issued i end

        copy-end : (u : ℕ) → Has set u → last u ≡ copy i (end.at u)
        copy-end u h = copies-member wins settings ord member count issued i end u (gathered u h).0

        -- the text of M at the end is the text of M at the outset
        cell : (u : ℕ) → Has set u → (copy i (end.at u)).cell ≡ (copy i (g.at t.who)).cell
        cell u h =
            sym (ap (λ (c : Copy Cell). c.cell) (copy-end u h)) ∙ (b u).entered ∙ ap (ok2.holds i inside).book (stamp u h ∙ sym (stamp t.who t.seen)) ∙ sym (b t.who).entered
            ∙ run-cells wins settings ord member count issued g ok entries theirs i t.who (stamp t.who t.seen ∙ sym (ap (λ (c : Copy Cell). c.timestamp) (seen t.who t.seen)))
            ∙ ap (λ (c : Copy Cell). c.cell) (seen t.who t.seen)
          where
            b : (u : ℕ) → Booked (setting wins settings issued) (λ m. (last m).timestamp) (ok2.holds i inside).book (last u).timestamp (last u).cell
            b u = ((ok2.holds i inside).copies u).booked

            stamp : (u : ℕ) → Has set u → (last u).timestamp ≡ M
            stamp u h = ap (λ (c : Copy Cell). c.timestamp) (copy-end u h) ∙ (w.plays.then u h).1

    settled-by-recipe : Settled wins settings set i g (recipe (under wins settings) set i g)
    settled-by-recipe = settles (recipe (under wins settings) set i g) (by-recipe task inside ord g outset M t.who t.seen refl most)

    settled-by-driver : (d : ℕ) → (goes_on (under wins settings) set i g d || (says_again (under wins settings) set i g d || takes_over (under wins settings) set i g d)) ≡ true → Settled wins settings set i g (drive (under wins settings) set i g d (record_of i (g.at d)).state)
    settled-by-driver d h = settles (drive (under wins settings) set i g d (record_of i (g.at d)).state) (by-driver task inside ord g outset M t.who t.seen refl most d h)

-- ---- the theorems

-- the list is the recipe
pub recipe-settles : RecipeSettles
recipe-settles wins ord member count issued settings g s before c i e m inside hm gathered =
    settled-by-recipe wins settings (ord settings.rule) member count issued (run wins g before)
    (run_ok wins settings (ord settings.rule) member count issued g (start-ok wins settings (ord settings.rule) member count issued g s) before c)
    (stay-sound wins member count issued settings g s before c) i e inside gathered m hm

-- or any other driver's
pub any-driver-settles : AnyDriverSettles
any-driver-settles wins ord member count issued settings g s before c i e m inside hm gathered =
    settled-by-driver wins settings (ord settings.rule) member count issued (run wins g before)
    (run_ok wins settings (ord settings.rule) member count issued g (start-ok wins settings (ord settings.rule) member count issued g s) before c)
    (stay-sound wins member count issued settings g s before c) i e inside gathered m hm

-- over every strict total order of ties
pub settling-by : SettlingAny
settling-by wins ord member count issued settings g s before c i e m inside hm gathered =
    (recipe (under wins settings) (issued e) i (run wins g before), recipe-settles wins ord member count issued settings g s before c i e m inside hm gathered)

-- Wish 3
pub settling : Settling
settling = settling-by ties ties-order
