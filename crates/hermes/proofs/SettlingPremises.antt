-- The premises of settling can be met, and the recipe computes.
use Prim.Native.Nat.{ℕ, zero, suc, ◌+◌, ◌*◌, ◌≤◌}
use mathlib.Core.Path.{◌≡◌, refl, ap, subst}
use mathlib.Core.Bool.{true, not, ◌||◌, false≢true}
use mathlib.Core.Logic.{◌⊎◌, inl, inr}
use mathlib.Core.List.Memᴰ
use mathlib.Core.List.{List, [], ◌∷◌, Memᴰ}
use native.Mathlib.Omega.{arith}
use lib.ListN.{length, take, drop}
use borrow.Author.Tests.{ltb-true}
use Rattle.hermes_record.specs.Members.{has, size, lowest, within, others_in, with}
use Rattle.hermes_record.specs.declared.timestamp.Timestamp.{Timestamp}
use Rattle.hermes_record.specs.Order.{Orders, ties, later, same_timestamp, NotAfter, equal, rises}
use Rattle.hermes.specs.Settings.{under, old_settings}
use Rattle.hermes.specs.Store.{padded, place}
use Rattle.hermes.specs.Event.{refusal, effect}
use Rattle.hermes.specs.Node.{start, apply, view, viewed, record_of, value_of}
use Rattle.hermes.specs.Run as run
use Rattle.hermes.specs.Run.{Action, Entry, Group, Logged, result, advance, run, by}
use Rattle.hermes.specs.Agreement.{Entries, Shows, Alike, IsAccepted, after}
use Rattle.hermes.specs.Settling.{Helps, Gathered, AllHelp, Settled}
use Rattle.hermes.specs.Recipe.{first, each, leads, all_show, goes_on, says_again, takes_over, driver, drive, recipe}
use Rattle.hermes.specs.Played.{three, issued, group, story}
use Rattle.hermes.specs.SettlingWitness.{lost_val, lost_val_recipe, half_told, half_told_recipe, dead_winner, dead_winner_recipe, dead_winner_by_other, lost_save, lost_save_recipe, half_heard, half_heard_recipe, vain_save, vain_save_recipe, Computed, Brings, Only, SettlingWitness}
use Rattle.hermes_record.proofs.Order.{ties-order}
use Rattle.hermes_record.proofs.Tests.{implied}
use Rattle.hermes.proofs.Members.{all-at, has-small}
use Rattle.hermes.proofs.Agreement.{entries-append}
use Rattle.hermes.proofs.Settling.{recipe-settles, any-driver-settles}
use Rattle.hermes.proofs.Tight.{tight}
use Rattle.hermes.proofs.Premises.{started, story-entries}

-- what holds of 0, 1 and 2 holds of everybody in a view of these
in_three : (P : ℕ → Type 0) → P 0 → P 1 → P 2 → (m : ℕ) → three m ≡ true → P m
in_three P a b c zero h = a
in_three P a b c (suc zero) h = b
in_three P a b c (suc (suc zero)) h = c
in_three P a b c (suc (suc (suc m))) h = absurd (omega (arith, ltb-true (suc (suc (suc m))) 3 h))

view-in-three : (e m : ℕ) → has (issued e) m ≡ true → three m ≡ true
unfolding has
view-in-three zero m h = implied (has 7 m) (three m) (all-at 16 (λ (x : ℕ). not (has 7 x) || three x) refl m (has-small 7 m h)) h
view-in-three (suc e) m h = implied (has 3 m) (three m) (all-at 16 (λ (x : ℕ). not (has 3 x) || three x) refl m (has-small 3 m h)) h

pub in-view : (P : ℕ → Type 0) → (e : ℕ) → P 0 → P 1 → (has (issued e) 2 ≡ true → P 2) → (m : ℕ) → has (issued e) m ≡ true → P m
in-view P e a b c m h = in_three (λ m. has (issued e) m ≡ true → P m) (λ h. a) (λ h. b) c m (view-in-three e m h) h

-- nothing else is done
helps-only : (set i old : ℕ) (log : List Logged) (a : Entry) → has set a.who ≡ true → Helps i old log a.what → Only set i old a
helps-only set i old log a h = go a.what refl
  where
    go : (w : Action) → a.what ≡ w → Helps i old log w → Only set i old a
    go (run.read j) e p = absurd p
    go (run.ask j) e p = absurd p
    go (run.write j v) e p = absurd p
    go (run.commit j t v) e p = absurd p
    go (run.replay j) e p = (h, inl (rw (e, p)))
    go (run.deliver k) e p = (h, inr (inr (inr (k, e, p.0))))
    go (run.validate j) e p = (h, inr (inl (rw (e, p))))
    go (run.resend j) e p = (h, inr (inr (inl (rw (e, p)))))
    go (run.view epoch set) e p = absurd p

only-these : (wins : Orders) (set i old : ℕ) (g : Group) (entries : List Entry) → AllHelp wins set i old g entries → (a : Entry) → Memᴰ a entries → Only set i old a
only-these wins set i old g [] p a m = absurd (Memᴰ.not-nil m)
only-these wins set i old g (x ∷ rest) (h, k, c, p) a m = go (Memᴰ.cases_cons m) (only-these wins set i old (advance wins g x) rest p a)
  where
    go : (a ≡ x) ⊎ Memᴰ a rest → (Memᴰ a rest → Only set i old a) → Only set i old a
    go (inl e) later = rw e (helps-only set i old g.log x h k)
    go (inr t) later = later t

-- ---- the cases

-- laptop m is at epoch e, and after the list it shows that text
abbrev Ends : (before : List Entry) (e : ℕ) (list : List Entry) (text : List ℕ) → ℕ → Type 0
Ends before e list text m =
    (((run ties group before).at m).me.epoch ≡ e) × Shows (after ties (run ties group before) list m) 0 × (value_of 0 (after ties (run ties group before) list m) ≡ text)

computed : (before : List Entry) (e : ℕ) (list : List Entry) (text : List ℕ) → recipe (under ties old_settings) (issued e) 0 (run ties group before) ≡ list
    → Ends before e list text 0 → Ends before e list text 1 → (has (issued e) 2 ≡ true → Ends before e list text 2) → Computed before e list text
computed before e list text g a b c = record { gathered = λ m h. (view-in-three e m h, (ends m h).0); gives = g; shown = λ m h. ((ends m h).1, (ends m h).2) }
  where
    ends : (m : ℕ) → has (issued e) m ≡ true → Ends before e list text m
    ends = in-view (Ends before e list text) e a b c

lost : Computed lost_val 0 lost_val_recipe (66 ∷ 50 ∷ [])
unfolding result advance apply effect refusal start has size lowest within others_in with padded place later same_timestamp view viewed first each leads all_show driver recipe
lost = computed lost_val 0 lost_val_recipe (66 ∷ 50 ∷ []) refl (refl, refl, refl) (refl, refl, refl) (λ h. (refl, refl, refl))

dead : Computed dead_winner 1 dead_winner_recipe (66 ∷ 50 ∷ [])
unfolding result advance apply effect refusal start has size lowest within others_in with padded place later same_timestamp view viewed first each leads all_show driver recipe
dead = computed dead_winner 1 dead_winner_recipe (66 ∷ 50 ∷ []) refl (refl, refl, refl) (refl, refl, refl) (λ h. absurd (false≢true h))

unheard : Computed lost_save 0 lost_save_recipe (65 ∷ 48 ∷ [])
unfolding result advance apply effect refusal start has size lowest within others_in with padded place later same_timestamp view viewed first each leads all_show driver recipe
unheard = computed lost_save 0 lost_save_recipe (65 ∷ 48 ∷ []) refl (refl, refl, refl) (refl, refl, refl) (λ h. (refl, refl, refl))

vain : Computed vain_save 1 vain_save_recipe (67 ∷ 49 ∷ [])
unfolding result advance apply effect refusal start has size lowest within others_in with padded place later same_timestamp view viewed first each leads all_show driver recipe
vain = computed vain_save 1 vain_save_recipe (67 ∷ 49 ∷ []) refl (refl, refl, refl) (refl, refl, refl) (λ h. absurd (false≢true h))

fresh : Computed [] 0 [] []
unfolding result advance apply effect refusal start has size lowest within others_in with padded place later same_timestamp view viewed first each leads all_show driver recipe
fresh = computed [] 0 [] [] refl (refl, refl, refl) (refl, refl, refl) (λ h. (refl, refl, refl))

told : Computed half_told 0 half_told_recipe (66 ∷ 50 ∷ [])
unfolding result advance apply effect refusal start has size lowest within others_in with padded place later same_timestamp view viewed first each leads all_show driver recipe
told = computed half_told 0 half_told_recipe (66 ∷ 50 ∷ []) refl (refl, refl, refl) (refl, refl, refl) (λ h. (refl, refl, refl))

heard : Computed half_heard 0 half_heard_recipe (65 ∷ 48 ∷ [])
unfolding result advance apply effect refusal start has size lowest within others_in with padded place later same_timestamp view viewed first each leads all_show driver recipe
heard = computed half_heard 0 half_heard_recipe (65 ∷ 48 ∷ []) refl (refl, refl, refl) (refl, refl, refl) (λ h. (refl, refl, refl))

-- 1's last save of `struck_off`
met : Gathered three issued 1 (run ties group (take 36 story))
unfolding result advance apply effect refusal start has size lowest within others_in with padded place later same_timestamp view viewed
met = in-view (λ m. (three m ≡ true) × (((run ties group (take 36 story)).at m).me.epoch ≡ 1)) 1 (refl, refl) (refl, refl) (λ h. absurd (false≢true h))

-- 0 is in both views
pub zero_in : (e : ℕ) → has (issued e) 0 ≡ true
unfolding has
zero_in zero = refl
zero_in (suc e) = refl

-- the group as it has started, and its first save
started-here : Gathered three issued 0 group
started-here = in-view (λ m. (three m ≡ true) × ((group.at m).me.epoch ≡ 0)) 0 (refl, refl) (refl, refl) (λ h. (refl, refl))

accepted : IsAccepted (result ties group (by 0 (run.write 0 (65 ∷ 48 ∷ []))))
unfolding result advance apply effect refusal start has size lowest within others_in with padded place later same_timestamp view viewed
accepted = refl

nine : 3 * size (issued 0) ≡ 9
nine = unfold size has in refl

no-fewer : (entries : List Entry) → AllHelp ties (issued 0) 0 (length (run ties group lost_save).log) (run ties group lost_save) entries
    → ((m : ℕ) → has (issued 0) m ≡ true → Shows (after ties (run ties group lost_save) entries m) 0) → length lost_save_recipe ≤ length entries
no-fewer entries h shown = count (tight ties ties-order three 1 issued old_settings group started started-here 0 0 (65 ∷ 48 ∷ []) (omega arith) (zero_in 0) accepted entries h shown) nine
  where
    count : {a n : ℕ} → a ≤ n + 2 → a ≡ 9 → 7 ≤ n
    count l e = omega (arith, l, e)

-- 0 alone holds the greatest timestamp
only_zero : (h : ℕ) → has (issued 0) h ≡ true
    → ((m : ℕ) → has (issued 0) m ≡ true → NotAfter (under ties old_settings) (record_of 0 ((run ties group lost_save).at m)).timestamp (record_of 0 ((run ties group lost_save).at h)).timestamp) → h ≡ 0
unfolding result advance apply effect refusal start has size lowest within others_in with padded place later same_timestamp view viewed
only_zero = in-view (λ h. ((m : ℕ) → has (issued 0) m ≡ true → NotAfter (under ties old_settings) (record_of 0 ((run ties group lost_save).at m)).timestamp (record_of 0 ((run ties group lost_save).at h)).timestamp) → h ≡ 0) 0
    (λ f. refl) (λ f. absurd (behind (f 0 refl))) (λ h f. absurd (behind (f 0 refl)))
  where
    behind : NotAfter (under ties old_settings) (record { version = 1; tie = 0 }) (record { version = 0; tie = 0 }) → ⊥
    behind (equal e) = omega (arith, ap (λ (t : Timestamp). t.version) e)
    behind (rises g) = false≢true g

claims : (entries : List Entry) → Settled ties old_settings (issued 0) 0 (run ties group lost_save) entries
    → (m : ℕ) → has (issued 0) m ≡ true → Shows (after ties (run ties group lost_save) entries m) 0 × Alike 0 (after ties (run ties group lost_save) entries m) ((run ties group lost_save).at 0)
claims entries s m h = ((s.shown m h).0, subst (λ (x : ℕ). Alike 0 (after ties (run ties group lost_save) entries m) ((run ties group lost_save).at x)) (only_zero s.holder s.held s.greatest) (s.shown m h).1)

-- the theorem at a list that is computed
brings : {before : List Entry} {e : ℕ} {list : List Entry} {text : List ℕ} → Entries three issued before → Computed before e list text → Brings before e list text
brings {before} {e} {list} c x = record {
  entries = c;
  computed = x;
  settled = subst (Settled ties old_settings (issued e) 0 (run ties group before)) x.gives (recipe-settles ties ties-order three 1 issued old_settings group started before c 0 e 0 (omega arith) (zero_in e) x.gathered);
}

-- 1 takes the dead winner's save over
by-other : drive (under ties old_settings) (issued 1) 0 (run ties group dead_winner) 1 (record_of 0 ((run ties group dead_winner).at 1)).state ≡ dead_winner_by_other
unfolding result advance apply effect refusal start has size lowest within others_in with padded place later same_timestamp view viewed first each leads all_show driver recipe
by-other = refl

may-drive : (goes_on (under ties old_settings) (issued 1) 0 (run ties group dead_winner) 1 || (says_again (under ties old_settings) (issued 1) 0 (run ties group dead_winner) 1 || takes_over (under ties old_settings) (issued 1) 0 (run ties group dead_winner) 1)) ≡ true
unfolding result advance apply effect refusal start has size lowest within others_in with padded place later same_timestamp view viewed first each leads all_show driver recipe
may-drive = refl

dead-entries : Entries three issued dead_winner
dead-entries = (refl, tt, (refl, tt, (refl, tt, (refl, tt, (refl, tt, (refl, tt, (refl, refl, (refl, refl, tt))))))))

pub settling-witness : SettlingWitness
settling-witness = record {
  lost = brings (refl, tt, (refl, tt, (refl, tt, (refl, tt, (refl, tt, (refl, tt, tt)))))) lost;
  dead = brings dead-entries dead;
  unheard = brings (refl, tt, tt) unheard;
  vain = brings (refl, tt, (refl, tt, (refl, tt, (refl, refl, (refl, refl, tt))))) vain;
  fresh = brings tt fresh;
  told = brings (refl, tt, (refl, tt, (refl, tt, (refl, tt, (refl, tt, (refl, tt, (refl, tt, tt))))))) told;
  heard = brings (refl, tt, (refl, tt, (refl, tt, tt))) heard;
  other = (by-other, subst (Settled ties old_settings (issued 1) 0 (run ties group dead_winner)) by-other (any-driver-settles ties ties-order three 1 issued old_settings group started dead_winner dead-entries 0 1 0 (omega arith) (zero_in 1) dead.gathered 1 may-drive));
  reached_by_two = unfold size has in refl;
  reached_by_three = unfold size has in refl;
  no_fewer = no-fewer;
  claims = claims;
  met = (met, recipe-settles ties ties-order three 1 issued old_settings group started (take 36 story) (entries-append three issued (take 36 story) (drop 36 story) story-entries).0 0 1 0 (omega arith) (zero_in 1) met);
  only = only-these;
}
