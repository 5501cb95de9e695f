-- The group that is played is a run of the fresh group's entries, each of a laptop of the group and with the view issued, so agreement holds of it.
use mathlib.Core.Path.{◌≡◌, refl, sym, ap, ◌∙◌}
use mathlib.Core.Bool.{Bool, true, false, cond}
use mathlib.Core.List.{List, [], ◌∷◌, ◌++◌}
use Prim.Native.Nat.{ℕ, zero, suc, ◌-◌, ◌^◌, ◌≤◌, ◌<◌}
use native.Mathlib.Omega.{arith}
use borrow.Author.Tests.{ltb-true}
use lib.Dec.{ltb}
use lib.ListN.{length, replicate}
use Rattle.hermes.specs.Answer.{Admission}
use Rattle.std.specs.Prelude.{Ok, Option, None, Some}
use Rattle.hermes_record.specs.Members.{has, size, lowest}
use Rattle.hermes_record.specs.Order.{ties}
use Rattle.hermes_record.specs.Record.{fresh_record}
use Rattle.hermes.specs.Event.{sent_by}
use Rattle.hermes.specs.Settings.{old_settings}
use Rattle.hermes.specs.Node.{newcomer, identity, start}
use Rattle.hermes.specs.Run.{Entry, Group, Result, nothing, event, result}
use Rattle.hermes.specs.Agreement.{Started, AsIssued, Entries}
use Rattle.hermes.proofs.Agreement.{run-append, agreement}
use Rattle.play_script.specs.Command.{line_of, text_of}
use Rattle.play_words.specs.declared.command.Command.{Command}
use Rattle.play_words.specs.declared.command.Command.TheVariants.{Read, Write, Replay, Deliver, Validate, Resend, View}
use Rattle.play_script.specs.declared.line.Entry.{Entry as Asked}
use Rattle.play_member.specs.Member.{start_in, fresh_in, has_room}
use Rattle.play_member.proofs.Members.{fresh-table}
use Rattle.play_game.specs.Play.{fresh_node, fresh_group, played, reply, unknown, action_of, entry_turn, turn_of, turn, after, entries_of}
use Rattle.play_game.specs.Agreed.{Issued, OfLine, OneViewEach, played_on, PlayedIsRun, PlayedAgrees}

-- ---- the run

pub played-is-run : PlayedIsRun
unfolding played_on entries_of
played-is-run n g [] = refl
played-is-run n g (s ∷ rest) = played-is-run n (after n g s) rest ∙ sym (run-append ties g (turn n g s).entries (entries_of n (after n g s) rest))

-- ---- the entries

as-issued : (issued : ℕ → ℕ) (c : Command) (t : List ℕ) → Issued issued c → AsIssued issued (action_of c t)
as-issued issued Read t h = tt
as-issued issued Write t h = tt
as-issued issued Replay t h = tt
as-issued issued (Deliver k) t h = tt
as-issued issued Validate t h = tt
as-issued issued Resend t h = tt
as-issued issued (View epoch set) t h = h

entries-append : (member : ℕ → Bool) (issued : ℕ → ℕ) (a b : List Entry) → Entries member issued a → Entries member issued b → Entries member issued (a ++ b)
entries-append member issued [] b p q = q
entries-append member issued (x ∷ a) b p q = (p.0, p.1, entries-append member issued a b p.2 q)

of-result : (n : ℕ) (issued : ℕ → ℕ) (sent : ℕ) (a : Entry) (r : Result) → ltb a.who n ≡ true → AsIssued issued a.what → Entries (λ k. ltb k n) issued (played sent a r)
of-result n issued sent a nothing e h = tt
of-result n issued sent a (event o) e h = go (has_room sent (sent_by o.answer))
  where
    go : (t : Bool) → Entries (λ k. ltb k n) issued (cond t (a ∷ []) [])
    go true = (e, h, tt)
    go false = tt

of_entry : (n : ℕ) (issued : ℕ → ℕ) (g : Group) (a : Entry) → AsIssued issued a.what → Entries (λ k. ltb k n) issued (entry_turn n g a).entries
unfolding entry_turn
of_entry n issued g a h = go (ltb a.who n) refl
  where
    go : (t : Bool) → ltb a.who n ≡ t
        → Entries (λ k. ltb k n) issued (cond t (record { entries = played (length g.log) a (result ties g a); text = reply (length g.log) (result ties g a) }) unknown).entries
    go true e = of-result n issued (length g.log) a (result ties g a) e h
    go false e = tt

of-line : (n : ℕ) (issued : ℕ → ℕ) (g : Group) (s : List ℕ) (l : Option Asked) → OfLine issued l → Entries (λ k. ltb k n) issued (turn_of n g s l).entries
of-line n issued g s (Some e) h = of_entry n issued g (record { who = e.laptop; what = action_of e.command (text_of s) }) (as-issued issued e.command (text_of s) h)
of-line n issued g s None h = tt

of-script : (n : ℕ) (issued : ℕ → ℕ) (g : Group) (ls : List (List ℕ)) → OneViewEach issued ls → Entries (λ k. ltb k n) issued (entries_of n g ls)
unfolding entries_of turn
of-script n issued g [] h = tt
of-script n issued g (s ∷ rest) h =
    entries-append (λ k. ltb k n) issued (turn n g s).entries (entries_of n (after n g s) rest) (of-line n issued g s (line_of s) h.0) (of-script n issued (after n g s) rest h.1)

-- ---- the fresh start of each laptop is accepted

pub fresh_start : (n k : ℕ) → 2 ≤ n → n ≤ 4 → k < n → (start_in (2 ^ n - 1) k).admission ≡ Ok (newcomer k (2 ^ n - 1) old_settings)
unfolding start has size lowest
fresh_start zero k l h e = absurd (omega arith)
fresh_start (suc zero) k l h e = absurd (omega arith)
fresh_start (suc (suc zero)) zero l h e = refl
fresh_start (suc (suc zero)) (suc zero) l h e = refl
fresh_start (suc (suc zero)) (suc (suc k)) l h e = absurd (omega arith)
fresh_start (suc (suc (suc zero))) zero l h e = refl
fresh_start (suc (suc (suc zero))) (suc zero) l h e = refl
fresh_start (suc (suc (suc zero))) (suc (suc zero)) l h e = refl
fresh_start (suc (suc (suc zero))) (suc (suc (suc k))) l h e = absurd (omega arith)
fresh_start (suc (suc (suc (suc zero)))) zero l h e = refl
fresh_start (suc (suc (suc (suc zero)))) (suc zero) l h e = refl
fresh_start (suc (suc (suc (suc zero)))) (suc (suc zero)) l h e = refl
fresh_start (suc (suc (suc (suc zero)))) (suc (suc (suc zero))) l h e = refl
fresh_start (suc (suc (suc (suc zero)))) (suc (suc (suc (suc k)))) l h e = absurd (omega arith)
fresh_start (suc (suc (suc (suc (suc n))))) k l h e = absurd (omega arith)

started : (n : ℕ) → 2 ≤ n → n ≤ 4 → (issued : ℕ → ℕ) → issued 0 ≡ 2 ^ n - 1 → Started (λ k. ltb k n) 1 issued old_settings (fresh_group n)
unfolding fresh_group fresh_node fresh_in
started n l h issued i = record {
  fresh = λ k e. record {
    table = fresh_record 0 ∷ [];
    store = replicate 192 0;
    records = refl;
    accepted =
        ap (λ (v : ℕ). (start_in v k).admission) i ∙ at k e ∙ ap (λ (x : Admission). Ok (identity x (newcomer k (2 ^ n - 1) old_settings))) (sym (at k e));
    table_after = fresh-table (2 ^ n - 1) k ∙ ap (λ (v : ℕ). (start_in v k).table) (sym i);
    store_after = ap (λ (v : ℕ). (start_in v k).store) (sym i);
  };
  silent = refl;
}
  where
    at : (k : ℕ) → ltb k n ≡ true → (start_in (2 ^ n - 1) k).admission ≡ Ok (newcomer k (2 ^ n - 1) old_settings)
    at k e = fresh_start n k l h (ltb-true k n e)

pub played-agrees : PlayedAgrees
played-agrees n l h issued i ls v =
    agreement (λ k. ltb k n) 1 issued old_settings (fresh_group n) (started n l h issued i) (entries_of n (fresh_group n) ls) (of-script n issued (fresh_group n) ls v)
