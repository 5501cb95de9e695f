-- The premises of agreement can be met, by a group of three with one record each; document 01's played case computes, and so does a list with
-- every kind of entry.
use Prim.Native.Nat.{ℕ, zero, suc}
use mathlib.Core.Path.{◌≡◌, refl}
use mathlib.Core.Bool.{true}
use mathlib.Core.Logic.{inl}
use mathlib.Core.List.{[], ◌∷◌}
use native.Mathlib.Omega.{arith}
use lib.ListN.{replicate, take, drop}
use borrow.Author.Tests.{ltb-true}
use Rattle.std.specs.Prelude.{Ok}
use Rattle.hermes_record.specs.Members.{has, size, lowest, within, others_in, with}
use Rattle.hermes.specs.declared.event.Settings.{Settings}
use Rattle.hermes_record.specs.Order.{ties, later, same_timestamp}
use Rattle.hermes.specs.Settings.{old_settings}
use Rattle.hermes.specs.Store.{padded, place}
use Rattle.hermes.specs.Event.{refusal, effect}
use Rattle.hermes.specs.Node.{newcomer, start, apply, view, viewed}
use Rattle.hermes.specs.Run as run
use Rattle.hermes.specs.Run.{Action, result, advance}
use Rattle.hermes.specs.Agreement.{Started, Entries, Agreement, validates, acknowledges}
use Rattle.hermes.specs.Played.{three, issued, lent_table, group_with, group, played, answers, struck_off, story}
use Rattle.hermes.specs.Witness.{kind, BothWays, left_out, Witness}
use Rattle.hermes.specs.Overtaken.{Turn, shown, finishes, resends, takes_over, awaits}
use Rattle.hermes_record.proofs.Order.{ties-order}
use Rattle.hermes.proofs.Members.{others-every}
use Rattle.hermes.proofs.Agreement.{agreement}
use Rattle.hermes.proofs.Overtaken.{given-up, nobody-hangs}

admitted : (settings : Settings) (k : ℕ) → three k ≡ true → (start k 7 settings lent_table (replicate 192 0)).admission ≡ Ok (newcomer k 7 settings)
unfolding start has size
admitted settings zero e = refl
admitted settings (suc zero) e = refl
admitted settings (suc (suc zero)) e = refl
admitted settings (suc (suc (suc k))) e = absurd (omega (arith, ltb-true (suc (suc (suc k))) 3 e))

-- under each rule
pub started_with : (settings : Settings) → Started three 1 issued settings (group_with settings)
started_with settings = record {
  fresh = λ k e. record { table = lent_table; store = replicate 192 0; records = refl; accepted = admitted settings k e; table_after = refl; store_after = refl };
  silent = refl;
}

abbrev pub started : Started three 1 issued old_settings group
started = started_with old_settings

-- the sixth line, validate, is refused by 15: the last ACK before it has validated (02, Wish 1)
pub played-answers : answers group played ≡ 0 ∷ 0 ∷ 0 ∷ 0 ∷ 0 ∷ 15 ∷ 0 ∷ 0 ∷ 6 ∷ []
unfolding result advance apply effect refusal start has size lowest within others_in with padded place later same_timestamp
played-answers = refl

pub played-agree : Agreement ties three 1 old_settings group played
played-agree = agreement three 1 issued old_settings group started played
    ((refl, tt, (refl, tt, (refl, tt, (refl, tt, (refl, tt, (refl, tt, (refl, tt, (refl, tt, (refl, tt, tt))))))))))

-- ---- every kind of entry

-- views as issued, and nothing asked of any other entry
pub story-entries : Entries three issued story
story-entries =
    (refl, tt, (refl, tt, (refl, tt, (refl, tt, (refl, tt, (refl, tt, (refl, tt, (refl, tt, (refl, tt, (refl, tt, second))))))))))
  where
    fourth : Entries three issued (drop 30 story)
    fourth = (refl, tt, (refl, tt, (refl, refl, (refl, tt, (refl, tt, (refl, tt, (refl, tt, (refl, tt, (refl, tt, (refl, tt, (refl, tt, (refl, tt, tt))))))))))))

    third : Entries three issued (drop 20 story)
    third = (refl, tt, (refl, refl, (refl, tt, (refl, tt, (refl, tt, (refl, tt, (refl, tt, (refl, tt, (refl, tt, (refl, tt, fourth))))))))))

    second : Entries three issued (drop 10 story)
    second = (refl, tt, (refl, tt, (refl, tt, (refl, tt, (refl, tt, (refl, tt, (refl, tt, (refl, refl, (refl, refl, (refl, tt, third))))))))))

every-kind : (a : Action) → BothWays (kind a) struck_off
every-kind (run.read i) = (refl, refl)
every-kind (run.ask i) = (refl, refl)
every-kind (run.write i v) = (refl, refl)
every-kind (run.commit i t v) = (refl, refl)
every-kind (run.replay i) = (refl, refl)
every-kind (run.deliver k) = (refl, refl)
every-kind (run.validate i) = (refl, refl)
every-kind (run.resend i) = (refl, refl)
every-kind (run.view epoch set) = (refl, refl)

-- 2 is not in its own view, and is itself the last writer
no-turn : Turn ties left_out 0 → ⊥
unfolding result advance apply effect refusal start has size lowest within others_in with padded place later same_timestamp view viewed
no-turn (shown e) = omega (arith, e)
no-turn (finishes e m) = omega (arith, e)
no-turn (resends r e m) = omega (arith, e)
no-turn (takes_over e m) = omega (arith, e)
no-turn (awaits h d) = d refl

-- an entry that is no view
calm : {A : Type 0} → A → ⊥ → ⊥
calm a n = n

pub witness : Witness
unfolding result advance apply effect refusal start has size lowest within others_in with padded place later same_timestamp view viewed
witness = record {
  started = started;
  entries = story-entries;
  agreed = agreement three 1 issued old_settings group started story story-entries;
  numbers = refl;
  kinds = every-kind;
  left = omega arith;
  lost = refl;
  repeated = refl;
  late = refl;
  gone = refl;
  screens = record { members = (refl, refl); apart = λ e. omega arith; sees = refl; seen = refl; shows = refl; shown = refl };
  struck = record { members = (refl, refl); apart = λ e. omega arith; split = refl; validation = validates refl refl; sees = refl; shown = refl };
  replay = record { members = (refl, refl); apart = λ e. omega arith; split = refl; validation = acknowledges 10 _ _ refl refl refl refl refl refl; sees = refl; shown = refl };
  save = record { members = (refl, refl); apart = λ e. omega arith; split = refl; validation = acknowledges 14 _ _ refl refl refl refl refl refl; sees = refl; shown = refl };
  quiet0 =
      (calm, (calm, (calm, (calm, (calm, (calm, (calm, (calm, (calm, (calm, (calm, (calm, (calm, (calm, (calm, (calm, (calm, (λ e v. omega arith, (λ e v. omega arith, (calm, (calm, tt)))))))))))))))))))));
  quiet1 =
      (calm, (calm, (calm, (calm, (calm, (calm, (calm, (calm, (calm, (calm, (calm, (calm, (calm, (calm, (calm, (calm, (calm, tt)))))))))))))))));
  vain = (inl refl, others-every 1 3 1 refl);
  overtaken = record {
    member = refl;
    split = refl;
    given = record { invalid_write = refl; accepted = refl };
    save = refl;
    past = given-up ties ties-order three 1 issued old_settings group started (take 24 story) 0 0 (omega arith) refl (record { invalid_write = refl; accepted = refl }) (drop 25 story);
  };
  turns = λ k m v. nobody-hangs ties three 1 issued old_settings group started story story-entries 0 k (omega arith) m v;
  stuck = no-turn;
  first = record { timestamp = refl; text = refl };
  second = record { timestamp = refl; text = refl };
}
