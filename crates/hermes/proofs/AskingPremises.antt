-- The premises of Wish 5's claim can be met, and two commits on one timestamp compute.
use Prim.Native.Nat.{ℕ}
use mathlib.Core.Path.{◌≡◌, refl, sym}
use mathlib.Core.List.{[], ◌∷◌}
use lib.ListN.{take, drop, take-append-drop}
use Rattle.hermes_record.specs.Members.{has, size, lowest, within, others_in, with}
use Rattle.hermes_record.specs.Order.{ties, later, same_timestamp}
use Rattle.hermes.specs.Settings.{old_settings}
use Rattle.hermes.specs.Store.{padded, place}
use Rattle.hermes.specs.Event.{refusal, effect, read_part, ask_stamp, ask_hands}
use Rattle.hermes.specs.Node.{start, apply}
use Rattle.hermes.specs.Run.{read, ask, commit, by, run, result, advance}
use Rattle.hermes.specs.Agreement.{Entries, after}
use Rattle.hermes.specs.Asking.{Still, HandsOut, reads, asks, Opened}
use Rattle.hermes.specs.Played.{three, issued, group, answers, numbers_of, stamp}
use Rattle.hermes.specs.AskingWitness.{on_one_stamp, together, held_after, b1, up_to, behind, AsksThen, point, AskingWitness}
use Rattle.hermes.proofs.Premises.{started}
use Rattle.hermes.proofs.Asking.{asking}

together-entries : Entries three issued together
together-entries =
    (refl, tt, (refl, tt, (refl, tt, (refl, tt, (refl, tt, (refl, tt, (refl, tt, (refl, tt, (refl, tt, (refl, tt, (refl, tt, second)))))))))))
  where
    second : Entries three issued (drop 11 together)
    second = (refl, tt, (refl, tt, (refl, tt, (refl, tt, (refl, tt, (refl, tt, (refl, tt, (refl, tt, (refl, tt, (refl, tt, (refl, tt, tt)))))))))))

opened : Opened ties old_settings group together
opened = asking three 1 issued old_settings group started together together-entries

together-numbers : answers group together ≡ numbers_of on_one_stamp
unfolding result advance apply effect refusal start has size lowest within others_in with padded place later same_timestamp
together-numbers = refl

stands : (held_after 15 0 ≡ b1) × (held_after 15 1 ≡ b1) × (held_after 15 2 ≡ b1)
unfolding result advance apply effect refusal start has size lowest within others_in with padded place later same_timestamp
stands = (refl, refl, refl)

saves : AsksThen 18 2 0 (stamp 1 1) (66 ∷ 49 ∷ []) (by 0 (commit 0 (stamp 1 1) (67 ∷ 50 ∷ []))) 0
unfolding result advance apply effect refusal ask_stamp ask_hands read_part start has size lowest within others_in with padded place later same_timestamp
saves = record { apart = record { rest = []; split = refl; one = refl }; hands = asks refl refl refl; answers = refl }

late : AsksThen 2 12 2 (stamp 0 0) [] (by 2 (commit 0 (stamp 0 0) (67 ∷ []))) 26
unfolding result advance apply effect refusal ask_stamp ask_hands read_part start has size lowest within others_in with padded place later same_timestamp
late = record { apart = record { rest = drop 16 together; split = refl; one = refl }; hands = asks refl refl refl; answers = refl }

again : AsksThen 0 17 0 (stamp 0 0) [] (by 0 (ask 0)) 0
unfolding result advance apply effect refusal ask_stamp ask_hands read_part start has size lowest within others_in with padded place later same_timestamp
again = record { apart = record { rest = drop 19 together; split = refl; one = refl }; hands = asks refl refl refl; answers = refl }

rereads : HandsOut ties (run ties group (up_to 20)) (by 0 (read 0)) 0 (stamp 1 1) (66 ∷ 49 ∷ [])
unfolding result advance apply effect refusal ask_stamp ask_hands read_part start has size lowest within others_in with padded place later same_timestamp
rereads = reads refl refl refl refl

-- 0's ask and its commit
kept : (m : ℕ) → Still 0 (stamp 1 1) (point m) (after ties group (up_to 18) 0)
unfolding result advance apply effect refusal ask_stamp ask_hands read_part start has size lowest within others_in with padded place later same_timestamp
kept m = opened.kept 0 (up_to 18) (behind 18 2) (by 0 (ask 0)) (by 0 (commit 0 (stamp 1 1) (67 ∷ 50 ∷ []))) saves.apart (stamp 1 1) (66 ∷ 49 ∷ []) (67 ∷ 50 ∷ [])
    saves.hands refl saves.answers (take m (behind 18 2)) (drop m (behind 18 2)) (sym (take-append-drop m (behind 18 2)))

calm : {A : Type 0} → A → ⊥ → ⊥
calm a n = n

pub asking-witness : AskingWitness
unfolding result advance apply effect refusal ask_stamp ask_hands read_part start has size lowest within others_in with padded place later same_timestamp
asking-witness = record {
  entries = together-entries;
  numbers = together-numbers;
  stands = stands;
  saves = saves;
  stamp_kept = λ m. (kept m).timestamp;
  shown = λ m. (kept m).shows;
  bytes_kept = λ m. (kept m).alike;
  late = late;
  newer = opened.newer 0 (up_to 2) (behind 2 12) (by 2 (ask 0)) (by 2 (commit 0 (stamp 0 0) (67 ∷ []))) late.apart (stamp 0 0) [] (67 ∷ []) late.hands refl late.answers;
  again = again;
  forward = (opened.forward 0 [] (behind 0 17) (by 0 (ask 0)) (by 0 (ask 0)) again.apart (stamp 0 0) (stamp 1 1) [] (66 ∷ 49 ∷ []) again.hands saves.hands).0;
  rereads = rereads;
  one_text = λ text x. sym ((opened.forward 0 (up_to 18) (behind 18 1) (by 0 (ask 0)) (by 0 (read 0)) (record { rest = drop 21 together; split = refl; one = refl }) (stamp 1 1) (stamp 1 1) (66 ∷ 49 ∷ []) text saves.hands x).1 refl);
  quiet = λ k. (calm, (calm, (calm, (calm, (calm, (calm, (calm, (calm, (calm, (calm, (calm, (calm, (calm, (calm, (calm, (calm, (calm, (calm, (calm, (calm, (calm, (calm, tt))))))))))))))))))))));
}
