-- The log: what is found in it by a log number, and one message more.
use Rattle.std.proofs.Common.{◌≡◌, ℕ, zero, suc, ◌+◌, ◌<◌, ◌≤◌, List, [], ◌∷◌, ◌++◌, length, get_or, take, map, set, refl, arith}
use Rattle.std.proofs.lemmas.List.{length-map, length-take, map-append, take_more_set}
use Rattle.hermes.specs.Run.{Logged, missing, found, find}
use Rattle.play_log.specs.declared.memory.Envelope.{Envelope}
use Rattle.play_log.specs.declared.memory.Log.{Log}
use Rattle.play_log.specs.Log.{logged_of, log_of}

module _ (f : Envelope → Logged) where
  find-front : (es : List Envelope) (n k : ℕ) (d : Envelope) → k < n → n ≤ length es → find (map f (take n es)) k ≡ found (f (get_or es k d))
  find-front es zero k d h l = absurd (omega arith)
  find-front [] (suc n) k d h l = absurd (omega arith)
  find-front (e ∷ es) (suc n) zero d h l = refl
  find-front (e ∷ es) (suc n) (suc k) d h l = find-front es n k d (omega arith) (omega arith)

  find_past : (es : List Envelope) (n k : ℕ) → n ≤ k → find (map f (take n es)) k ≡ missing
  find_past es zero k h = refl
  find_past [] (suc n) k h = refl
  find_past (e ∷ es) (suc n) zero h = absurd (omega arith)
  find_past (e ∷ es) (suc n) (suc k) h = find_past es n k (omega arith)

module _ (l : Log) where
  pub found_at : (k : ℕ) (d : Envelope) → k < l.sent → l.sent ≤ length l.slots → find (log_of l) k ≡ found (logged_of (get_or l.slots k d))
  unfolding log_of
  found_at k d h s = find-front logged_of l.slots l.sent k d h s

  pub none_at : (k : ℕ) → l.sent ≤ k → find (log_of l) k ≡ missing
  unfolding log_of
  none_at k h = find_past logged_of l.slots l.sent k h

  pub length-log : l.sent ≤ length l.slots → length (log_of l) ≡ l.sent
  unfolding log_of
  length-log h = simp (length-map, length-take) (omega arith)

  -- one message more
  pub log_more : (l' : Log) (e : Envelope) → l.sent < length l.slots → l'.slots ≡ set l.slots l.sent e → l'.sent ≡ l.sent + 1
      → log_of l' ≡ log_of l ++ (logged_of e ∷ [])
  unfolding log_of
  log_more l' e h es en = rw (es, en, take_more_set l.slots l.sent e h, map-append)
