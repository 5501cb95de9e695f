-- The questions of an event that has one of its own: it is asked after the first five said yes.
use Rattle.std.proofs.Common.{ℕ, ◌≡◌, [], ◌∷◌, refl, sym, ◌∙◌}
use Rattle.std.specs.Prelude.{Ok, Err, MatchResult}
use Rattle.hermes_record.specs.declared.record.Record.{Record}
use Rattle.hermes.specs.declared.event.Replica.{Replica}
use Rattle.hermes.specs.Guards.{Question}
use Rattle.hermes.specs.Event.{common}
use Rattle.replica_asking.specs.Cascade.{Asked, asked}
use Rattle.replica_asking.proofs.Cascade.{then, stop}

module _ (me : Replica) (count bytes i : ℕ) (r : Record) (own : Record → Question) where
  -- b is its answer after a yes of the first five, and theirs after a no
  pub and_own : (b : Asked) → MatchResult (asked (common me count bytes i r []) r) (λ x. b ≡ asked (own x ∷ []) x) (λ e. b ≡ Err e)
      → b ≡ asked (common me count bytes i r (own r ∷ [])) r
  and_own b = go (asked (common me count bytes i r []) r) refl
    where
      go : (a : Asked) → a ≡ asked (common me count bytes i r []) r → MatchResult a (λ x. b ≡ asked (own x ∷ []) x) (λ e. b ≡ Err e)
          → b ≡ asked (common me count bytes i r (own r ∷ [])) r
      go (Ok x) every next = next ∙ sym (then (common me count bytes i r []) (λ z. own z ∷ []) r x (sym every))
      go (Err e) every next = next ∙ sym (stop (common me count bytes i r []) (own r ∷ []) r e (sym every))
