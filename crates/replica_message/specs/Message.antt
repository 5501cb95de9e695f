-- The questions of every message.
use Rattle.std.specs.Prelude.{ℕ, List, [], ◌∷◌}
use Rattle.hermes.specs.declared.message.Received.{Received}
use Rattle.hermes.specs.declared.event.Replica.{Replica}
use Rattle.hermes.specs.Guards.{Question, question10, question11, question12}

-- 01, Deliver: 10, 11 and 12, of every kind; n is the number of value bytes
abbrev pub of_message : Replica → Received → ℕ → List Question
of_message me m n = question10 me m ∷ question11 me m ∷ question12 m n ∷ []
