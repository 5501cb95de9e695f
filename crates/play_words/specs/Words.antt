-- The words of a script (01, "A line is `read`, `validate`, `replay` or `resend` with a laptop, or `write` with laptop and text, or ..").
use Rattle.std.specs.Prelude.{ℕ, Bool, true, false, cond, ◌&&◌, List, [], ◌∷◌, eqb, codes, Option, None, Some}
use Rattle.play_words.specs.declared.command.Command.TheVariants as command
use Rattle.play_words.specs.declared.command.Keyword.{Keyword}
use Rattle.play_words.specs.declared.command.Keyword.TheVariants.{Bare, Write, Deliver, View}

-- a and b are the same bytes
unfoldable pub same : List ℕ → List ℕ → Bool
same [] [] = true
same [] (y ∷ ys) = false
same (x ∷ xs) [] = false
same (x ∷ xs) (y ∷ ys) = eqb x y && same xs ys

-- the command that a first word spells
unfoldable pub keyword_of : List ℕ → Option Keyword
keyword_of w =
    cond (same w (codes "read")) (Some (Bare command.Read))
    (cond (same w (codes "validate")) (Some (Bare command.Validate))
    (cond (same w (codes "replay")) (Some (Bare command.Replay))
    (cond (same w (codes "resend")) (Some (Bare command.Resend))
    (cond (same w (codes "write")) (Some Write)
    (cond (same w (codes "deliver")) (Some Deliver)
    (cond (same w (codes "view")) (Some View)
    None))))))
