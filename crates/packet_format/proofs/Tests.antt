-- What a branch tells of the answer that it asked for.
use mathlib.Core.Path.{◌≡◌, sym, ◌∙◌}
use mathlib.Core.Bool.{Bool, true, false, not}
use borrow.Author.Tests.{not-true, not-false}

-- a branch on `!r`, where r was answered for b
pub yes : {r b : Bool} → r ≡ b → not r ≡ false → b ≡ true
yes {r} e h = sym e ∙ not-false r h

pub no : {r b : Bool} → r ≡ b → not r ≡ true → b ≡ false
no {r} e h = sym e ∙ not-true r h
