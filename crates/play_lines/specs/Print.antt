-- The line of an answer (01, "Each later line prints one line: answer, state letter, version, tie-breaker, log number of the message that left or `-`"), and the line `?`.
use Rattle.std.specs.Prelude.{ℕ, ◌+◌, ◌≡◌, cond, List, [], ◌∷◌, ◌++◌, leb, length, Option, None, Some}
use Rattle.std.proofs.lemmas.List.Edits.{sets}
use Rattle.play_numbers.specs.Number.{decimal}
use Rattle.play_lines.specs.declared.print.Printer.{Printer}
use Rattle.hermes_record.specs.declared.record.Record.{Record}
use Rattle.hermes_record.specs.declared.record.State.{State}
use Rattle.hermes_record.specs.declared.record.State.TheVariants.{Valid, Invalid, InvalidWrite, Write, Replay}

-- 01, "state letter (V, I, X for invalid-write, W, R for replay)"
abbrev pub letter_of : State → ℕ
letter_of Valid = 86
letter_of Invalid = 73
letter_of InvalidWrite = 88
letter_of Write = 87
letter_of Replay = 82

-- the log number, or `-`
abbrev pub left_of : Option ℕ → List ℕ
left_of (Some k) = decimal k
left_of None = 45 ∷ []

-- the words, a space between two, and a line feed
unfoldable pub answer_line : ℕ → Record → Option ℕ → List ℕ
answer_line number r left =
    (decimal number ++ (32 ∷ [])) ++ ((letter_of r.state ∷ 32 ∷ []) ++ ((decimal r.timestamp.version ++ (32 ∷ []))
    ++ ((decimal r.timestamp.tie ++ (32 ∷ [])) ++ (left_of left ++ (10 ∷ [])))))

-- 01, "prints `?`"
abbrev pub unknown_line : List ℕ
unknown_line = 63 ∷ 10 ∷ []

-- what is printed of a line into an output of length n, from `at` on: the line where so many bytes have room there, otherwise nothing
abbrev pub fitting : ℕ → ℕ → ℕ → List ℕ → List ℕ
fitting need at n line = cond (leb (at + need) n) line []

-- the bytes stand in the output from `at` on, which was `out` and is `out'`; `to` is the index after them
pub record Put (bytes : List ℕ) (at : ℕ) (out : List ℕ) (to : ℕ) (out' : List ℕ) : Type 0 where
  pub end : to ≡ at + length bytes
  pub text : out' ≡ sets out at bytes

-- a printer that printed the bytes, into the same output
pub record Prints (bytes : List ℕ) (p p' : Printer) : Type 0 where
  pub put : Put bytes p.at p.out.now p'.at p'.out.now
  pub same : p'.out.ghost_name ≡ p.out.ghost_name
