-- The commands of a script (01, "A line is `read`, `validate`, `replay` or `resend` with a laptop, or `write` with laptop and text, or ..").
use Rattle.std.specs.Prelude.{ℕ, ◌+◌, Bool, cond, ◌&&◌, List, length, take, drop, ltb, leb, codes, Option, None, Some}
use Rattle.play_numbers.specs.Number.{word_number}
use Rattle.play_words.specs.Words.{same, keyword_of}
use Rattle.play_words.specs.declared.command.Command.{Command}
use Rattle.play_words.specs.declared.command.Command.TheVariants as command
use Rattle.play_script.specs.Seek.{index_of}
use Rattle.play_script.specs.declared.line.Entry.{Entry}
use Rattle.play_words.specs.declared.command.Keyword.{Keyword}
use Rattle.play_words.specs.declared.command.Keyword.TheVariants.{Bare, Write, Deliver, View}

-- ---- 01, "One space parts the words"

-- there is a space
abbrev pub spaced : List ℕ → Bool
spaced s = ltb (index_of 32 s) (length s)

-- what stands before the first space, and behind it
abbrev pub word_of : List ℕ → List ℕ
word_of s = take (index_of 32 s) s

abbrev pub rest_of : List ℕ → List ℕ
rest_of s = drop (index_of 32 s + 1) s

-- ---- what stands behind the laptop

-- 01, `deliver 1 0`: the log number
abbrev pub deliver_of : Option ℕ → Option Command
deliver_of (Some k) = Some (command.Deliver k)
deliver_of None = None

-- 01, `view 1 2 3`: the epoch and the set
abbrev pub view_of : Option ℕ → Option ℕ → Option Command
view_of (Some epoch) (Some set) = Some (command.View epoch set)
view_of (Some epoch) None = None
view_of None set = None

-- 01, "`deliver 1 0` hands message 0 to laptop 1; `view 1 2 3` gives laptop 1 epoch 2 and the set of value 3";
-- a log number is below 256, an epoch fits 32 bits, a set 16. Any text is a text.
unfoldable pub operands_of : Keyword → List ℕ → Option Command
operands_of (Bare c) s = None
operands_of Write s = Some command.Write
operands_of Deliver s = deliver_of (word_number 256 s)
operands_of View s = cond (spaced s) (view_of (word_number 4294967296 (word_of s)) (word_number 65536 (rest_of s))) None

-- ---- the whole line

-- a laptop's number and what it does; an unknown line where either is wrong
abbrev pub entry_of : Option ℕ → Option Command → Option Entry
entry_of (Some n) (Some c) = Some (record { laptop = n; command = c })
entry_of (Some n) None = None
entry_of None o = None

-- a laptop's number, which is below 16, and operands
unfoldable pub longer_of : Keyword → List ℕ → Option Entry
longer_of k s = cond (spaced s) (entry_of (word_number 16 (word_of s)) (operands_of k (rest_of s))) None

-- what stands behind the first word
unfoldable pub arguments_of : Option Keyword → List ℕ → Option Entry
arguments_of (Some (Bare c)) s = entry_of (word_number 16 s) (Some c)
arguments_of (Some Write) s = longer_of Write s
arguments_of (Some Deliver) s = longer_of Deliver s
arguments_of (Some View) s = longer_of View s
arguments_of None s = None

-- 01, a line: a word, a laptop, and what the word asks for, one space between
unfoldable pub line_of : List ℕ → Option Entry
line_of s = cond (spaced s) (arguments_of (keyword_of (word_of s)) (rest_of s)) None

-- 01, "the text is the rest of the line after its space, perhaps empty": what stands behind the second space
unfoldable pub text_of : List ℕ → List ℕ
text_of s = rest_of (rest_of s)

-- ---- line one

abbrev pub size_in : Option ℕ → Option ℕ
size_in (Some n) = cond (leb 2 n) (Some n) None
size_in None = None

-- 01, "Line one is `group` and 2 to 4"
unfoldable pub size_of : List ℕ → Option ℕ
size_of s = cond (spaced s && same (word_of s) (codes "group")) (size_in (word_number 5 (rest_of s))) None
