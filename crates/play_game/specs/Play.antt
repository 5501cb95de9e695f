-- The playing program (01): a script is played on the run of a group that agreement is proved of.
use Rattle.std.specs.Prelude.{ℕ, ◌-◌, ◌^◌, cond, List, [], ◌∷◌, ◌++◌, length, ltb, Option, None, Some}
use Rattle.std.proofs.lemmas.List.Edits.{sets}
use Rattle.hermes.specs.Answer.{Outgoing}
use Rattle.hermes_record.specs.Order.{ties}
use Rattle.hermes.specs.Event.{number_of, sent_by}
use Rattle.hermes.specs.Node.{Node, record_of}
use Rattle.hermes.specs.Run.{Action, read, write, replay, deliver, validate, resend, view, Entry, Group, Result, nothing, event, result, run}
use Rattle.play_script.specs.Text.{lines}
use Rattle.play_script.specs.Command.{line_of, text_of, size_of}
use Rattle.play_words.specs.declared.command.Command.{Command}
use Rattle.play_words.specs.declared.command.Command.TheVariants as command
use Rattle.play_script.specs.declared.line.Entry.{Entry as Asked}
use Rattle.play_member.specs.Member.{node_of, fresh_in, has_room}
use Rattle.play_lines.specs.Print.{answer_line, unknown_line}
use Rattle.play_bounds.specs.Bounds.{playable}

-- ---- 01, "laptops from 0, all in the view, one record"

-- laptop k of n, as its fresh start leaves it
unfoldable pub fresh_node : ℕ → ℕ → Node
fresh_node n k = node_of (fresh_in (2 ^ n - 1) k)

unfoldable pub fresh_group : ℕ → Group
fresh_group n = record { at = fresh_node n; log = [] }

-- ---- one line

-- what a line does: the entry that it adds to the run, if any, and what it prints
pub record Turn : Type 0 where
  pub entries : List Entry
  pub text : List ℕ

-- 01, "prints `?` and does nothing"
abbrev pub unknown : Turn
unknown = record { entries = []; text = unknown_line }

-- 01, "log number of the message that left": they start at 0
abbrev pub log_number : ℕ → Outgoing → Option ℕ
log_number sent None = None
log_number sent (Some (m, h)) = Some sent

-- 01, "State and stamp are the named laptop's after the event"; an unknown log number, or an event whose message a full log cannot take, prints `?`
abbrev pub reply : ℕ → Result → List ℕ
reply sent nothing = unknown_line
reply sent (event o) =
    cond (has_room sent (sent_by o.answer))
    (answer_line (number_of o.answer) (record_of 0 o.node) (log_number sent (sent_by o.answer)))
    unknown_line

-- and does nothing; any other entry, accepted or refused, is one of the run
abbrev pub played : ℕ → Entry → Result → List Entry
played sent a nothing = []
played sent a (event o) = cond (has_room sent (sent_by o.answer)) (a ∷ []) []

-- a command as an event of the run, on the one record; t is the line's text
abbrev pub action_of : Command → List ℕ → Action
action_of command.Read t = read 0
action_of command.Write t = write 0 t
action_of command.Replay t = replay 0
action_of (command.Deliver k) t = deliver k
action_of command.Validate t = validate 0
action_of command.Resend t = resend 0
action_of (command.View epoch set) t = view epoch set

-- an entry of one of the n laptops
unfoldable pub entry_turn : ℕ → Group → Entry → Turn
entry_turn n g a =
    cond (ltb a.who n) (record { entries = played (length g.log) a (result ties g a); text = reply (length g.log) (result ties g a) }) unknown

abbrev pub turn_of : ℕ → Group → List ℕ → Option Asked → Turn
turn_of n g s (Some e) = entry_turn n g (record { who = e.laptop; what = action_of e.command (text_of s) })
turn_of n g s None = unknown

-- 01, "Each later line prints one line": the line s, played on the group g
unfoldable pub turn : ℕ → Group → List ℕ → Turn
turn n g s = turn_of n g s (line_of s)

-- ---- the script

-- the group after a line
abbrev pub after : ℕ → Group → List ℕ → Group
after n g s = run ties g (turn n g s).entries

-- what the lines after line one print
unfoldable pub prints : ℕ → Group → List (List ℕ) → List ℕ
prints n g [] = []
prints n g (s ∷ rest) = (turn n g s).text ++ prints n (after n g s) rest

-- the entries that they add to the run
unfoldable pub entries_of : ℕ → Group → List (List ℕ) → List Entry
entries_of n g [] = []
entries_of n g (s ∷ rest) = (turn n g s).entries ++ entries_of n (after n g s) rest

-- 01, "a wrong or missing line one prints `?` and ends"
abbrev pub begun : Option ℕ → List (List ℕ) → List ℕ
begun (Some n) rest = prints n (fresh_group n) rest
begun None rest = unknown_line

abbrev pub opened : List (List ℕ) → List ℕ
opened [] = unknown_line
opened (s ∷ rest) = begun (size_of s) rest

-- what a script prints
unfoldable pub printed : List ℕ → List ℕ
printed input = opened (lines input)

-- ---- the library

-- what `play` answers: how many bytes it printed, or a refusal where input or room are not as they must be
unfoldable pub played_answer : List ℕ → ℕ → Option ℕ
played_answer input room = cond (playable input room) (Some (length (printed input))) None

-- the output after it: what is printed, then the bytes that were there; refused, all as it was
unfoldable pub output_of : List ℕ → List ℕ → List ℕ
output_of input out = cond (playable input (length out)) (sets out 0 (printed input)) out
