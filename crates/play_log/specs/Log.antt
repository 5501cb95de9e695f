-- The log that the code holds, read as the log of the run: for each message who sent it, its epoch, the message and its body.
use Rattle.std.specs.Prelude.{ℕ, ◌≡◌, Bool, false, cond, ◌&&◌, List, [], ◌∷◌, ◌++◌, take, map, length, ltb, leb, Option, None, Some}
use Rattle.hermes.specs.declared.message.Header.{Header}
use Rattle.hermes.specs.declared.message.Message.{Message}
use Rattle.hermes.specs.Run.{Logged}
use Rattle.play_log.specs.declared.memory.Envelope.{Envelope}
use Rattle.play_log.specs.declared.memory.Log.{Log}

-- a message as it leaves record 0
abbrev pub logged_as : Message → Header → List ℕ → Logged
logged_as m h body = record { header = record { sender = h.sender; epoch = h.epoch; index = 0 }; message = m; body = body }

-- a message out of its slot
abbrev pub logged_of : Envelope → Logged
logged_of e = record { header = record { sender = e.sender; epoch = e.epoch; index = 0 }; message = e.message; body = take e.len e.bytes }

-- the messages that left, oldest first
unfoldable pub log_of : Log → List Logged
log_of l = map logged_of (take l.sent l.slots)

-- message n, with a body of so many bytes, has its place
abbrev pub has_place : ℕ → ℕ → Bool
has_place n len = ltb n 256 && leb len 192

-- what appending a message comes to, by whether it has its place: its log number, and the log
pub record Appended (place : Bool) (l : Log) (x : Logged) (r : Option ℕ) (l' : Log) : Type 0 where
  pub number : r ≡ cond place (Some (length (log_of l))) None
  pub log : log_of l' ≡ cond place (log_of l ++ (x ∷ [])) (log_of l)
  pub kept : place ≡ false → l' ≡ l
