-- A message as seven words, and several of them: kind, sender, epoch, record, version, tie-breaker, length of its body.
use Rattle.std.specs.Prelude.{ℕ, zero, suc, ◌+◌, ◌/◌, ◌%◌, Bool, true, false, cond, not, ◌&&◌, List, [], ◌∷◌, ltb, leb, eqb, length, get_or}
use Rattle.hermes.specs.declared.message.Message.TheVariants.{Val}
use Rattle.hermes.specs.Kind.{known}
use Rattle.packet_format.specs.declared.entry.Entry.{Entry}
use Rattle.packet_format.specs.declared.entry.Fields.{Fields}
use Rattle.packet_format.specs.Answer.{Written}
use Rattle.packet_format.specs.Entry.{entry_of}
use Rattle.packet_format.specs.Writing.{packet_written}

-- ---- one message

-- what words that are no message stand for: a sender above 15, so that question 24 refuses it
abbrev pub unfit : Entry
unfit = record { header = record { sender = 255; epoch = 0; index = 0 }; message = Val (record { version = 0; tie = 0 }); len = 0 }

-- a kind that there is not, or a word beyond its field's width
abbrev pub or_unfit : Bool → Entry → Entry
or_unfit true e = unfit
or_unfit false e = e

-- the message that fields stand for, each of them a word; a body's offset is none of them
unfoldable pub entry_in : Fields → Entry
entry_in f =
    or_unfit (not (known f.kind))
    (or_unfit (ltb 255 f.sender) (or_unfit (ltb 255 f.tie) (or_unfit (ltb 255 f.len) (entry_of f))))

-- ---- several messages

-- how many messages words hold; words that are not seven for each, or those of more than 64 messages, hold none, so that question 24 refuses them
abbrev pub count_in : ℕ → ℕ
count_in n = cond (eqb (n % 7) 0 && leb (n / 7) 64) (n / 7) 0

-- the seven words at a place as fields, of a message whose body begins at `offset`
abbrev pub fields_at : List ℕ → ℕ → ℕ → Fields
fields_at words at offset = record {
  kind = get_or words at 0;
  sender = get_or words (at + 1) 0;
  epoch = get_or words (at + 2) 0;
  index = get_or words (at + 3) 0;
  version = get_or words (at + 4) 0;
  tie = get_or words (at + 5) 0;
  offset = offset;
  len = get_or words (at + 6) 0;
}

-- the message of the seven words at a place
abbrev pub entry_at : List ℕ → ℕ → Entry
entry_at words at = entry_in (fields_at words at 0)

-- n messages from a place on
abbrev pub entries_from : ℕ → ℕ → List ℕ → List Entry
entries_from zero at words = []
entries_from (suc n) at words = entry_at words at ∷ entries_from n (at + 7) words

-- the messages that words hold
unfoldable pub word_messages : List ℕ → List Entry
word_messages words = entries_from (count_in (length words)) 0 words

-- 01, "Writing takes messages and their bodies": what the writer answers to the messages that words hold
abbrev pub packed : List ℕ → List ℕ → ℕ → Written
packed words bodies room = packet_written (word_messages words) bodies room
