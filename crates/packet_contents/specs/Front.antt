-- What stands in a packet before its bodies, of any words: also of those that question 24 refuses. It serves `put_front` alone.
use Rattle.std.specs.Prelude.{ℕ, zero, suc, ◌+◌, ◌%◌, cond, List, [], ◌∷◌, ◌++◌, length, get_or}
use Rattle.std.proofs.lemmas.List.Edits.{sets}
use Rattle.hermes_record.specs.declared.timestamp.Rule.{Rule}
use Rattle.hermes_record.specs.Order.{rule_number}
use Rattle.packet_format.specs.declared.entry.Fields.{Fields}
use Rattle.packet_format.specs.Bytes.{be}
use Rattle.packet_format.specs.Entry.{entry_bytes}
use Rattle.packet_format.specs.Reading.{entry_place}
use Rattle.packet_format.specs.Writing.{total_of, question25}
use Rattle.packet_words.specs.Words.{count_in, fields_at}

-- of each field the low bytes that an entry has room for
abbrev pub cut : Fields → Fields
cut f = record {
  kind = f.kind % 256;
  sender = f.sender % 256;
  epoch = f.epoch;
  index = f.index % 65536;
  version = f.version;
  tie = f.tie % 256;
  offset = f.offset % 65536;
  len = f.len % 256;
}

-- the contents table of n messages, whose words begin at w, and whose bodies at `at`
unfoldable pub table : ℕ → ℕ → ℕ → List ℕ → List ℕ
table zero w at words = []
table (suc n) w at words = entry_bytes (cut (fields_at words w at)) ++ table n (w + 7) (at + get_or words (w + 6) 0) words

-- byte 0, which is the number of the group's rule (02, Wish 6), the count, the total, the contents table
abbrev pub front : Rule → ℕ → List ℕ → List ℕ → List ℕ
front rule n words bodies = rule_number rule ∷ n ∷ be 2 (total_of n bodies) ++ table n 0 (entry_place n) words

-- the output with them, where question 25 says yes; else it is as it was
abbrev pub fronted : Rule → List ℕ → List ℕ → List ℕ → List ℕ
fronted rule words bodies out =
    cond (question25 (count_in (length words)) bodies (length out)).yes (sets out 0 (front rule (count_in (length words)) words bodies)) out
