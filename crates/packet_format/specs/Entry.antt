-- An entry of the contents table: its 16 bytes, its fields, and the message that they stand for (01, "Packets").
use Rattle.std.specs.Prelude.{ℕ, zero, suc, Bool, ◌&&◌, ◌||◌, List, [], ◌∷◌, ◌++◌, leb, eqb, drop, get_or}
use Rattle.hermes.specs.declared.message.Message.TheVariants.{Inv}
use Rattle.hermes.specs.Kind.{inv, kind_of, timestamp_of, known, message_of}
use Rattle.packet_format.specs.declared.entry.Entry.{Entry}
use Rattle.packet_format.specs.declared.entry.Fields.{Fields}
use Rattle.packet_format.specs.Bytes.{be, num, window}

-- 01, "16 bytes per message": the fields of the 16 bytes at the front of q
abbrev pub fields_of : List ℕ → Fields
fields_of q = record {
  kind = get_or q 0 0;
  sender = get_or q 1 0;
  epoch = num (window q 2 4);
  index = num (window q 6 2);
  version = num (window q 8 4);
  tie = get_or q 12 0;
  offset = num (window q 13 2);
  len = get_or q 15 0;
}

-- the same 16 bytes from their fields
unfoldable pub entry_bytes : Fields → List ℕ
entry_bytes f =
    f.kind ∷ f.sender ∷ be 4 f.epoch ++ be 2 f.index ++ be 4 f.version ++ f.tie ∷ be 2 f.offset ++ f.len ∷ []

-- the entry that fields stand for
abbrev pub entry_of : Fields → Entry
entry_of f = record {
  header = record { sender = f.sender; epoch = f.epoch; index = f.index };
  message = message_of f.kind (record { version = f.version; tie = f.tie });
  len = f.len;
}

-- the fields of an entry whose body begins at `at`
abbrev pub fields_for : Entry → ℕ → Fields
fields_for e at = record {
  kind = kind_of e.message;
  sender = e.header.sender;
  epoch = e.header.epoch;
  index = e.header.index;
  version = (timestamp_of e.message).version;
  tie = (timestamp_of e.message).tie;
  offset = at;
  len = e.len;
}

-- 01, question 22: length 0 unless INV
abbrev pub bodied : Fields → Bool
bodied f = eqb f.kind inv || eqb f.len 0

-- 01, question 22: kind known, sender and tie-breaker at most 15, record at most 4,095, length at most 192 and 0 unless INV
unfoldable pub good : Fields → Bool
good f = known f.kind && leb f.sender 15 && leb f.tie 15 && leb f.index 4095 && leb f.len 192 && bodied f

-- the first n messages of a contents table
unfoldable pub entries_of : ℕ → List ℕ → List Entry
entries_of zero q = []
entries_of (suc n) q = entry_of (fields_of q) ∷ entries_of n (drop 16 q)

-- no message: what stands past the end of a list of them
abbrev pub no_entry : Entry
no_entry = record {
  header = record { sender = 0; epoch = 0; index = 0 };
  message = Inv (record { version = 0; tie = 0 });
  len = 0;
}
