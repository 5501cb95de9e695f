-- What question 24 answers to the messages' fields; it serves the writer alone.
use Rattle.std.specs.Prelude.{ℕ, min, ◌≡◌, true, false, cond, List, Option, Some, None}
use Rattle.packet_format.specs.declared.entry.Entry.{Entry}
use Rattle.packet_format.specs.declared.entry.Fields.{Fields}
use Rattle.packet_format.specs.Entry.{good}
use Rattle.packet_format.specs.Writing.{summed, all_good}

-- 01, question 24, "fields as in 22": the summed length of the bodies, or none
unfoldable pub asked : List Entry → Option ℕ
asked es = cond (all_good es) (Some (summed es)) None

-- fields that cross as bytes: a number that is no byte is 255, which is good in no field
abbrev pub clipped : Fields → Fields
clipped f = record {
  kind = min f.kind 255;
  sender = min f.sender 255;
  epoch = f.epoch;
  index = f.index;
  version = f.version;
  tie = min f.tie 255;
  offset = f.offset;
  len = min f.len 255;
}

-- the same of one message's fields
abbrev pub BodyOf : Fields → Option ℕ → Type 0
BodyOf f (Some n) = (good f ≡ true) × (n ≡ f.len)
BodyOf f None = good f ≡ false
