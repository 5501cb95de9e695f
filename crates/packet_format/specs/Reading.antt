-- Reading: questions 20 to 23 and 27, the message fetched and its body (01, "Reading fetches message i"; 02, Wish 6).
use Rattle.std.specs.Prelude.{ℕ, zero, suc, ◌+◌, ◌*◌, Bool, ◌&&◌, ◌||◌, List, [], ◌∷◌, ltb, leb, eqb, length, take, drop, get_or, Err, Ok}
use Rattle.hermes_record.specs.declared.timestamp.Rule.{Rule}
use Rattle.hermes_record.specs.Order.{rule_number}
use Rattle.hermes.specs.Guards.{Question, ask, first_no}
use Rattle.packet_format.specs.declared.entry.Entry.{Entry}
use Rattle.packet_format.specs.declared.entry.Fields.{Fields}
use Rattle.hermes.specs.Answer.{no}
use Rattle.packet_format.specs.Answer.{Fetched}
use Rattle.packet_format.specs.Bytes.{num, window}
use Rattle.packet_format.specs.Entry.{fields_of, entry_of, entries_of, good}

-- byte 0: the rule of ties of the group that wrote the packet, by its number (02, Wish 6)
abbrev pub rule_in : List ℕ → ℕ
rule_in p = get_or p 0 0

-- 01, "byte 1 the count of messages"
abbrev pub count_of : List ℕ → ℕ
count_of p = get_or p 1 0

-- where entry i begins; for the count, where the contents table ends and the first body begins
abbrev pub entry_place : ℕ → ℕ
entry_place i = 4 + 16 * i

-- the messages of a packet, and their bodies end to end
abbrev pub packet_messages : List ℕ → List Entry
packet_messages p = entries_of (count_of p) (drop 4 p)

abbrev pub bodies_in : List ℕ → List ℕ
bodies_in p = drop (entry_place (count_of p)) p

-- 20: at least 4 bytes, byte 0 is 1 or 2 (02, Wish 6), count 1 to 64, total equal to the bytes lent and at most 1,400?
abbrev pub question20 : List ℕ → Question
question20 p =
    ask 20 (leb 4 (length p) && (eqb (rule_in p) 1 || eqb (rule_in p) 2) && leb 1 (count_of p) && leb (count_of p) 64 && eqb (num (window p 2 2)) (length p) && leb (length p) 1400)

-- 02, Wish 6: "27 when byte 0 names the rule that the group does not have, just after 20"
abbrev pub question27 : Rule → List ℕ → Question
question27 rule p = ask 27 (eqb (rule_in p) (rule_number rule))

-- 21: contents table whole?
abbrev pub question21 : List ℕ → Question
question21 p = ask 21 (leb (entry_place (count_of p)) (length p))

-- n entries at the front of q are good, their bodies follow one another without gaps from `at`, and the last ends at the total
unfoldable pub walk : ℕ → List ℕ → ℕ → ℕ → Bool
walk zero q at total = eqb at total
walk (suc n) q at total =
    good (fields_of q) && eqb (fields_of q).offset at && walk n (drop 16 q) (at + (fields_of q).len) total

-- 22: every entry good, offsets as ruled, last body ending at the total?
abbrev pub question22 : List ℕ → Question
question22 p = ask 22 (walk (count_of p) (drop 4 p) (entry_place (count_of p)) (length p))

-- 23: i below the count?
abbrev pub question23 : List ℕ → ℕ → Question
question23 p i = ask 23 (ltb i (count_of p))

-- the number that a fetch answers in a group of this rule
unfoldable pub fetch_refusal : Rule → List ℕ → ℕ → ℕ
fetch_refusal rule p i = first_no (question20 p ∷ question27 rule p ∷ question21 p ∷ question22 p ∷ question23 p i ∷ [])

-- each case of an answer, by its number: 0 with the message and where its body begins, or the number of the question that said no
abbrev pub fetched_as : ℕ → Fields → Fetched
fetched_as zero f = Ok (entry_of f, f.offset)
fetched_as (suc k) f = Err (no (suc k))

-- message i of the packet p, in a group of this rule
unfoldable pub fetched : Rule → List ℕ → ℕ → Fetched
fetched rule p i = fetched_as (fetch_refusal rule p i) (fields_of (drop (entry_place i) p))

-- the number of an answer
abbrev pub fetched_number : Fetched → ℕ
fetched_number (Ok (e, at)) = 0
fetched_number (Err r) = r.0

-- 01, "The body is handed on as the part of the packet that begins at its offset. A refused fetch hands on the empty part."
abbrev pub body_of : List ℕ → Fetched → List ℕ
body_of p (Ok (e, at)) = take e.len (drop at p)
body_of p (Err r) = []
