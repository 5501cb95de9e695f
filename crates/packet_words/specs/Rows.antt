-- The rows about words: question 24 where messages cross as words. A word can say a kind that there is not, and a number too wide for its field;
-- the rows of `packet_format` begin with messages, which cannot. And the packet that words make, in a group of each rule.
use Rattle.std.specs.Prelude.{ℕ, zero, suc, ◌+◌, ◌≡◌, List, [], ◌∷◌, length, replicate}
use Rattle.hermes_record.specs.declared.timestamp.Rule.{Rule}
use Rattle.hermes_record.specs.declared.timestamp.Rule.TheVariants.{Higher, Lower}
use Rattle.packet_format.specs.Writing.{written_number, output_of}
use Rattle.packet_words.specs.Words.{word_messages, packed}

pub data Row : Type 0 where
  -- these words are packed, with these bodies, into so many bytes of output; the number answered
  packs : List ℕ → List ℕ → ℕ → ℕ → Row
  -- a group of this rule packs these words, with these bodies, into this output; the output after it
  makes : Rule → List ℕ → List ℕ → List ℕ → List ℕ → Row

-- what a row says
abbrev pub Holds : Row → Type 0
Holds (packs words bodies room k) = written_number (packed words bodies room) ≡ k
Holds (makes rule words bodies out after) = output_of rule (packed words bodies (length out)) (word_messages words) bodies out ≡ after

-- ---- words; none of this uses the rules that the rows are about

-- so many bytes of bodies
abbrev body : ℕ → List ℕ
body n = replicate n 65

-- seven words, before others: kind, sender, record, tie-breaker and length; the epoch is 0 and the version 1
abbrev seven : ℕ → ℕ → ℕ → ℕ → ℕ → List ℕ → List ℕ
seven kind sender index tie len rest = kind ∷ sender ∷ 0 ∷ index ∷ 1 ∷ tie ∷ len ∷ rest

-- one message of these seven, with a body of its length
abbrev single : ℕ → ℕ → ℕ → ℕ → ℕ → ℕ → Row
single kind sender index tie len k = packs (seven kind sender index tie len []) (body len) 1400 k

-- the words of n ACKs, before others
abbrev acks : ℕ → List ℕ → List ℕ
acks zero rest = rest
acks (suc n) rest = seven 2 5 7 2 0 (acks n rest)

-- ---- the rows

unfoldable pub rows : List Row
rows =
    -- 24: count 1 to 64, seven words for each, ..
    packs [] [] 1400 24
    ∷ packs (2 ∷ 5 ∷ 0 ∷ 7 ∷ 1 ∷ 2 ∷ []) [] 1400 24
    ∷ packs (2 ∷ 5 ∷ 0 ∷ 7 ∷ 1 ∷ 2 ∷ 0 ∷ []) [] 1400 0
    ∷ packs (2 ∷ 5 ∷ 0 ∷ 7 ∷ 1 ∷ 2 ∷ 0 ∷ 0 ∷ []) [] 1400 24
    ∷ packs (acks 64 []) [] 1400 0
    ∷ packs (acks 65 []) [] 1400 24
    -- .. fields as in 22: kind known, ..
    ∷ single 0 5 7 2 0 24
    ∷ single 1 5 7 2 0 0
    ∷ single 2 5 7 2 0 0
    ∷ single 3 5 7 2 0 0
    ∷ single 4 5 7 2 0 24
    ∷ single (256 + 1) 5 7 2 0 24
    -- .. sender and tie-breaker at most 15, ..
    ∷ single 2 15 7 2 0 0
    ∷ single 2 16 7 2 0 24
    ∷ single 2 255 7 2 0 24
    ∷ single 2 256 7 2 0 24
    ∷ single 2 (256 + 15) 7 2 0 24
    ∷ single 2 5 7 15 0 0
    ∷ single 2 5 7 16 0 24
    ∷ single 2 5 7 256 0 24
    -- .. record at most 4,095, ..
    ∷ single 2 5 4095 2 0 0
    ∷ single 2 5 4096 2 0 24
    ∷ single 2 5 (65536 + 7) 2 0 24
    -- .. length at most 192 and 0 unless INV, ..
    ∷ single 1 5 7 2 192 0
    ∷ single 1 5 7 2 193 24
    ∷ single 1 5 7 2 256 24
    ∷ single 1 5 7 2 1 0
    ∷ single 2 5 7 2 1 24
    ∷ single 3 5 7 2 1 24
    -- .. of every message, bodies of exactly the summed length?
    ∷ packs (acks 2 (seven 4 5 7 2 0 [])) [] 1400 24
    ∷ packs (seven 4 5 7 2 0 (acks 2 [])) [] 1400 24
    ∷ packs (seven 1 5 7 2 256 []) [] 1400 24
    ∷ packs (seven 1 5 7 2 3 (seven 1 5 7 2 2 [])) (body 4) 1400 24
    ∷ packs (seven 1 5 7 2 3 (seven 1 5 7 2 2 [])) (body 5) 1400 0
    ∷ packs (seven 1 5 7 2 3 (seven 1 5 7 2 2 [])) (body 6) 1400 24
    -- 25: within the lent output? and 24 before it
    ∷ packs (acks 1 []) [] 20 0
    ∷ packs (acks 1 []) [] 19 25
    ∷ packs (seven 4 5 7 2 0 []) [] 19 24
    -- document 01's own ACK, of document 01's rule, and of the new one (02, Wish 6); output past the total is untouched
    ∷ makes Higher (2 ∷ 5 ∷ 0 ∷ 7 ∷ 1 ∷ 2 ∷ 0 ∷ []) [] (replicate 21 9)
    (1 ∷ 1 ∷ 0 ∷ 20 ∷ 2 ∷ 5 ∷ 0 ∷ 0 ∷ 0 ∷ 0 ∷ 0 ∷ 7 ∷ 0 ∷ 0 ∷ 0 ∷ 1 ∷ 2 ∷ 0 ∷ 20 ∷ 0 ∷ 9 ∷ [])
    ∷ makes Lower (2 ∷ 5 ∷ 0 ∷ 7 ∷ 1 ∷ 2 ∷ 0 ∷ []) [] (replicate 21 9)
    (2 ∷ 1 ∷ 0 ∷ 20 ∷ 2 ∷ 5 ∷ 0 ∷ 0 ∷ 0 ∷ 0 ∷ 0 ∷ 7 ∷ 0 ∷ 0 ∷ 0 ∷ 1 ∷ 2 ∷ 0 ∷ 20 ∷ 0 ∷ 9 ∷ [])
    -- an INV with its body, every byte of a number another; and a refused one, which leaves the output as it was
    ∷ makes Lower (1 ∷ 15 ∷ 168496141 ∷ 258 ∷ 16909060 ∷ 14 ∷ 3 ∷ []) (97 ∷ 98 ∷ 99 ∷ []) (replicate 23 9)
    (2 ∷ 1 ∷ 0 ∷ 23 ∷ 1 ∷ 15 ∷ 10 ∷ 11 ∷ 12 ∷ 13 ∷ 1 ∷ 2 ∷ 1 ∷ 2 ∷ 3 ∷ 4 ∷ 14 ∷ 0 ∷ 20 ∷ 3 ∷ 97 ∷ 98 ∷ 99 ∷ [])
    ∷ makes Lower (4 ∷ 5 ∷ 0 ∷ 7 ∷ 1 ∷ 2 ∷ 0 ∷ []) [] (9 ∷ 9 ∷ []) (9 ∷ 9 ∷ [])
    ∷ []
