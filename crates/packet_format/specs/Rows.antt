-- The rows about packets: document 01's own, "From the ringing table"; and the number that each of questions 20 to 25 and 27 answers, with both sides
-- of every limit in it and the order in which they are asked; Wish 4's, of a packet accepted and its messages taken; Wish 6's, of both rules.
use Rattle.std.specs.Prelude.{ℕ, zero, suc, ◌+◌, ◌/◌, ◌%◌, ◌≡◌, List, [], ◌∷◌, ◌++◌, replicate, Ok}
use Rattle.hermes_record.specs.declared.timestamp.Rule.{Rule}
use Rattle.hermes_record.specs.declared.timestamp.Rule.TheVariants.{Higher, Lower}
use Rattle.hermes.specs.declared.message.Message.{Message}
use Rattle.hermes.specs.declared.message.Message.TheVariants.{Inv, Ack, Val}
use Rattle.packet_format.specs.declared.entry.Entry.{Entry}
use Rattle.packet_format.specs.Reading.{entry_place, fetched, fetched_number}
use Rattle.packet_format.specs.Accepting.{accepted, taken, taken_number}
use Rattle.packet_format.specs.Writing.{packet_bytes, packet_written, written_number}

pub data Row : Type 0 where
  -- the group's rule, a message, its body, and the bytes of its packet
  packs : Rule → Entry → List ℕ → List ℕ → Row
  -- in a group of this rule message i of a packet is fetched; the number answered
  fetches : Rule → List ℕ → ℕ → ℕ → Row
  -- in a group of this rule a packet is looked at as a whole; the number answered and the count
  accepts : Rule → List ℕ → ℕ → ℕ → Row
  -- message i of a packet is taken by the facts of this number and count; the number answered
  takes : List ℕ → ℕ → ℕ → ℕ → ℕ → Row
  -- these messages are written, with these bodies, into so many bytes of output; the number answered
  writes : List Entry → List ℕ → ℕ → ℕ → Row

-- what a row says
abbrev pub Holds : Row → Type 0
Holds (packs rule e body p) = (packet_bytes rule (e ∷ []) body ≡ p) × (fetched rule p 0 ≡ Ok (e, entry_place 1))
Holds (fetches rule p i k) = fetched_number (fetched rule p i) ≡ k
Holds (accepts rule p k count) = ((accepted rule p).number ≡ k) × ((accepted rule p).count ≡ count)
Holds (takes p number count i k) = taken_number (taken p (record { number = number; count = count }) i) ≡ k
Holds (writes es bodies room k) = written_number (packet_written es bodies room) ≡ k

-- ---- messages and packets; none of this uses the rules that the rows are about

-- a message from this sender about this record, with so long a body
abbrev message : ℕ → ℕ → Message → ℕ → Entry
message sender index m len = record { header = record { sender = sender; epoch = 0; index = index }; message = m; len = len }

abbrev inv : ℕ → Message
inv tie = Inv (record { version = 1; tie = tie })

abbrev ack : ℕ → Message
ack tie = Ack (record { version = 1; tie = tie })

abbrev val : ℕ → Message
val tie = Val (record { version = 1; tie = tie })

-- so many bytes of a body
abbrev body : ℕ → List ℕ
body n = replicate n 65

-- a packet with this byte 0 that claims this count and this total
abbrev begun : ℕ → ℕ → ℕ → List ℕ → List ℕ
begun first count total rest = first ∷ count ∷ total / 256 ∷ total % 256 ∷ rest

-- one of a group of document 01's rule
abbrev packet : ℕ → ℕ → List ℕ → List ℕ
packet count total rest = begun 1 count total rest

-- an entry of 16 bytes: kind, sender, record, tie-breaker, offset and length; its epoch is 0 and its version 1
abbrev entry : ℕ → ℕ → ℕ → ℕ → ℕ → ℕ → List ℕ → List ℕ
entry kind sender index tie offset len rest =
    kind ∷ sender ∷ 0 ∷ 0 ∷ 0 ∷ 0 ∷ index / 256 ∷ index % 256 ∷ 0 ∷ 0 ∷ 0 ∷ 1 ∷ tie ∷ offset / 256 ∷ offset % 256 ∷ len ∷ rest

-- a packet of one such message, 20 bytes and its body; the body in it is n bytes long
abbrev single : ℕ → ℕ → ℕ → ℕ → ℕ → ℕ → ℕ → List ℕ
single kind sender index tie offset len n = packet 1 (20 + n) (entry kind sender index tie offset len (body n))

-- entries of n ACKs whose bodies would begin at `at`
abbrev acks : ℕ → ℕ → List ℕ
acks zero at = []
acks (suc n) at = entry 2 5 7 2 at 0 (acks n at)

-- seven INVs with six bodies of 192 bytes and one of n: 1,268 bytes and n
abbrev seven : ℕ → List ℕ
seven n =
    packet 7 (1268 + n)
    (entry 1 5 7 2 116 192 (entry 1 5 7 2 308 192 (entry 1 5 7 2 500 192 (entry 1 5 7 2 692 192 (entry 1 5 7 2 884 192 (entry 1 5 7 2 1076 192 (entry 1 5 7 2 1268 n (body (1152 + n)))))))))

-- the same seven to be written
abbrev seven_of : ℕ → List Entry
seven_of n = replicate 6 (message 5 7 (inv 2) 192) ++ message 5 7 (inv 2) n ∷ []

-- two entries over 5 bytes of bodies: an INV of 3 bytes, and one of this kind, offset and length
abbrev pair : ℕ → ℕ → ℕ → List ℕ
pair kind offset len = packet 2 41 (entry 1 5 7 2 36 3 (entry kind 5 7 2 offset len (body 5)))

-- ---- the rows

unfoldable pub rows : List Row
rows =
    -- ACK of (1,2) for record 7 from 5 at epoch 0 is packet 1,1,0,20,2,5,0,0,0,0,0,7,0,0,0,1,2,0,20,0
    packs Higher (record { header = record { sender = 5; epoch = 0; index = 7 }; message = Ack (record { version = 1; tie = 2 }); len = 0 }) []
    (1 ∷ 1 ∷ 0 ∷ 20 ∷ 2 ∷ 5 ∷ 0 ∷ 0 ∷ 0 ∷ 0 ∷ 0 ∷ 7 ∷ 0 ∷ 0 ∷ 0 ∷ 1 ∷ 2 ∷ 0 ∷ 20 ∷ 0 ∷ [])
    -- no rows of the paper: INV and VAL, every byte of a number another
    ∷ packs Higher (record { header = record { sender = 15; epoch = 168496141; index = 258 }; message = Inv (record { version = 16909060; tie = 14 }); len = 3 }) (97 ∷ 98 ∷ 99 ∷ [])
    (1 ∷ 1 ∷ 0 ∷ 23 ∷ 1 ∷ 15 ∷ 10 ∷ 11 ∷ 12 ∷ 13 ∷ 1 ∷ 2 ∷ 1 ∷ 2 ∷ 3 ∷ 4 ∷ 14 ∷ 0 ∷ 20 ∷ 3 ∷ 97 ∷ 98 ∷ 99 ∷ [])
    ∷ packs Higher (record { header = record { sender = 5; epoch = 168496141; index = 258 }; message = Val (record { version = 16909060; tie = 2 }); len = 0 }) []
    (1 ∷ 1 ∷ 0 ∷ 20 ∷ 3 ∷ 5 ∷ 10 ∷ 11 ∷ 12 ∷ 13 ∷ 1 ∷ 2 ∷ 1 ∷ 2 ∷ 3 ∷ 4 ∷ 2 ∷ 0 ∷ 20 ∷ 0 ∷ [])
    -- 02, Wish 6: the paper's own ACK, and the INV, of a group of the new rule
    ∷ packs Lower (record { header = record { sender = 5; epoch = 0; index = 7 }; message = Ack (record { version = 1; tie = 2 }); len = 0 }) []
    (2 ∷ 1 ∷ 0 ∷ 20 ∷ 2 ∷ 5 ∷ 0 ∷ 0 ∷ 0 ∷ 0 ∷ 0 ∷ 7 ∷ 0 ∷ 0 ∷ 0 ∷ 1 ∷ 2 ∷ 0 ∷ 20 ∷ 0 ∷ [])
    ∷ packs Lower (record { header = record { sender = 15; epoch = 168496141; index = 258 }; message = Inv (record { version = 16909060; tie = 14 }); len = 3 }) (97 ∷ 98 ∷ 99 ∷ [])
    (2 ∷ 1 ∷ 0 ∷ 23 ∷ 1 ∷ 15 ∷ 10 ∷ 11 ∷ 12 ∷ 13 ∷ 1 ∷ 2 ∷ 1 ∷ 2 ∷ 3 ∷ 4 ∷ 14 ∷ 0 ∷ 20 ∷ 3 ∷ 97 ∷ 98 ∷ 99 ∷ [])
    -- 20: at least 4 bytes, byte 0 is 1 or 2, count 1 to 64, total equal to the bytes lent and at most 1,400?
    ∷ fetches Higher [] 0 20
    ∷ fetches Higher (1 ∷ 1 ∷ 0 ∷ []) 0 20
    ∷ fetches Higher (1 ∷ 1 ∷ 0 ∷ 4 ∷ []) 0 21
    ∷ fetches Higher (begun 0 1 20 (acks 1 20)) 0 20
    ∷ fetches Higher (begun 3 1 20 (acks 1 20)) 0 20
    ∷ fetches Higher (begun 255 1 20 (acks 1 20)) 0 20
    ∷ fetches Lower (begun 0 1 20 (acks 1 20)) 0 20
    ∷ fetches Lower (begun 3 1 20 (acks 1 20)) 0 20
    ∷ fetches Lower (begun 255 1 20 (acks 1 20)) 0 20
    ∷ fetches Higher (packet 0 4 []) 0 20
    ∷ fetches Higher (packet 64 1028 (acks 64 1028)) 0 0
    ∷ fetches Higher (packet 65 1044 (acks 65 1044)) 0 20
    ∷ fetches Higher (packet 1 19 (acks 1 20)) 0 20
    ∷ fetches Higher (packet 1 21 (acks 1 20)) 0 20
    ∷ fetches Higher (seven 132) 0 0
    ∷ fetches Higher (seven 133) 0 20
    -- 02, Wish 6, 27: byte 0 names the group's rule?
    ∷ fetches Higher (begun 1 1 20 (acks 1 20)) 0 0
    ∷ fetches Higher (begun 2 1 20 (acks 1 20)) 0 27
    ∷ fetches Lower (begun 1 1 20 (acks 1 20)) 0 27
    ∷ fetches Lower (begun 2 1 20 (acks 1 20)) 0 0
    -- 21: contents table whole?
    ∷ fetches Higher (packet 2 36 (acks 2 36)) 0 0
    ∷ fetches Higher (packet 2 35 (acks 1 36 ++ (2 ∷ 5 ∷ 0 ∷ 0 ∷ 0 ∷ 0 ∷ 0 ∷ 7 ∷ 0 ∷ 0 ∷ 0 ∷ 1 ∷ 2 ∷ 0 ∷ 36 ∷ []))) 0 21
    -- 22: every entry good: kind known, ..
    ∷ fetches Higher (single 0 5 7 2 20 0 0) 0 22
    ∷ fetches Higher (single 1 5 7 2 20 0 0) 0 0
    ∷ fetches Higher (single 3 5 7 2 20 0 0) 0 0
    ∷ fetches Higher (single 4 5 7 2 20 0 0) 0 22
    -- .. sender and tie-breaker at most 15, record at most 4,095, ..
    ∷ fetches Higher (single 2 15 7 2 20 0 0) 0 0
    ∷ fetches Higher (single 2 16 7 2 20 0 0) 0 22
    ∷ fetches Higher (single 2 5 7 15 20 0 0) 0 0
    ∷ fetches Higher (single 2 5 7 16 20 0 0) 0 22
    ∷ fetches Higher (single 2 5 4095 2 20 0 0) 0 0
    ∷ fetches Higher (single 2 5 4096 2 20 0 0) 0 22
    -- .. length at most 192 and 0 unless INV, ..
    ∷ fetches Higher (single 1 5 7 2 20 192 192) 0 0
    ∷ fetches Higher (single 1 5 7 2 20 193 193) 0 22
    ∷ fetches Higher (single 1 5 7 2 20 1 1) 0 0
    ∷ fetches Higher (single 2 5 7 2 20 1 1) 0 22
    ∷ fetches Higher (single 3 5 7 2 20 1 1) 0 22
    -- .. offsets as ruled, last body ending at the total?
    ∷ fetches Higher (single 2 5 7 2 19 0 0) 0 22
    ∷ fetches Higher (single 2 5 7 2 21 0 0) 0 22
    ∷ fetches Higher (single 1 5 7 2 20 1 2) 0 22
    ∷ fetches Higher (single 1 5 7 2 20 2 1) 0 22
    ∷ fetches Higher (pair 1 39 2) 0 0
    ∷ fetches Higher (pair 1 39 2) 1 0
    ∷ fetches Higher (pair 1 38 2) 0 22
    ∷ fetches Higher (pair 1 40 2) 0 22
    ∷ fetches Higher (pair 1 39 1) 0 22
    ∷ fetches Higher (pair 1 39 3) 0 22
    ∷ fetches Higher (pair 4 39 2) 0 22
    -- 23: i below the count?
    ∷ fetches Higher (packet 1 20 (acks 1 20)) 1 23
    ∷ fetches Higher (pair 1 39 2) 2 23
    ∷ fetches Higher (packet 64 1028 (acks 64 1028)) 63 0
    ∷ fetches Higher (packet 64 1028 (acks 64 1028)) 64 23
    -- 02, Wish 4: a packet accepted, once for all of its messages; a refused one has none
    ∷ accepts Higher [] 20 0
    ∷ accepts Higher (packet 2 35 (acks 1 36 ++ (2 ∷ 5 ∷ 0 ∷ 0 ∷ 0 ∷ 0 ∷ 0 ∷ 7 ∷ 0 ∷ 0 ∷ 0 ∷ 1 ∷ 2 ∷ 0 ∷ 36 ∷ []))) 21 0
    ∷ accepts Higher (pair 4 39 2) 22 0
    ∷ accepts Higher (pair 1 39 1) 22 0
    ∷ accepts Higher (pair 1 39 2) 0 2
    ∷ accepts Higher (packet 64 1028 (acks 64 1028)) 0 64
    ∷ accepts Higher (begun 0 1 20 (acks 1 20)) 20 0
    ∷ accepts Higher (begun 2 1 20 (acks 1 20)) 27 0
    ∷ accepts Lower (begun 1 1 20 (acks 1 20)) 27 0
    ∷ accepts Lower (begun 2 1 20 (acks 1 20)) 0 1
    ∷ accepts Lower (begun 3 1 20 (acks 1 20)) 20 0
    -- its messages taken; a refused packet's number stands for all of them
    ∷ takes (pair 1 39 2) 0 2 0 0
    ∷ takes (pair 1 39 2) 0 2 1 0
    ∷ takes (pair 1 39 2) 0 2 2 23
    ∷ takes (pair 4 39 2) 22 0 0 22
    ∷ takes (begun 2 1 20 (acks 1 20)) 27 0 0 27
    -- by the facts of another: entry i within this packet, and its body; else the entry as it stands
    ∷ takes (pair 1 39 2) 20 0 0 20
    ∷ takes (packet 1 35 (entry 2 5 7 2 20 0 (body 15))) 0 2 1 21
    ∷ takes (packet 1 36 (entry 2 5 7 2 20 0 (body 16))) 0 2 1 22
    ∷ takes (single 1 5 7 2 20 3 2) 0 1 0 22
    ∷ takes (single 1 5 7 2 20 2 2) 0 1 0 0
    ∷ takes (single 9 16 7 16 19 2 2) 0 1 0 0
    ∷ takes (pair 1 39 2) 22 2 1 0
    -- 24: count 1 to 64, ..
    ∷ writes [] [] 20 24
    ∷ writes (message 5 7 (ack 2) 0 ∷ []) [] 20 0
    ∷ writes (replicate 64 (message 5 7 (ack 2) 0)) [] 1400 0
    ∷ writes (replicate 65 (message 5 7 (ack 2) 0)) [] 1400 24
    -- .. fields as in 22, ..
    ∷ writes (message 15 7 (ack 2) 0 ∷ []) [] 20 0
    ∷ writes (message 16 7 (ack 2) 0 ∷ []) [] 20 24
    ∷ writes (message 5 7 (ack 15) 0 ∷ []) [] 20 0
    ∷ writes (message 5 7 (ack 16) 0 ∷ []) [] 20 24
    ∷ writes (message 5 4095 (ack 2) 0 ∷ []) [] 20 0
    ∷ writes (message 5 4096 (ack 2) 0 ∷ []) [] 20 24
    ∷ writes (message 5 7 (inv 2) 192 ∷ []) (body 192) 1400 0
    ∷ writes (message 5 7 (inv 2) 193 ∷ []) (body 193) 1400 24
    ∷ writes (message 5 7 (inv 2) 1 ∷ []) (body 1) 1400 0
    ∷ writes (message 5 7 (ack 2) 1 ∷ []) (body 1) 1400 24
    ∷ writes (message 5 7 (val 2) 1 ∷ []) (body 1) 1400 24
    ∷ writes (message 5 7 (ack 2) 0 ∷ message 16 7 (ack 2) 0 ∷ []) [] 1400 24
    -- .. bodies of exactly the summed length?
    ∷ writes (message 5 7 (inv 2) 3 ∷ message 5 7 (inv 2) 2 ∷ []) (body 4) 1400 24
    ∷ writes (message 5 7 (inv 2) 3 ∷ message 5 7 (inv 2) 2 ∷ []) (body 5) 1400 0
    ∷ writes (message 5 7 (inv 2) 3 ∷ message 5 7 (inv 2) 2 ∷ []) (body 6) 1400 24
    -- 25: total at most 1,400 and within the lent output?
    ∷ writes (seven_of 132) (body 1284) 2000 0
    ∷ writes (seven_of 133) (body 1285) 2000 25
    ∷ writes (seven_of 132) (body 1284) 1400 0
    ∷ writes (seven_of 132) (body 1284) 1399 25
    ∷ writes (message 5 7 (ack 2) 0 ∷ []) [] 19 25
    -- where two questions say no, the first of them answers
    ∷ fetches Higher (begun 0 1 4 []) 0 20
    ∷ fetches Higher (begun 2 0 4 []) 0 20
    ∷ fetches Higher (begun 2 1 19 (acks 1 20)) 0 20
    ∷ fetches Lower (begun 1 65 1044 (acks 65 1044)) 0 20
    ∷ fetches Higher (begun 2 1 4 []) 0 27
    ∷ fetches Lower (begun 1 1 20 (entry 4 5 7 2 20 0 [])) 0 27
    ∷ fetches Higher (begun 2 1 20 (acks 1 20)) 1 27
    ∷ fetches Higher (packet 2 20 (entry 4 5 7 2 20 0 [])) 0 21
    ∷ fetches Higher (single 4 5 7 2 20 0 0) 1 22
    ∷ accepts Higher (begun 2 1 19 (acks 1 20)) 20 0
    ∷ accepts Lower (begun 1 1 4 []) 27 0
    ∷ accepts Higher (begun 2 1 20 (entry 4 5 7 2 20 0 [])) 27 0
    ∷ accepts Higher (packet 2 20 (entry 4 5 7 2 20 0 [])) 21 0
    ∷ writes [] [] 0 24
    ∷ []
