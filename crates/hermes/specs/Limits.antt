-- The number that each of questions 1 to 19 answers, with both sides of every limit in it and the order in which they are asked.
-- The last number of a row is the answer.
use Rattle.std.specs.Prelude.{ℕ, ◌+◌, ◌*◌, ◌^◌, List, [], ◌∷◌, ◌++◌, map}
use Rattle.hermes_record.specs.declared.timestamp.Timestamp.{Timestamp}
use Rattle.hermes_record.specs.declared.record.Record.{Record}
use Rattle.hermes_record.specs.declared.record.State.{State}
use Rattle.hermes_record.specs.declared.record.State.TheVariants as state
use Rattle.hermes.specs.declared.message.Message.{Message}
use Rattle.hermes.specs.declared.message.Message.TheVariants.{Inv, Ack, Val}
use Rattle.hermes.specs.declared.event.Replica.{Replica}
use Rattle.hermes.specs.declared.event.Event.{Event}
use Rattle.hermes.specs.declared.event.Event.TheVariants.{Read, Ask, Write, Commit, Replay, Deliver, Validate, Resend}
use Rattle.hermes.specs.Settings.{old_settings}
use Rattle.hermes.specs.Worked.{Row, asks, asks_start, asks_view}

-- ---- who, what and by whom

-- these numbers, as a set
abbrev set : List ℕ → ℕ
set [] = 0
set (k ∷ ks) = 2 ^ k + set ks

-- a laptop of this number and view, at epoch 7, in a group with the old rule: no question but 27 looks at the rule
abbrev laptop : ℕ → ℕ → Replica
laptop number view = record { number = number; epoch = 7; view = view; settings = old_settings }

abbrev group : ℕ
group = set (1 ∷ 2 ∷ 5 ∷ [])

-- laptop 2, view {1,2,5}: whose events these are unless said
abbrev two : Replica
two = laptop 2 group

-- a version and a tie-breaker
abbrev stamp : ℕ → ℕ → Timestamp
stamp v t = record { version = v; tie = t }

-- a record: its state, stamp, last writer, last-write stamp, acknowledgements and length
abbrev held : State → Timestamp → ℕ → Timestamp → ℕ → ℕ → Record
held s t writer w acks len = record { state = s; timestamp = t; writer = writer; written = w; acks = acks; len = len }

-- a sound record in this state: 5's save (4,5) after the laptop's own (3,2)
abbrev sound : State → Record
sound s = held s (stamp 4 5) 5 (stamp 3 2) 0 10

-- the same, and not sound: 193 bytes long
abbrev unsound : State → Record
unsound s = held s (stamp 4 5) 5 (stamp 3 2) 0 193

-- a sound one with this last writer
abbrev last_by : ℕ → State → Record
last_by writer s = held s (stamp 4 5) writer (stamp 3 2) 0 10

-- a sound one that these have acknowledged, if the laptop is none of them
abbrev counted_by : List ℕ → State → Record
counted_by ks s = held s (stamp 4 5) 5 (stamp 3 2) (set ks) 10

-- an event on the one record of laptop 2, with so many bytes of a value
abbrev event : Event → Record → ℕ → ℕ → Row
event e r n k = asks two 1 192 0 r e n k

abbrev reads : Record → ℕ → Row
reads r k = event Read r 0 k

abbrev writes : Record → ℕ → ℕ → Row
writes r n k = event Write r n k

-- 02, Wish 5
abbrev asks_for : Record → ℕ → Row
asks_for r k = event Ask r 0 k

-- on that stamp, with so many bytes
abbrev commits : Record → Timestamp → ℕ → ℕ → Row
commits r t n k = event (Commit t) r n k

-- a message from this sender, of this epoch, with so many bytes
abbrev hears : Record → ℕ → ℕ → Message → ℕ → ℕ → Row
hears r sender epoch m n k = event (Deliver (record { sender = sender; epoch = epoch; message = m })) r n k

-- the same from 5 at epoch 7
abbrev hears5 : Record → Message → ℕ → ℕ → Row
hears5 r m n k = hears r 5 7 m n k

abbrev inv : ℕ → ℕ → Message
inv v t = Inv (stamp v t)

abbrev ack : ℕ → ℕ → Message
ack v t = Ack (stamp v t)

abbrev val : ℕ → ℕ → Message
val v t = Val (stamp v t)

-- ---- one of each event, with all that its own questions ask

-- the event, by its record's stamp and last-write stamp; the record's state and who has acknowledged; how many bytes come with it
pub record Sample : Type 0 where
  pub event : Timestamp → Timestamp → Event
  pub state : State
  pub counted : List ℕ
  pub bytes : ℕ

abbrev sample : (Timestamp → Timestamp → Event) → State → List ℕ → ℕ → Sample
sample e s ks n = record { event = e; state = s; counted = ks; bytes = n }

abbrev from5 : Message → Event
from5 m = Deliver (record { sender = 5; epoch = 7; message = m })

abbrev samples : List Sample
samples =
    sample (λ t w. Read) state.Valid [] 0
    ∷ sample (λ t w. Ask) state.Valid [] 0
    ∷ sample (λ t w. Write) state.Valid [] 10
    ∷ sample (λ t w. Commit t) state.Valid [] 10
    ∷ sample (λ t w. from5 (inv 6 5)) state.Valid [] 10
    ∷ sample (λ t w. from5 (Ack w)) state.Write [] 0
    ∷ sample (λ t w. from5 (Val t)) state.Invalid [] 0
    ∷ sample (λ t w. Validate) state.Write (1 ∷ 5 ∷ []) 0
    ∷ sample (λ t w. Replay) state.Invalid [] 0
    ∷ sample (λ t w. Resend) state.Write [] 0
    ∷ []

-- every event asks: the laptop, its count of records and bytes of store; of the record its number, stamp, last writer, last-write stamp, who
-- has acknowledged beside those that the event needs, and length
abbrev every : Replica → ℕ → ℕ → ℕ → Timestamp → ℕ → Timestamp → List ℕ → ℕ → ℕ → List Row
every me count bytes i t writer w ks len k =
    map (λ s. asks me count bytes i (held s.state t writer w (set (s.counted ++ ks)) len) (s.event t w) s.bytes k) samples

-- by any laptop, of its one record, 3's save
abbrev every_by : Replica → ℕ → List Row
every_by me k = every me 1 192 0 (stamp 4 5) 3 (stamp 3 2) [] 10 k

-- by laptop 2, lent so many records and bytes, of record 0
abbrev every_lent : ℕ → ℕ → ℕ → List Row
every_lent count bytes k = every two count bytes 0 (stamp 4 5) 3 (stamp 3 2) [] 10 k

-- by laptop 2, of record i of so many
abbrev every_at : ℕ → ℕ → ℕ → List Row
every_at i count k = every two count (192 * count) i (stamp 4 5) 3 (stamp 3 2) [] 10 k

-- by laptop 2, of its one record: stamp, last writer, last-write stamp, further acknowledgements, length
abbrev every_of : Timestamp → ℕ → Timestamp → List ℕ → ℕ → ℕ → List Row
every_of t writer w ks len k = every two 1 192 0 t writer w ks len k

-- ---- the rows

unfoldable pub limits : List Row
limits =
    -- 1: is the number at most 15, with at least two laptops counted in the view?
    every_by (laptop 15 (set (5 ∷ 15 ∷ []))) 0
    ++ every_by (laptop 16 (set (5 ∷ 15 ∷ []))) 1
    ++ every_by (laptop 2 (set (2 ∷ 5 ∷ []))) 0
    ++ every_by (laptop 2 (set (2 ∷ []))) 1
    ++ every_by (laptop 2 (set [])) 1
    ++ every_by (laptop 2 (set (2 ∷ 16 ∷ 17 ∷ []))) 1
    ++ asks_start 15 (set (14 ∷ 15 ∷ [])) 1 192 0
    ∷ asks_start 16 (set (14 ∷ 15 ∷ [])) 1 192 1
    ∷ asks_start 2 (set (1 ∷ 2 ∷ [])) 1 192 0
    ∷ asks_start 2 (set (2 ∷ [])) 1 192 1
    ∷ asks_view (laptop 15 (set (14 ∷ 15 ∷ []))) 8 (set (14 ∷ 15 ∷ [])) 0
    ∷ asks_view (laptop 16 (set (14 ∷ 15 ∷ []))) 8 (set (14 ∷ 15 ∷ [])) 1
    ∷ asks_view (laptop 2 (set (2 ∷ []))) 8 (set (2 ∷ [])) 1
    -- 2: are there 1 to 4,096 records, and 192 store bytes for each exactly?
    ∷ every_lent 0 0 2
    ++ every_lent 0 192 2
    ++ every_lent 1 191 2
    ++ every_lent 1 192 0
    ++ every_lent 1 193 2
    ++ every_lent 2 384 0
    ++ every_lent 4096 786431 2
    ++ every_lent 4096 786432 0
    ++ every_lent 4096 786433 2
    ++ every_lent 4097 786624 2
    ++ asks_start 2 group 0 0 2
    ∷ asks_start 2 group 1 191 2
    ∷ asks_start 2 group 1 193 2
    ∷ asks_start 2 group 4096 786432 0
    ∷ asks_start 2 group 4097 786624 2
    -- 3: is the laptop in its own view?
    ∷ every_by (laptop 2 (set (1 ∷ 5 ∷ []))) 3
    ++ every_by two 0
    ++ asks_start 2 (set (1 ∷ 5 ∷ [])) 1 192 3
    ∷ asks_view (laptop 2 (set (1 ∷ 5 ∷ []))) 8 (set (1 ∷ 5 ∷ [])) 3
    -- 4: is the record number below the count?
    ∷ every_at 0 1 0
    ++ every_at 1 1 4
    ++ every_at 4095 4096 0
    ++ every_at 4096 4096 4
    -- 5: is that record sound: length at most 192, tie-breakers and last writer at most 15, own number not among the acknowledgements?
    ++ every_of (stamp 4 5) 3 (stamp 3 2) [] 192 0
    ++ every_of (stamp 4 5) 3 (stamp 3 2) [] 193 5
    ++ every_of (stamp 4 15) 3 (stamp 3 2) [] 10 0
    ++ every_of (stamp 4 16) 3 (stamp 3 2) [] 10 5
    ++ every_of (stamp 4 5) 15 (stamp 3 2) [] 10 0
    ++ every_of (stamp 4 5) 16 (stamp 3 2) [] 10 5
    ++ every_of (stamp 4 5) 3 (stamp 3 15) [] 10 0
    ++ every_of (stamp 4 5) 3 (stamp 3 16) [] 10 5
    ++ every_of (stamp 4 5) 3 (stamp 3 2) (0 ∷ 3 ∷ 15 ∷ []) 10 0
    ++ every_of (stamp 4 5) 3 (stamp 3 2) (2 ∷ []) 10 5
    -- 6: valid?
    ++ reads (sound state.Valid) 0
    ∷ reads (sound state.Invalid) 6
    ∷ reads (sound state.InvalidWrite) 6
    ∷ reads (sound state.Write) 6
    ∷ reads (sound state.Replay) 6
    -- the same of an ask (02, Wish 5)
    ∷ asks_for (sound state.Valid) 0
    ∷ asks_for (sound state.Invalid) 6
    ∷ asks_for (sound state.InvalidWrite) 6
    ∷ asks_for (sound state.Write) 6
    ∷ asks_for (sound state.Replay) 6
    -- 7: valid or invalid?
    ∷ writes (sound state.Valid) 10 0
    ∷ writes (sound state.Invalid) 10 0
    ∷ writes (sound state.InvalidWrite) 10 7
    ∷ writes (sound state.Write) 10 7
    ∷ writes (sound state.Replay) 10 7
    -- 8: value at most 192 bytes?
    ∷ writes (sound state.Valid) 0 0
    ∷ writes (sound state.Valid) 192 0
    ∷ writes (sound state.Valid) 193 8
    -- 9: version below 4,294,967,295?
    ∷ writes (held state.Valid (stamp 4294967294 5) 5 (stamp 3 2) 0 10) 10 0
    ∷ writes (held state.Valid (stamp 4294967295 5) 5 (stamp 3 2) 0 10) 10 9
    -- 26: is the record valid, and its stamp the one that the commit brings? (02, Wish 5)
    ∷ commits (sound state.Valid) (stamp 4 5) 10 0
    ∷ commits (sound state.Invalid) (stamp 4 5) 10 26
    ∷ commits (sound state.InvalidWrite) (stamp 4 5) 10 26
    ∷ commits (sound state.Write) (stamp 4 5) 10 26
    ∷ commits (sound state.Replay) (stamp 4 5) 10 26
    ∷ commits (sound state.Valid) (stamp 3 5) 10 26
    ∷ commits (sound state.Valid) (stamp 5 5) 10 26
    ∷ commits (sound state.Valid) (stamp 4 4) 10 26
    ∷ commits (sound state.Valid) (stamp 4 6) 10 26
    ∷ commits (sound state.Valid) (stamp 4 16) 10 26
    ∷ commits (sound state.Valid) (stamp 4 21) 10 26
    ∷ commits (sound state.Valid) (stamp 4 261) 10 26
    ∷ commits (sound state.Valid) (stamp 0 0) 10 26
    -- the last-write stamp is another
    ∷ commits (sound state.Valid) (stamp 3 2) 10 26
    -- then 8 and 9
    ∷ commits (sound state.Valid) (stamp 4 5) 0 0
    ∷ commits (sound state.Valid) (stamp 4 5) 192 0
    ∷ commits (sound state.Valid) (stamp 4 5) 193 8
    ∷ commits (held state.Valid (stamp 4294967294 5) 5 (stamp 3 2) 0 10) (stamp 4294967294 5) 10 0
    ∷ commits (held state.Valid (stamp 4294967295 5) 5 (stamp 3 2) 0 10) (stamp 4294967295 5) 10 9
    -- 10: is the message's epoch the laptop's?
    ∷ hears (sound state.Valid) 5 6 (inv 6 5) 10 10
    ∷ hears (sound state.Valid) 5 7 (inv 6 5) 10 0
    ∷ hears (sound state.Valid) 5 8 (inv 6 5) 10 10
    ∷ hears (sound state.Write) 5 6 (ack 3 2) 0 10
    ∷ hears (sound state.Write) 5 8 (ack 3 2) 0 10
    ∷ hears (sound state.Invalid) 5 6 (val 4 5) 0 10
    ∷ hears (sound state.Invalid) 5 8 (val 4 5) 0 10
    -- 11: is the sender in the view, and not this laptop?
    ∷ hears (sound state.Valid) 1 7 (inv 6 5) 10 0
    ∷ hears (sound state.Valid) 2 7 (inv 6 5) 10 11
    ∷ hears (sound state.Valid) 3 7 (inv 6 5) 10 11
    ∷ hears (sound state.Valid) 16 7 (inv 6 5) 10 11
    ∷ hears (sound state.Write) 2 7 (ack 3 2) 0 11
    ∷ hears (sound state.Write) 3 7 (ack 3 2) 0 11
    ∷ hears (sound state.Invalid) 2 7 (val 4 5) 0 11
    ∷ hears (sound state.Invalid) 3 7 (val 4 5) 0 11
    -- 12: tie-breaker at most 15, and value bytes at most 192 for an INV, none otherwise?
    ∷ hears5 (sound state.Valid) (inv 6 15) 10 0
    ∷ hears5 (sound state.Valid) (inv 6 16) 10 12
    ∷ hears5 (sound state.Valid) (inv 6 5) 0 0
    ∷ hears5 (sound state.Valid) (inv 6 5) 192 0
    ∷ hears5 (sound state.Valid) (inv 6 5) 193 12
    ∷ hears5 (held state.Write (stamp 4 5) 5 (stamp 3 15) 0 10) (ack 3 15) 0 0
    ∷ hears5 (held state.Write (stamp 4 5) 5 (stamp 3 15) 0 10) (ack 3 16) 0 12
    ∷ hears5 (sound state.Write) (ack 3 2) 0 0
    ∷ hears5 (sound state.Write) (ack 3 2) 1 12
    ∷ hears5 (held state.Invalid (stamp 4 15) 5 (stamp 3 2) 0 10) (val 4 15) 0 0
    ∷ hears5 (held state.Invalid (stamp 4 15) 5 (stamp 3 2) 0 10) (val 4 16) 0 12
    ∷ hears5 (sound state.Invalid) (val 4 5) 0 0
    ∷ hears5 (sound state.Invalid) (val 4 5) 1 12
    -- an INV has no more questions: any state, any stamp
    ∷ hears5 (sound state.Invalid) (inv 6 5) 10 0
    ∷ hears5 (sound state.InvalidWrite) (inv 6 5) 10 0
    ∷ hears5 (sound state.Write) (inv 6 5) 10 0
    ∷ hears5 (sound state.Replay) (inv 6 5) 10 0
    ∷ hears5 (sound state.Valid) (inv 4 5) 10 0
    ∷ hears5 (sound state.Valid) (inv 0 0) 10 0
    -- 13: is the state write, invalid-write or replay, the stamp the last-write stamp, the sender not yet counted?
    ∷ hears5 (sound state.Valid) (ack 3 2) 0 13
    ∷ hears5 (sound state.Invalid) (ack 3 2) 0 13
    ∷ hears5 (sound state.InvalidWrite) (ack 3 2) 0 0
    ∷ hears5 (sound state.Replay) (ack 3 2) 0 0
    ∷ hears5 (sound state.Write) (ack 2 2) 0 13
    ∷ hears5 (sound state.Write) (ack 4 2) 0 13
    ∷ hears5 (sound state.Write) (ack 3 1) 0 13
    ∷ hears5 (sound state.Write) (ack 3 3) 0 13
    ∷ hears5 (sound state.InvalidWrite) (ack 4 5) 0 13
    ∷ hears5 (counted_by (1 ∷ []) state.Write) (ack 3 2) 0 0
    ∷ hears5 (counted_by (5 ∷ []) state.Write) (ack 3 2) 0 13
    -- 14: is the state not valid and the stamp the record's?
    ∷ hears5 (sound state.Valid) (val 4 5) 0 14
    ∷ hears5 (sound state.InvalidWrite) (val 4 5) 0 0
    ∷ hears5 (sound state.Write) (val 4 5) 0 0
    ∷ hears5 (sound state.Replay) (val 4 5) 0 0
    ∷ hears5 (sound state.Invalid) (val 3 5) 0 14
    ∷ hears5 (sound state.Invalid) (val 5 5) 0 14
    ∷ hears5 (sound state.Invalid) (val 4 4) 0 14
    ∷ hears5 (sound state.Invalid) (val 4 6) 0 14
    ∷ hears5 (sound state.InvalidWrite) (val 3 2) 0 14
    -- 15: state write or replay, and every other laptop in the view acknowledged?
    ∷ event Validate (counted_by (1 ∷ 5 ∷ []) state.Valid) 0 15
    ∷ event Validate (counted_by (1 ∷ 5 ∷ []) state.Invalid) 0 15
    ∷ event Validate (counted_by (1 ∷ 5 ∷ []) state.InvalidWrite) 0 15
    ∷ event Validate (counted_by (1 ∷ 5 ∷ []) state.Write) 0 0
    ∷ event Validate (counted_by (1 ∷ 5 ∷ []) state.Replay) 0 0
    ∷ event Validate (counted_by [] state.Write) 0 15
    ∷ event Validate (counted_by (1 ∷ []) state.Write) 0 15
    ∷ event Validate (counted_by (5 ∷ []) state.Write) 0 15
    ∷ event Validate (counted_by (1 ∷ 3 ∷ []) state.Write) 0 15
    ∷ event Validate (counted_by (1 ∷ 3 ∷ 5 ∷ []) state.Write) 0 0
    ∷ event Validate (counted_by [] state.Replay) 0 15
    ∷ event Validate (counted_by (1 ∷ []) state.Replay) 0 15
    ∷ event Validate (counted_by (5 ∷ []) state.Replay) 0 15
    ∷ asks (laptop 2 (set (1 ∷ 2 ∷ []))) 1 192 0 (counted_by (1 ∷ []) state.Write) Validate 0 0
    ∷ asks (laptop 2 (set (1 ∷ 2 ∷ []))) 1 192 0 (counted_by (1 ∷ []) state.Replay) Validate 0 0
    -- 16: invalid or invalid-write, and last writer not in the view? (02, Wish 2)
    ∷ event Replay (last_by 3 state.Valid) 0 16
    ∷ event Replay (last_by 3 state.Invalid) 0 0
    ∷ event Replay (last_by 3 state.InvalidWrite) 0 0
    ∷ event Replay (last_by 3 state.Write) 0 16
    ∷ event Replay (last_by 3 state.Replay) 0 16
    ∷ event Replay (last_by 5 state.Invalid) 0 16
    ∷ event Replay (last_by 2 state.Invalid) 0 16
    ∷ event Replay (last_by 5 state.InvalidWrite) 0 16
    ∷ event Replay (last_by 2 state.InvalidWrite) 0 16
    -- 17: write or replay, or valid with self as last writer?
    ∷ event Resend (last_by 2 state.Valid) 0 0
    ∷ event Resend (last_by 2 state.Invalid) 0 17
    ∷ event Resend (last_by 2 state.InvalidWrite) 0 17
    ∷ event Resend (last_by 2 state.Write) 0 0
    ∷ event Resend (last_by 2 state.Replay) 0 0
    ∷ event Resend (last_by 5 state.Valid) 0 17
    ∷ event Resend (last_by 5 state.Write) 0 0
    ∷ event Resend (last_by 5 state.Replay) 0 0
    -- 18: is the epoch greater?
    ∷ asks_view two 6 group 18
    ∷ asks_view two 7 group 18
    ∷ asks_view two 8 group 0
    -- 19: is the new view within the old, with at least two laptops?
    ∷ asks_view two 8 (set (1 ∷ 2 ∷ [])) 0
    ∷ asks_view two 8 (set (1 ∷ 5 ∷ [])) 0
    ∷ asks_view two 8 (set (1 ∷ 2 ∷ 3 ∷ [])) 19
    ∷ asks_view two 8 (set (2 ∷ [])) 19
    ∷ asks_view two 8 (set []) 19
    -- where two questions say no, the first of them answers
    ∷ every (laptop 16 0) 0 0 0 (stamp 4 5) 3 (stamp 3 2) [] 10 1
    ++ every (laptop 2 (set (1 ∷ 5 ∷ []))) 0 0 0 (stamp 4 5) 3 (stamp 3 2) [] 10 2
    ++ every (laptop 2 (set (1 ∷ 5 ∷ []))) 1 192 1 (stamp 4 5) 3 (stamp 3 2) [] 10 3
    ++ every two 1 192 1 (stamp 4 5) 3 (stamp 3 2) [] 193 4
    ++ reads (unsound state.Invalid) 5
    ∷ asks_for (unsound state.Invalid) 5
    ∷ writes (unsound state.Write) 10 5
    ∷ commits (unsound state.Write) (stamp 0 0) 10 5
    ∷ hears (unsound state.Valid) 5 6 (inv 6 5) 10 5
    ∷ event Validate (unsound state.Valid) 0 5
    ∷ event Replay (unsound state.Valid) 0 5
    ∷ event Resend (unsound state.Invalid) 0 5
    ∷ writes (sound state.Write) 193 7
    ∷ writes (held state.Valid (stamp 4294967295 5) 5 (stamp 3 2) 0 10) 193 8
    ∷ commits (sound state.Write) (stamp 4 5) 193 26
    ∷ commits (sound state.Valid) (stamp 3 5) 193 26
    ∷ commits (held state.Valid (stamp 4294967295 5) 5 (stamp 3 2) 0 10) (stamp 4294967295 4) 10 26
    ∷ commits (held state.Invalid (stamp 4294967295 5) 5 (stamp 3 2) 0 10) (stamp 4294967295 5) 10 26
    ∷ commits (held state.Valid (stamp 4294967295 5) 5 (stamp 3 2) 0 10) (stamp 4294967295 5) 193 8
    ∷ hears (sound state.Valid) 3 6 (inv 6 5) 10 10
    ∷ hears (sound state.Valid) 3 7 (inv 6 5) 193 11
    ∷ hears5 (sound state.Valid) (ack 3 2) 1 12
    ∷ hears5 (sound state.Valid) (val 4 5) 1 12
    ∷ asks_start 16 0 0 0 1
    ∷ asks_start 2 (set (1 ∷ 5 ∷ [])) 0 0 2
    ∷ asks_view (laptop 16 0) 8 0 1
    ∷ asks_view (laptop 2 (set (1 ∷ 5 ∷ []))) 7 group 3
    ∷ asks_view two 7 (set []) 18
    ∷ []
