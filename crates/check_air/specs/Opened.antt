-- 02, Wish 5, of the exported functions: what a caller of `cetskobi_ask` and then of `cetskobi_commit` can rely on, over every list of calls of a group.
use Rattle.std.specs.Prelude.{ℕ, ◌*◌, ◌≡◌, Bool, true, List, ◌∷◌, ◌++◌, take, drop}
use Rattle.hermes_record.specs.declared.timestamp.Timestamp.{Timestamp}
use Rattle.hermes.specs.declared.event.Settings.{Settings}
use Rattle.hermes_record.specs.Order.{ties, later, NotAfter}
use Rattle.hermes.specs.Settings.{under}
use Rattle.hermes.specs.Node.{Node, record_of}
use Rattle.hermes.specs.Agreement.{Shows, Alike}
use Rattle.export_numbers.specs.declared.numbers.CetskobiReading.{CetskobiReading}
use Rattle.export_numbers.specs.declared.numbers.CetskobiAsked.{CetskobiAsked}
use Rattle.export_reading.specs.Reading.{ReadDone, AskDone}
use Rattle.check_air.specs.Callers.{Call, read, ask, commit, Hut, Turn, Follows, AllBegun, laptop}

-- the timestamp in an ask's answer
abbrev pub asked_timestamp : CetskobiAsked → Timestamp
asked_timestamp p = record { version = p.version; tie = p.tie }

-- so many bytes of the store, from 192 times the record's number on
abbrev pub bytes_at : Node → ℕ → ℕ → List ℕ
bytes_at n i len = take len (drop (192 * i) n.store)

-- call c, of a laptop that stands as n, is `cetskobi_ask` or `cetskobi_read` for record i and answers 0: the timestamp t, which after a read is that
-- in the table, and this text
pub data Hands (n : Node) (c : Call) (i : ℕ) (t : Timestamp) (text : List ℕ) : Type 0 where
  asks : (p : CetskobiAsked) → c ≡ ask i → AskDone n i p → p.number ≡ 0 → asked_timestamp p ≡ t → bytes_at n i p.len ≡ text → Hands n c i t text
  reads : (p : CetskobiReading) → c ≡ read i → ReadDone n i p → p.number ≡ 0 → (record_of i n).timestamp ≡ t → bytes_at n i p.len ≡ text → Hands n c i t text

-- the list has call s, and later c of the same laptop, with these calls before s and between the two
pub record CallsApart (turns before between : List Turn) (s c : Turn) : Type 0 where
  pub rest : List Turn
  pub split : turns ≡ before ++ s ∷ (between ++ c ∷ rest)
  pub one : s.who ≡ c.who

-- what `Opened` of hermes says of entries, of the calls of a group with these settings that began as h
pub record CallsOpened (settings : Settings) (h : Hut) (turns : List Turn) : Type 0 where
  -- what a laptop's calls hand out of one record never goes back to an earlier timestamp, and under one it is one text
  pub forward : (i : ℕ) (before between : List Turn) (s c : Turn) → CallsApart turns before between s c
      → (t u : Timestamp) (first second : List ℕ) → Hands (laptop h before s.who) s.call i t first → Hands (laptop h (before ++ s ∷ between) c.who) c.call i u second
      → NotAfter (under ties settings) t u × (t ≡ u → first ≡ second)
  -- s hands out t, and c is `cetskobi_commit` with its version and tie-breaker, and answers 0: at every point between the laptop showed the record valid,
  -- with that timestamp and the bytes that s found
  pub kept : (i : ℕ) (before between : List Turn) (s c : Turn) → CallsApart turns before between s c
      → (t : Timestamp) (text v : List ℕ) → Hands (laptop h before s.who) s.call i t text → c.call ≡ commit i t.version t.tie v → c.number ≡ 0
      → (upto beyond : List Turn) → between ≡ upto ++ beyond
      → ((record_of i (laptop h (before ++ s ∷ upto) s.who)).timestamp ≡ t) × Shows (laptop h (before ++ s ∷ upto) s.who) i
      × Alike i (laptop h (before ++ s ∷ upto) s.who) (laptop h before s.who)
  -- and where it answers 26, the record there has a later timestamp
  pub newer : (i : ℕ) (before between : List Turn) (s c : Turn) → CallsApart turns before between s c
      → (t : Timestamp) (text v : List ℕ) → Hands (laptop h before s.who) s.call i t text → c.call ≡ commit i t.version t.tie v → c.number ≡ 26
      → later (under ties settings) (record_of i (laptop h (before ++ s ∷ between) s.who)).timestamp t ≡ true

-- Wish 5 of the exported functions; `proofs/Opened` proves it
abbrev pub CalledAsking : Type 0
CalledAsking = (member : ℕ → Bool) (count : ℕ) (issued : ℕ → ℕ) (settings : Settings) (h : Hut) → AllBegun member count issued settings h
    → (turns : List Turn) → Follows member issued h turns → CallsOpened settings h turns
