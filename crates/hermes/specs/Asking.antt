-- 02, Wish 5, "Ask for a record, then save it": what an ask hands out, and what a ringer who asks and then commits can rely on, along every list of
-- entries of a group.
use Rattle.std.specs.Prelude.{ℕ, ◌≡◌, Bool, true, ◌≢◌, List, [], ◌∷◌, ◌++◌}
use Rattle.hermes_record.specs.declared.timestamp.Timestamp.{Timestamp}
use Rattle.hermes.specs.declared.event.Settings.{Settings}
use Rattle.hermes.specs.declared.event.Event.TheVariants.{Read, Ask}
use Rattle.hermes_record.specs.Order.{Orders, TieOrders, ties, later, NotAfter}
use Rattle.hermes.specs.Settings.{under}
use Rattle.hermes.specs.Event.{number_of}
use Rattle.hermes.specs.Node as node
use Rattle.hermes.specs.Node.{Node, record_of, value_of, apply, asked}
use Rattle.hermes.specs.Run.{read, ask, commit, Entry, Group, Result, nothing, event, result, run}
use Rattle.hermes.specs.Agreement.{Started, Entries, Shows, Alike, IsAccepted, after}

-- ---- one ask

-- an ask of record i of n
pub record AskGives (wins : Orders) (n : Node) (i : ℕ) : Type 0 where
  -- "refused as a read is", and nothing moves: it comes to what a read comes to, and hands out the same part
  pub as_read : apply wins n i Ask [] ≡ apply wins n i Read []
  pub part : (asked n i).part ≡ node.read n i
  -- "hands out value and stamp"
  pub accepted : number_of (apply wins n i Ask []).answer ≡ 0 → asked n i ≡ record { part = value_of i n; timestamp = (record_of i n).timestamp }
  -- where it is refused the empty part, and (0, 0) for no stamp
  pub refused : number_of (apply wins n i Ask []).answer ≢ 0 → asked n i ≡ record { part = []; timestamp = record { version = 0; tie = 0 } }

-- every ask, on every laptop; `proofs/Asking` proves it
abbrev pub EveryAskGives : Type 0
EveryAskGives = (wins : Orders) (n : Node) (i : ℕ) → AskGives wins n i

-- ---- lists of entries

-- an entry that is refused, by this number
abbrev pub RefusedBy : ℕ → Result → Type 0
RefusedBy number nothing = ⊥
RefusedBy number (event o) = number_of o.answer ≡ number

-- record i of n has the stamp t and is shown valid, and its bytes are those that it has at m
pub record Still (i : ℕ) (t : Timestamp) (n m : Node) : Type 0 where
  pub timestamp : (record_of i n).timestamp ≡ t
  pub shows : Shows n i
  pub alike : Alike i n m

-- the list has entry a, and later b of the same laptop, with these entries before a and between the two
pub record Apart (entries before between : List Entry) (a b : Entry) : Type 0 where
  pub rest : List Entry
  pub split : entries ≡ before ++ a ∷ (between ++ b ∷ rest)
  pub one : a.who ≡ b.who

module _ (wins : Orders) where
  -- entry a, in the group as it then stands, is an accepted read or ask of record i: it hands out `text`, whose stamp is t
  pub data HandsOut (g : Group) (a : Entry) (i : ℕ) (t : Timestamp) (text : List ℕ) : Type 0 where
    reads : a.what ≡ read i → IsAccepted (result wins g a) → node.read (g.at a.who) i ≡ text → (record_of i (g.at a.who)).timestamp ≡ t → HandsOut g a i t text
    asks : a.what ≡ ask i → IsAccepted (result wins g a) → asked (g.at a.who) i ≡ record { part = text; timestamp = t } → HandsOut g a i t text

  -- of a group with these settings that stands as in g, and a list of entries
  pub record Opened (settings : Settings) (g : Group) (entries : List Entry) : Type 0 where
    -- what a laptop's reads and asks of one record hand out never goes back to an earlier stamp, and under one stamp it is one text
    pub forward : (i : ℕ) (before between : List Entry) (a b : Entry) → Apart entries before between a b
        → (s t : Timestamp) (first second : List ℕ) → HandsOut (run wins g before) a i s first → HandsOut (run wins g (before ++ a ∷ between)) b i t second
        → NotAfter (under wins settings) s t × (s ≡ t → first ≡ second)
    -- "so this laptop took no newer save between": a hands out the stamp t, and c, a commit that brings t back, is accepted. At every point
    -- between the two the laptop showed the record valid with that stamp and with the bytes that a found
    pub kept : (i : ℕ) (before between : List Entry) (a c : Entry) → Apart entries before between a c
        → (t : Timestamp) (text v : List ℕ) → HandsOut (run wins g before) a i t text
        → c.what ≡ commit i t v → IsAccepted (result wins (run wins g (before ++ a ∷ between)) c)
        → (upto beyond : List Entry) → between ≡ upto ++ beyond
        → Still i t (after wins g (before ++ a ∷ upto) a.who) (after wins g before a.who)
    -- and where such a commit is refused by 26, a newer save stands there: it is never refused in vain
    pub newer : (i : ℕ) (before between : List Entry) (a c : Entry) → Apart entries before between a c
        → (t : Timestamp) (text v : List ℕ) → HandsOut (run wins g before) a i t text
        → c.what ≡ commit i t v → RefusedBy 26 (result wins (run wins g (before ++ a ∷ between)) c)
        → later (under wins settings) (record_of i (after wins g (before ++ a ∷ between) a.who)).timestamp t ≡ true

  -- Wish 5, with ties decided by `wins`
  abbrev pub AskingBy : Type 0
  AskingBy = (member : ℕ → Bool) (count : ℕ) (issued : ℕ → ℕ) (settings : Settings) (g : Group) → Started member count issued settings g
      → (entries : List Entry) → Entries member issued entries → Opened settings g entries

-- Wish 5, over every strict total order of ties, for each rule
abbrev pub AskingAny : Type 0
AskingAny = (wins : Orders) → TieOrders wins → AskingBy wins

-- Wish 5, with the papers' orders of ties: of every group, whichever its rule; `proofs/Asking` proves both
abbrev pub Asking : Type 0
Asking = AskingBy ties
