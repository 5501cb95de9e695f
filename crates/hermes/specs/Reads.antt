-- Beside demand 3: along every list of entries the group's replicas stay sound, showing a record valid is what a read tells, and what a read
-- hands out is the record's text.
use Rattle.std.specs.Prelude.{ℕ, ◌<◌, ◌≡◌, Bool, true, ◌↔◌, ◌≢◌, List, [], length}
use Rattle.hermes.specs.declared.event.Settings.{Settings}
use Rattle.hermes.specs.declared.event.Event.TheVariants.{Read}
use Rattle.hermes_record.specs.Order.{Orders}
use Rattle.hermes.specs.Guards.{question1, question2, question5}
use Rattle.hermes.specs.Event.{number_of}
use Rattle.hermes.specs.Node.{Node, record_of, value_of, apply, read}
use Rattle.hermes.specs.Run.{Entry, Group}
use Rattle.hermes.specs.Agreement.{Started, Entries, Sees, Shows, after}

-- replica k keeps its number, its settings and its count of records, and questions 1, 2 and 5 never say no
pub record Sound (count : ℕ) (settings : Settings) (k : ℕ) (n : Node) : Type 0 where
  pub number : n.me.number ≡ k
  pub fixed : n.me.settings ≡ settings
  pub records : length n.table ≡ count
  pub first : (question1 n.me).yes ≡ true
  pub second : (question2 (length n.table) (length n.store)).yes ≡ true
  pub fifth : (i : ℕ) → i < count → (question5 n.me (record_of i n)).yes ≡ true

module _ (wins : Orders) where
  -- 01, Read: what is handed out is the record's text where the read answers 0, and the empty part where it is refused
  pub record ReadGives (n : Node) (i : ℕ) : Type 0 where
    pub accepted : number_of (apply wins n i Read []).answer ≡ 0 → read n i ≡ value_of i n
    pub refused : number_of (apply wins n i Read []).answer ≢ 0 → read n i ≡ []

  -- 01, questions 1, 2 and 5: after every list of entries the replicas are sound
  abbrev pub StaySound : Type 0
  StaySound = (member : ℕ → Bool) (count : ℕ) (issued : ℕ → ℕ) (settings : Settings) (g : Group) → Started member count issued settings g
      → (entries : List Entry) → Entries member issued entries
      → (k : ℕ) → member k ≡ true → Sound count settings k (after wins g entries k)

  -- 01, "while the laptop is in its own view, that is exactly when a read would then answer 0"
  abbrev pub ReadsTell : Type 0
  ReadsTell = (member : ℕ → Bool) (count : ℕ) (issued : ℕ → ℕ) (settings : Settings) (g : Group) → Started member count issued settings g
      → (entries : List Entry) → Entries member issued entries
      → (i k : ℕ) → i < count → member k ≡ true → Sees (after wins g entries k) k
      → Shows (after wins g entries k) i ↔ (number_of (apply wins (after wins g entries k) i Read []).answer ≡ 0)
