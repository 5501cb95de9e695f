-- The order of timestamps (01, "The greater stamp has the greater version or, versions equal, the greater tie-breaker"; 02, Wish 6, "Comparing two
-- stamps now depends on the rule"), over any strict total order of ties.
use Rattle.std.specs.Prelude.{ℕ, ◌<◌, ◌≡◌, Bool, true, false, cond, ◌&&◌, ◌||◌, ◌≢◌, ltb, eqb, Result, Ok, Err}
use Rattle.hermes_record.specs.declared.timestamp.Timestamp.{Timestamp}
use Rattle.hermes_record.specs.declared.timestamp.Rule.{Rule}
use Rattle.hermes_record.specs.declared.timestamp.UnknownRule.{UnknownRule}
use Rattle.hermes_record.specs.declared.timestamp.Rule.TheVariants.{Higher, Lower}

-- `wins a b`, tie-breaker a is the greater, is a strict total order
pub record TieOrder (wins : ℕ → ℕ → Bool) : Type 0 where
  pub irreflexive : (a : ℕ) → wins a a ≡ false
  pub transitive : (a b c : ℕ) → wins a b ≡ true → wins b c ≡ true → wins a c ≡ true
  pub total : (a b : ℕ) → a ≢ b → wins a b ≡ false → wins b a ≡ true

-- document 01's order of ties: the greater number
abbrev pub higher : ℕ → ℕ → Bool
higher a b = ltb b a

-- 02, Wish 6, "a tie to the lower laptop number": the lesser number
abbrev pub lower : ℕ → ℕ → Bool
lower a b = ltb a b

-- an order of ties for each rule; whatever compares timestamps is defined over any such, and the papers' is `ties`
abbrev pub Orders : Type 0
Orders = Rule → ℕ → ℕ → Bool

-- 02, Wish 6, "both rules live on"
abbrev pub ties : Orders
ties Higher = higher
ties Lower = lower

-- each rule's order is a strict total order (02, Wish 6, "of two different numbers one always wins")
abbrev pub TieOrders : Orders → Type 0
TieOrders wins = (rule : Rule) → TieOrder (wins rule)

-- the rules by their numbers: 01, "Byte 0 is 1"; 02, Wish 6, "Packets of the new rule have 2 as byte 0"
abbrev pub rule_number : Rule → ℕ
rule_number Higher = 1
rule_number Lower = 2

-- the rule with this number, or no rule
abbrev pub rule_of : ℕ → Result Rule UnknownRule
rule_of n = cond (eqb n 1) (Ok Higher) (cond (eqb n 2) (Ok Lower) (Err (record { 0 = n })))

-- s is the greater timestamp
unfoldable pub later : (ℕ → ℕ → Bool) → Timestamp → Timestamp → Bool
later wins s t = ltb t.version s.version || (eqb s.version t.version && wins s.tie t.tie)

-- s and t are one timestamp
unfoldable pub same_timestamp : Timestamp → Timestamp → Bool
same_timestamp s t = eqb s.version t.version && eqb s.tie t.tie

-- t is s or a later timestamp
pub data NotAfter (wins : ℕ → ℕ → Bool) (s t : Timestamp) : Type 0 where
  equal : s ≡ t → NotAfter wins s t
  rises : later wins t s ≡ true → NotAfter wins s t

-- ---- what is claimed; `proofs/Order` proves it

-- timestamps are strictly and totally ordered, and the version comes first
pub record Ordered (wins : ℕ → ℕ → Bool) : Type 0 where
  pub irreflexive : (s : Timestamp) → later wins s s ≡ false
  pub transitive : (s t u : Timestamp) → later wins s t ≡ true → later wins t u ≡ true → later wins s u ≡ true
  pub total : (s t : Timestamp) → s ≢ t → later wins s t ≡ false → later wins t s ≡ true
  pub versions : (s t : Timestamp) → t.version < s.version → later wins s t ≡ true

-- 02, Wish 6, "What holds of ordering .. is proved over every strict total order of ties"
abbrev pub OrderedAny : Type 0
OrderedAny = (wins : ℕ → ℕ → Bool) → TieOrder wins → Ordered wins

-- "then used for these two"
abbrev pub OrderedBoth : Type 0
OrderedBoth = (rule : Rule) → Ordered (ties rule)
