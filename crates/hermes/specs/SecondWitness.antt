-- The premises of the second reading of demand 3 can be met: they forbid no event that document 01 allows, and a group of three with one record
-- each finishes saves by a Validate, by the last ACK in write and by the last ACK in replay, after which both halves of the claim speak of something.
-- That group has document 01's rule for ties; another, with 02, Wish 6's, finishes two saves of one version, and the lower number's stands.
use Rattle.std.specs.Prelude.{ℕ, ◌≡◌, List, [], ◌∷◌}
use Rattle.hermes_record.specs.declared.timestamp.Rule.TheVariants.{Higher, Lower}
use Rattle.hermes_record.specs.declared.timestamp.Timestamp.{Timestamp}
use Rattle.hermes.specs.declared.message.Message.{Message}
use Rattle.hermes.specs.declared.message.Message.TheVariants.{Inv, Ack, Val}
use Rattle.hermes.specs.declared.event.Settings.{Settings}
use Rattle.hermes.specs.Event.{number_of}
use Rattle.hermes.specs.Node.{Node, record_of}
use Rattle.hermes.specs.Played.{issued, fresh}
use Rattle.hermes.specs.SecondReading.{
  InView,
  Among,
  Mail,
  Happening,
  read,
  write,
  replay,
  delivery,
  validation,
  resend,
  change,
  ask,
  commit,
  Entry,
  outcome,
  Left,
  Honest,
  History,
  Premises,
  ShowsValid,
  Agreement,
  Validates,
  Kept,
}

-- ---- no event is forbidden

-- 01, "with any record number and value": after any entries every event may follow; a delivery brings a message that left, a view is the issued one;
-- 01, "events added later join these": so may 02, Wish 5's ask, and its commit with any stamp, which 26 judges
pub record AnyEvent (issued : ℕ → ℕ) (earlier : List Entry) : Type 0 where
  pub reads : (i : ℕ) → Honest issued earlier (read i)
  pub writes : (i : ℕ) (value : List ℕ) → Honest issued earlier (write i value)
  pub replays : (i : ℕ) → Honest issued earlier (replay i)
  pub deliveries : (m : Mail) → Left m earlier → Honest issued earlier (delivery m)
  pub validations : (i : ℕ) → Honest issued earlier (validation i)
  pub resends : (i : ℕ) → Honest issued earlier (resend i)
  pub changes : (epoch : ℕ) → Honest issued earlier (change epoch (issued epoch))
  pub asks : (i : ℕ) → Honest issued earlier (ask i)
  pub commits : (i : ℕ) (t : Timestamp) (value : List ℕ) → Honest issued earlier (commit i t value)

-- ---- the two groups

-- 02, Wish 6, "Groups formed earlier keep the old rule"
abbrev pub old_rule : Settings
old_rule = record { rule = Higher }

-- 02, Wish 6, "a tie to the lower laptop number"
abbrev pub new_rule : Settings
new_rule = record { rule = Lower }

-- a group at its start, with `issued` and `fresh` of `Played`: 2 is struck off in epoch 1
abbrev pub begun : Settings → List Node
begun settings = fresh settings 0 ∷ fresh settings 1 ∷ fresh settings 2 ∷ []

-- a stamp
abbrev pub stamp : ℕ → ℕ → Timestamp
stamp version tie = record { version = version; tie = tie }

-- a message about the record, from this laptop at this epoch
abbrev pub mail : ℕ → ℕ → Message → List ℕ → Mail
mail sender epoch kind bytes = record { sender = sender; epoch = epoch; number = 0; kind = kind; bytes = bytes }

-- what is done at a laptop that another entry left
abbrev pub thereafter : Entry → Happening → Entry
thereafter e h = record { found = (outcome e).node; event = h }

-- ---- saves that are finished under the old rule

-- 0 saves A1; 1 and 2 take it; 0 counts 1's ACK, and finishes by 2's, the last, in write
abbrev pub saved : Entry
saved = record { found = fresh old_rule 0; event = write 0 (65 ∷ 49 ∷ []) }

abbrev pub taken1 : Entry
taken1 = record { found = fresh old_rule 1; event = delivery (mail 0 0 (Inv (stamp 1 0)) (65 ∷ 49 ∷ [])) }

abbrev pub taken2 : Entry
taken2 = record { found = fresh old_rule 2; event = delivery (mail 0 0 (Inv (stamp 1 0)) (65 ∷ 49 ∷ [])) }

abbrev pub counted : Entry
counted = thereafter saved (delivery (mail 1 0 (Ack (stamp 1 0)) []))

abbrev pub settled : Entry
settled = thereafter counted (delivery (mail 2 0 (Ack (stamp 1 0)) []))

-- 1 and 2 save together; 0 takes both, and 2's is the greater; 1 counts 0's ACK
abbrev pub saved1 : Entry
saved1 = thereafter taken1 (write 0 (66 ∷ []))

abbrev pub saved2 : Entry
saved2 = thereafter taken2 (write 0 (67 ∷ []))

abbrev pub lower : Entry
lower = thereafter settled (delivery (mail 1 0 (Inv (stamp 2 1)) (66 ∷ [])))

abbrev pub higher : Entry
higher = thereafter lower (delivery (mail 2 0 (Inv (stamp 2 2)) (67 ∷ [])))

abbrev pub counted1 : Entry
counted1 = thereafter saved1 (delivery (mail 0 0 (Ack (stamp 2 1)) []))

-- 2 is struck off, and 1 finishes by a Validate
abbrev pub struck : Entry
struck = thereafter counted1 (change 1 3)

abbrev pub finished : Entry
finished = thereafter struck (validation 0)

-- 0 hears of it and replays 2's save; 1 takes it, and 0 finishes by its ACK, the last, in replay
abbrev pub heard : Entry
heard = thereafter higher (change 1 3)

abbrev pub replayed : Entry
replayed = thereafter heard (replay 0)

abbrev pub retaken : Entry
retaken = thereafter finished (delivery (mail 0 1 (Inv (stamp 2 2)) (67 ∷ [])))

abbrev pub resettled : Entry
resettled = thereafter replayed (delivery (mail 1 1 (Ack (stamp 2 2)) []))

-- 1 takes the VAL
abbrev pub shown : Entry
shown = thereafter retaken (delivery (mail 0 1 (Val (stamp 2 2)) []))

-- the list, the latest entry first
abbrev pub list : List Entry
list =
    shown ∷ resettled ∷ retaken ∷ replayed ∷ heard ∷ finished ∷ struck ∷ counted1 ∷ higher ∷ lower ∷ saved2 ∷ saved1
    ∷ settled ∷ counted ∷ taken2 ∷ taken1 ∷ saved ∷ []

-- 0 and 1 after it, and the group
abbrev pub laptop0 : Node
laptop0 = (outcome resettled).node

abbrev pub laptop1 : Node
laptop1 = (outcome shown).node

abbrev pub now : List Node
now = laptop0 ∷ laptop1 ∷ (outcome saved2).node ∷ []

-- ---- saves that are finished under the new rule

-- 1 and 2 save together; 0 takes 2's, 1 only acknowledges it; 2 counts 0's ACK, and finishes by 1's
abbrev pub tied1 : Entry
tied1 = record { found = fresh new_rule 1; event = write 0 (66 ∷ []) }

abbrev pub tied2 : Entry
tied2 = record { found = fresh new_rule 2; event = write 0 (67 ∷ []) }

abbrev pub met0 : Entry
met0 = record { found = fresh new_rule 0; event = delivery (mail 2 0 (Inv (stamp 1 2)) (67 ∷ [])) }

abbrev pub met1 : Entry
met1 = thereafter tied1 (delivery (mail 2 0 (Inv (stamp 1 2)) (67 ∷ [])))

abbrev pub half2 : Entry
half2 = thereafter tied2 (delivery (mail 0 0 (Ack (stamp 1 2)) []))

abbrev pub whole2 : Entry
whole2 = thereafter half2 (delivery (mail 1 0 (Ack (stamp 1 2)) []))

-- 0 and 2 take 1's, the greater by the new rule; 1 counts 0's ACK, and finishes by 2's
abbrev pub turned0 : Entry
turned0 = thereafter met0 (delivery (mail 1 0 (Inv (stamp 1 1)) (66 ∷ [])))

abbrev pub turned2 : Entry
turned2 = thereafter whole2 (delivery (mail 1 0 (Inv (stamp 1 1)) (66 ∷ [])))

abbrev pub half1 : Entry
half1 = thereafter met1 (delivery (mail 0 0 (Ack (stamp 1 1)) []))

abbrev pub whole1 : Entry
whole1 = thereafter half1 (delivery (mail 2 0 (Ack (stamp 1 1)) []))

-- 0 takes the VAL
abbrev pub told0 : Entry
told0 = thereafter turned0 (delivery (mail 1 0 (Val (stamp 1 1)) []))

-- the list, the latest entry first
abbrev pub new_list : List Entry
new_list = told0 ∷ whole1 ∷ half1 ∷ turned2 ∷ turned0 ∷ whole2 ∷ half2 ∷ met1 ∷ met0 ∷ tied2 ∷ tied1 ∷ []

-- 0 and 1 after it, and the group
abbrev pub new_laptop0 : Node
new_laptop0 = (outcome told0).node

abbrev pub new_laptop1 : Node
new_laptop1 = (outcome whole1).node

abbrev pub new_now : List Node
new_now = new_laptop0 ∷ new_laptop1 ∷ (outcome turned2).node ∷ []

-- ---- what is shown of them

-- the premises, and so the claim, of a group with these settings; and the premises of `Agreement`: two of its laptops stand in each other's view,
-- and both show the record valid
pub record Claimed (settings : Settings) (entries : List Entry) (group : List Node) (a b : Node) : Type 0 where
  pub premises : Premises issued settings (begun settings)
  pub history : History issued (begun settings) entries group
  pub agreed : Agreement group × Kept settings.rule entries group
  pub there : Among a group
  pub too : Among b group
  pub sees : InView b.me.number a.me.view
  pub seen : InView a.me.number b.me.view
  pub shows : ShowsValid 0 a
  pub shown : ShowsValid 0 b

-- the premises of `Kept`: an accepted validation is in the list, and a laptop of its finisher's view shows the record valid after it
pub record Finished (entries : List Entry) (group : List Node) (e : Entry) (other : Node) : Type 0 where
  pub listed : Among e entries
  pub validates : Validates e.event 0 e.found
  pub accepted : number_of (outcome e).answer ≡ 0
  pub there : Among other group
  pub sees : InView other.me.number e.found.me.view
  pub shows : ShowsValid 0 other

-- 02, Wish 6, "gives a tie to": the entry validates the loser's save of this version, and the other laptop shows the winner's
pub record TieGoes (e : Entry) (other : Node) (version loser winner : ℕ) : Type 0 where
  pub lost : (record_of 0 e.found).timestamp ≡ stamp version loser
  pub won : (record_of 0 other).timestamp ≡ stamp version winner

-- what it shows; `proofs/SecondPremises` computes it
pub record SecondWitness : Type 0 where
  pub any : (issued : ℕ → ℕ) (earlier : List Entry) → AnyEvent issued earlier
  -- the old rule's group: the claim; its second half of a last ACK in write, of a Validate and of a last ACK in replay; a tie goes to 2 from 1
  pub old_group : Claimed old_rule list now laptop0 laptop1
  pub in_write : Finished list now settled laptop1
  pub by_validate : Finished list now finished laptop0
  pub in_replay : Finished list now resettled laptop1
  pub old_tie : TieGoes finished laptop0 2 1 2
  -- the new rule's group: the claim; its second half of the loser's and of the winner's last ACK; a tie goes to 1 from 2
  pub new_group : Claimed new_rule new_list new_now new_laptop0 new_laptop1
  pub of_loser : Finished new_list new_now whole2 new_laptop0
  pub of_winner : Finished new_list new_now whole1 new_laptop0
  pub new_tie : TieGoes whole2 new_laptop0 1 2 1
