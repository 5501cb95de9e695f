-- Equality as a test: by numbers that stand for a thing and from which it can be had back.
use Prim.Native.Nat.{ℕ, zero, suc}
use mathlib.Core.Path.{◌≡◌, refl, sym, ap, ◌∙◌}
use mathlib.Core.Bool.{Bool, true, ◌&&◌}
use mathlib.Core.List.{List, [], ◌∷◌}
use lib.ListN.{get_or}
use Rattle.hermes_record.specs.declared.timestamp.Timestamp.{Timestamp}
use Rattle.hermes_record.specs.declared.timestamp.Rule.{Rule}
use Rattle.hermes_record.specs.declared.timestamp.Rule.TheVariants.{Higher, Lower}
use Rattle.hermes_record.specs.declared.record.Record.{Record}
use Rattle.hermes_record.specs.declared.record.State.{State}
use Rattle.hermes.specs.declared.message.Message.{Message}
use Rattle.hermes.specs.Kind.{kind_of, timestamp_of, message_of}
use Rattle.hermes.proofs.Kind.{message-back}
use Rattle.hermes.specs.Answer.{Outgoing}
use Rattle.std.specs.Prelude.{None, Some}
use Rattle.std.specs.Bool.{Decides}
use Rattle.std.specs.Str.{bytes_eq}
use Rattle.std.specs.Cmp.Lexicographic.{pointwise, pointwise_decides, bytes_decides}
use Rattle.hermes.specs.declared.event.Replica.{Replica}
use Rattle.hermes_record.specs.Order.{rule_number}
use Rattle.hermes_record.specs.Record.{code}
use Rattle.hermes.specs.Node.{Node}
use Rattle.std.proofs.lemmas.Bool.{and_parts}
use Rattle.hermes.proofs.Words.{coded, coded-code}

pub record Coded (A : Type 0) : Type 0 where
  pub numbers : A → List ℕ
  pub back : List ℕ → A
  pub had : (a : A) → back (numbers a) ≡ a

unfoldable pub same : {A : Type 0} → Coded A → A → A → Bool
same c a b = bytes_eq (c.numbers a) (c.numbers b)

same-decides : {A : Type 0} (c : Coded A) (a b : A) → Decides (same c a b) (a ≡ b)
unfolding same
same-decides c a b = (λ e. sym (c.had a) ∙ ap c.back ((bytes_decides (c.numbers a) (c.numbers b)).0 e) ∙ c.had b, λ e. (bytes_decides (c.numbers a) (c.numbers b)).1 (ap c.numbers e))

pub same-sound : {A : Type 0} (c : Coded A) (a b : A) → same c a b ≡ true → a ≡ b
same-sound c a b = (same-decides c a b).0

unfoldable pub state_code : Coded State
state_code = record { numbers = λ s. code s ∷ []; back = λ l. coded (get_or l 0 0); had = λ s. sym (coded-code s) }

unfoldable pub timestamp_code : Coded Timestamp
timestamp_code = record { numbers = λ t. t.version ∷ t.tie ∷ []; back = λ l. record { version = get_or l 0 0; tie = get_or l 1 0 }; had = λ t. refl }

unfoldable pub record_numbers : Record → List ℕ
record_numbers r =
    code r.state ∷ r.timestamp.version ∷ r.timestamp.tie ∷ r.writer ∷ r.written.version ∷ r.written.tie ∷ r.acks ∷ r.len ∷ []

record_back : List ℕ → Record
record_back l = record {
  state = coded (get_or l 0 0);
  timestamp = record { version = get_or l 1 0; tie = get_or l 2 0 };
  writer = get_or l 3 0;
  written = record { version = get_or l 4 0; tie = get_or l 5 0 };
  acks = get_or l 6 0;
  len = get_or l 7 0;
}

unfoldable pub record_code : Coded Record
unfolding record_numbers record_back
record_code = record {
  numbers = record_numbers;
  back = record_back;
  had = λ r i. record { state = sym (coded-code r.state) i; timestamp = r.timestamp; writer = r.writer; written = r.written; acks = r.acks; len = r.len };
}

pub rule_back : ℕ → Rule
rule_back zero = Higher
rule_back (suc zero) = Higher
rule_back (suc (suc n)) = Lower

pub rule-had : (rule : Rule) → rule_back (rule_number rule) ≡ rule
unfolding rule_back
rule-had Higher = refl
rule-had Lower = refl

unfoldable pub rule_code : Coded Rule
rule_code = record { numbers = λ rule. rule_number rule ∷ []; back = λ l. rule_back (get_or l 0 0); had = rule-had }

unfoldable pub replica_code : Coded Replica
replica_code = record {
  numbers = λ m. m.number ∷ m.epoch ∷ m.view ∷ rule_number m.settings.rule ∷ [];
  back = λ l. record { number = get_or l 0 0; epoch = get_or l 1 0; view = get_or l 2 0; settings = record { rule = rule_back (get_or l 3 0) } };
  had = λ m i. record { number = m.number; epoch = m.epoch; view = m.view; settings = record { rule = rule-had m.settings.rule i } };
}

unfoldable pub message_numbers : Message → List ℕ
message_numbers m = kind_of m ∷ (timestamp_of m).version ∷ (timestamp_of m).tie ∷ []

unfoldable pub outgoing_numbers : Outgoing → List ℕ
outgoing_numbers None = []
outgoing_numbers (Some (m, h)) = h.sender ∷ h.epoch ∷ h.index ∷ message_numbers m

pub outgoing_back : List ℕ → Outgoing
outgoing_back [] = None
outgoing_back (x ∷ l) = Some (message_of (get_or l 2 0) (record { version = get_or l 3 0; tie = get_or l 4 0 }), record { sender = x; epoch = get_or l 0 0; index = get_or l 1 0 })

pub outgoing-had : (o : Outgoing) → outgoing_back (outgoing_numbers o) ≡ o
unfolding outgoing_back outgoing_numbers message_numbers
outgoing-had None = refl
outgoing-had (Some (m, h)) = ap (λ (x : Message). Some (x, h)) (message-back m)

unfoldable pub outgoing_code : Coded Outgoing
outgoing_code = record { numbers = outgoing_numbers; back = outgoing_back; had = outgoing-had }

unfoldable pub same_node : Node → Node → Bool
same_node n m = same replica_code n.me m.me && (pointwise (same record_code) n.table m.table && bytes_eq n.store m.store)

pub node-sound : (n m : Node) → same_node n m ≡ true → n ≡ m
unfolding same_node
node-sound n m e =
    let (p, q) = and_parts (same replica_code n.me m.me) _ e in
    let (s, t) = and_parts (pointwise (same record_code) n.table m.table) _ q in
    let p' : n.me ≡ m.me = same-sound replica_code n.me m.me p in
    let s' : n.table ≡ m.table = (pointwise_decides (same-decides record_code) n.table m.table).0 s in
    let t' : n.store ≡ m.store = (bytes_decides n.store m.store).0 t in
    λ i. record { me = p' i; table = s' i; store = t' i }
