-- A message taken by the packet's own facts is the one fetched, and its entry is good: its numbers stand for that message.
use Prim.Native.Nat.{ℕ}
use mathlib.Core.Path.{◌≡◌, refl, sym, ap, ◌∙◌}
use mathlib.Core.Bool.{true, cond}
use mathlib.Core.List.{List}
use Rattle.hermes_record.specs.declared.timestamp.Rule.{Rule}
use Rattle.hermes.specs.declared.message.Received.{Received}
use Rattle.hermes.specs.declared.event.Event.TheVariants.{Deliver}
use Rattle.hermes_record.specs.Order.{ties}
use Rattle.hermes.specs.Kind.{known, message_of}
use Rattle.hermes.specs.Node.{Node, apply}
use Rattle.packet_format.specs.declared.entry.Fields.{Fields}
use Rattle.packet_format.specs.Answer.{Taken}
use Rattle.std.specs.Prelude.{Err, Ok}
use Rattle.packet_format.specs.Entry.{entry_of}
use Rattle.packet_format.specs.Reading.{fetched, body_of}
use Rattle.packet_format.specs.Accepting.{accepted, taken, fetched_of}
use Rattle.packet_format.proofs.Entries.{good-parts}
use Rattle.packet_format.proofs.Accepting.{taken-is-fetched, taken-is-good}
use Rattle.packet_event.specs.Arrival.{received_of, receipt_of}
use Rattle.export_numbers.specs.Crossing.{group_rule, received_in}
use Rattle.export_records.specs.Layout.{table_of}
use Rattle.export_calls.specs.Calls.{node_of}
use Rattle.export_arrival.specs.Arrival.{numbers_of}
use Rattle.export_accepted.specs.Arrival.{Came, taken_receipt}
use Rattle.export_accepted.specs.OnePass.{AsFetched, DeliversAll}

-- the numbers of an entry of a known kind stand for its message
stands : (f : Fields) → known f.kind ≡ true → received_in (numbers_of f) ≡ received_of (entry_of f)
stands f k =
    λ i. record { sender = f.sender; epoch = f.epoch; message = message_of f.kind (record { version = f.version; tie = cond (k i) f.tie 255 }) }

-- so the delivery comes to that of a fetch, of the facts of a group with this rule
pub own-receipt : (rule : Rule) (n : Node) (p : List ℕ) (i : ℕ) → taken_receipt n p (taken p (accepted rule p) i) ≡ receipt_of ties n p (fetched rule p i)
own-receipt rule n p i = by (taken p (accepted rule p) i) refl ∙ ap (receipt_of ties n p) (taken-is-fetched rule p i)
  where
    by : (t : Taken) → taken p (accepted rule p) i ≡ t → taken_receipt n p t ≡ receipt_of ties n p (fetched_of t)
    by (Ok f) e =
        ap (λ (m : Received). apply ties n f.index (Deliver m) (body_of p (fetched_of (Ok f)))) (stands f (good-parts f (taken-is-good rule p i f e)).kind)
    by (Err k) e = refl

pub delivers-all : DeliversAll
delivers-all me table store packet i r table' store' came = by (taken packet (accepted (group_rule me) packet) i) refl came
  where
    by : (t : Taken) → taken packet (accepted (group_rule me) packet) i ≡ t → Came (node_of me table store) table packet t r table' store' → AsFetched me table store packet i r table' store'
    by (Ok f) e c =
        let same = sym (taken-is-fetched (group_rule me) packet i) ∙ ap fetched_of e in
        let d = rw (stands f (good-parts f (taken-is-good (group_rule me) packet i f e)).kind) at c.done in
        record { arrived = rw same (record { answer = d.answer; bytes = d.bytes; table = d.table; store = d.store }); message = rw same c.message }
    by (Err k) e c =
        let same = sym (taken-is-fetched (group_rule me) packet i) ∙ ap fetched_of e in
        record { arrived = rw same (record { answer = c.done.0; bytes = c.done.1; table = ap table_of c.done.1; store = c.done.2 }); message = rw same c.message }
