-- What the exported functions say of an event's answer is what hermes says of the message that left: who gets it, and the bytes that it takes along.
use Rattle.std.specs.Prelude.{ℕ, ◌≡◌, List}
use Rattle.hermes.specs.declared.event.Event.{Event}
use Rattle.hermes_record.specs.Order.{ties}
use Rattle.hermes.specs.Event.{sent_by}
use Rattle.hermes.specs.Node.{Node, leaving, apply}
use Rattle.hermes.specs.Recipients.{GoesTo}
use Rattle.export_numbers.specs.declared.numbers.CetskobiAnswer.{CetskobiAnswer}
use Rattle.export_calls.specs.Calls.{Done}
use Rattle.export_outgoing.specs.Leaving.{recipients_of, Delivered, along, along_of}

-- `cetskobi_recipients`, asked with the kind of an event's answer and the sender of what it delivered: an INV and a VAL go to exactly the
-- others of the view, an ACK to exactly the sender of its INV
abbrev pub AskedWhoGets : Type 0
AskedWhoGets = (n : Node) (i : ℕ) (e : Event) (v : List ℕ) (before : List ℕ) (a : CetskobiAnswer) (bytes' store' : List ℕ) (sender : ℕ)
    → Done n before i e v a bytes' store' → Delivered e sender
    → GoesTo n.me e (sent_by (apply ties n i e v).answer) (recipients_of n.me a.kind sender)

-- `cetskobi_body`, asked with an event's answer on the memory that the event left: the bytes that what left takes along, which are never gone
abbrev pub AskedBody : Type 0
AskedBody = (n : Node) (i : ℕ) (e : Event) (v : List ℕ) (before : List ℕ) (a : CetskobiAnswer) (bytes' store' : List ℕ)
    → Done n before i e v a bytes' store'
    → along_of bytes' store' i a ≡ along (leaving (sent_by (apply ties n i e v).answer) (apply ties n i e v).node.table (apply ties n i e v).node.store)
