-- An exported delivery from a packet: a message found there is delivered as one from elsewhere is, and a refused fetch changes nothing.
use Prim.Native.Nat.{ℕ}
use mathlib.Core.Path.{◌≡◌, refl, sym, ap, ◌∙◌}
use mathlib.Core.List.{List}
use Rattle.hermes.specs.declared.message.Message.{Message}
use Rattle.hermes.specs.declared.message.Message.TheVariants.{Inv, Ack, Val}
use Rattle.hermes.specs.declared.event.Settings.{Settings}
use Rattle.hermes.specs.declared.event.Event.TheVariants.{Deliver}
use Rattle.packet_format.specs.Answer.{Fetched}
use Rattle.std.specs.Prelude.{Ok}
use Rattle.packet_format.specs.declared.entry.Entry.{Entry}
use Rattle.packet_format.specs.declared.entry.Fields.{Fields}
use Rattle.hermes.specs.Kind.{kind_of, timestamp_of}
use Rattle.packet_format.specs.Entry.{fields_for}
use Rattle.packet_format.specs.Reading.{fetched, body_of}
use Rattle.export_numbers.specs.declared.numbers.CetskobiReplica.{CetskobiReplica}
use Rattle.export_numbers.specs.declared.numbers.CetskobiAnswer.{CetskobiAnswer}
use Rattle.export_numbers.specs.declared.numbers.CetskobiMessage.{CetskobiMessage}
use Rattle.export_numbers.specs.Crossing.{settings_of, group_rule, message_in, received_in}
use Rattle.export_calls.specs.Calls.{node_of, Done}
use Rattle.export_arrival.specs.Arrival.{numbers_of, Arrived}

-- a message that crossed as its numbers is that message
back : (m : Message) → message_in (kind_of m) (timestamp_of m).version (timestamp_of m).tie ≡ m
back (Inv t) = refl
back (Ack t) = refl
back (Val t) = refl

pub found : (me : CetskobiReplica) (bytes store p : List ℕ) (i : ℕ) (x : Settings) (f : Fetched) → x ≡ settings_of me.settings → f ≡ fetched x.rule p i
    → (e : Entry) (at : ℕ) → ◌≡◌ {A = Fetched} f (Ok (e, at)) → (b : Fields) (m : CetskobiMessage) (v : List ℕ) → b ≡ fields_for e at → m ≡ numbers_of b → v ≡ body_of p (Ok (e, at))
    → (a : CetskobiAnswer) (bytes' store' : List ℕ) → Done (node_of me bytes store) bytes b.index (Deliver (received_in m)) v a bytes' store'
    → Arrived (node_of me bytes store) bytes p (fetched (group_rule me) p i) a bytes' store'
found me bytes store p i x f given fetches e at finds b m v takes crosses brings a bytes' store' d =
    let s = rw (crosses, takes, back e.message, brings) at d in
    let came : ◌≡◌ {A = Fetched} (fetched (group_rule me) p i) (Ok (e, at)) = ap (λ (y : Settings). fetched y.rule p i) (sym given) ∙ sym fetches ∙ finds in
    rw came (record { answer = s.answer; bytes = s.bytes; table = s.table; store = s.store })
