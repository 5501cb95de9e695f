-- Which message's value is stored.
use Rattle.std.specs.Prelude.{Bool, false}
use Rattle.hermes_record.specs.declared.timestamp.Timestamp.{Timestamp}
use Rattle.hermes_record.specs.Order.{ties, later}
use Rattle.hermes.specs.declared.message.Message.{Message}
use Rattle.hermes.specs.declared.message.Message.TheVariants.{Inv, Ack, Val}
use Rattle.hermes.specs.declared.event.Settings.{Settings}
use Rattle.hermes.specs.Settings.{under}

-- 01, Deliver INV: "Only if the INV's stamp is greater" than the record's
abbrev pub stores : Settings → Timestamp → Message → Bool
stores settings now (Inv t) = later (under ties settings) t now
stores settings now (Ack t) = false
stores settings now (Val t) = false
