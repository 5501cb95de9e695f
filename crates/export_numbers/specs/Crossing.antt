-- How identities, messages and answers cross as numbers.
use Rattle.std.specs.Prelude.{ℕ, cond, eqb, Err, None, Ok, Some}
use Rattle.hermes_record.specs.declared.timestamp.Rule.{Rule}
use Rattle.hermes_record.specs.declared.timestamp.Rule.TheVariants.{Higher, Lower}
use Rattle.hermes_record.specs.Order.{rule_number}
use Rattle.hermes.specs.declared.message.Message.{Message}
use Rattle.hermes.specs.Answer.{Outgoing, Answer, Admission}
use Rattle.hermes.specs.declared.message.Received.{Received}
use Rattle.hermes.specs.declared.event.Replica.{Replica}
use Rattle.hermes.specs.declared.event.Settings.{Settings}
use Rattle.hermes.specs.Kind.{kind_of, timestamp_of, known, message_of}
use Rattle.export_numbers.specs.declared.numbers.CetskobiSettings.{CetskobiSettings}
use Rattle.export_numbers.specs.declared.numbers.CetskobiReplica.{CetskobiReplica}
use Rattle.export_numbers.specs.declared.numbers.CetskobiAnswer.{CetskobiAnswer}
use Rattle.export_numbers.specs.declared.numbers.CetskobiAdmission.{CetskobiAdmission}
use Rattle.export_numbers.specs.declared.numbers.CetskobiMessage.{CetskobiMessage}

-- ---- settings and identities

-- 02, Wish 6: the rule that a byte from outside stands for. 2 is the new rule, as in a packet's byte 0; every other value is the old one
abbrev pub rule_of : ℕ → Rule
rule_of byte = cond (eqb byte 2) Lower Higher

-- settings that came from outside, and on their way out: 1 or 2
abbrev pub settings_of : CetskobiSettings → Settings
settings_of x = record { rule = rule_of x.rule }

abbrev pub settings_out : Settings → CetskobiSettings
settings_out x = record { rule = rule_number x.rule }

-- an identity that came from outside
abbrev pub replica_of : CetskobiReplica → Replica
replica_of me = record { number = me.number; epoch = me.epoch; view = me.view; settings = settings_of me.settings }

-- the rule of a laptop's group
abbrev pub group_rule : CetskobiReplica → Rule
group_rule me = (settings_of me.settings).rule

-- an identity on its way out
abbrev pub identity_of : Replica → CetskobiReplica
identity_of me = record { number = me.number; settings = settings_out me.settings; view = me.view; epoch = me.epoch }

-- ---- answers: every case by its numbers

abbrev pub answering : ℕ → ℕ → ℕ → ℕ → CetskobiAnswer
answering number kind tie version = record { number = number; kind = kind; tie = tie; version = version }

-- the kinds are the packets'
abbrev pub message_out : Message → CetskobiAnswer
message_out m = answering 0 (kind_of m) (timestamp_of m).tie (timestamp_of m).version

-- nothing leaves: kind 0. The header is not repeated: it has the replica's number and epoch and the record's number
abbrev pub outgoing_out : Outgoing → CetskobiAnswer
outgoing_out None = answering 0 0 0 0
outgoing_out (Some (m, h)) = message_out m

-- 01, "The answer is one of these numbers, or 0 with the message"
abbrev pub answer_out : Answer → CetskobiAnswer
answer_out (Ok o) = outgoing_out o
answer_out (Err e) = answering e.0 0 0 0

-- an admission: 0 with the identity from then on, or the number of the question that said no with the identity as it was
abbrev pub admission_out : Admission → CetskobiReplica → CetskobiAdmission
admission_out (Ok me) old = record { number = 0; replica = identity_of me }
admission_out (Err e) old = record { number = e.0; replica = old }

-- ---- messages that came from outside

-- a kind that is none of the three is taken for VAL with a tie-breaker of 255, which question 12 refuses
abbrev pub message_in : ℕ → ℕ → ℕ → Message
message_in kind version tie = message_of kind (record { version = version; tie = cond (known kind) tie 255 })

abbrev pub received_in : CetskobiMessage → Received
received_in m = record { sender = m.sender; epoch = m.epoch; message = message_in m.kind m.version m.tie }
