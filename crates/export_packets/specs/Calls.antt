-- What the exported functions on packets answer, and what they leave in the output; `rule` is that of the settings passed (02, Wish 6).
use Rattle.std.specs.Prelude.{ℕ, List, length}
use Rattle.hermes_record.specs.declared.timestamp.Rule.{Rule}
use Rattle.packet_format.specs.Reading.{fetched}
use Rattle.packet_format.specs.Accepting.{accepted, taken}
use Rattle.packet_format.specs.Writing.{output_of}
use Rattle.packet_words.specs.Words.{word_messages, packed}
use Rattle.export_fields.specs.declared.answers.CetskobiAccepted.{CetskobiAccepted}
use Rattle.export_fields.specs.declared.answers.CetskobiFetched.{CetskobiFetched}
use Rattle.export_fields.specs.declared.answers.CetskobiWritten.{CetskobiWritten}
use Rattle.export_fields.specs.Answers.{fetched_out, taken_out, accepted_out, accepted_in, written_out}

-- `cetskobi_fetch`, of message i
abbrev pub fetch_answer : Rule → List ℕ → ℕ → CetskobiFetched
fetch_answer rule packet i = fetched_out (fetched rule packet i)

-- 02, Wish 4: `cetskobi_accept`
abbrev pub accept_answer : Rule → List ℕ → CetskobiAccepted
accept_answer rule packet = accepted_out (accepted rule packet)

-- and `cetskobi_fetch_accepted`, of message i by these facts
abbrev pub take_answer : List ℕ → CetskobiAccepted → ℕ → CetskobiFetched
take_answer packet facts i = taken_out (taken packet (accepted_in facts) i)

-- `cetskobi_pack`, of messages as words, seven for each, and their bodies end to end
abbrev pub pack_answer : List ℕ → List ℕ → List ℕ → CetskobiWritten
pack_answer messages bodies out = written_out (packed messages bodies (length out))

-- and the output after it
abbrev pub pack_output : Rule → List ℕ → List ℕ → List ℕ → List ℕ
pack_output rule messages bodies out = output_of rule (packed messages bodies (length out)) (word_messages messages) bodies out
