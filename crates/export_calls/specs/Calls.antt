-- What every exported event on a record begins and ends with, and what it does: that of hermes's `apply` on the replica whose table the bytes hold.
use Rattle.std.specs.Prelude.{ℕ, ◌≡◌, Option, Some, None, Ok, Err, List, length}
use Rattle.hermes_record.specs.declared.record.Record.{Record}
use Rattle.hermes.specs.declared.event.Replica.{Replica}
use Rattle.hermes.specs.declared.event.Event.{Event}
use Rattle.hermes.specs.declared.event.Moved.{Moved}
use Rattle.hermes_record.specs.Order.{ties}
use Rattle.hermes.specs.Node.{Node, lent, effect_of, apply}
use Rattle.hermes.specs.Answer.{no}
use Rattle.replica_asking.specs.Cascade.{Asked, asked, beforehand}
use Rattle.export_numbers.specs.declared.numbers.CetskobiReplica.{CetskobiReplica}
use Rattle.export_numbers.specs.declared.numbers.CetskobiAnswer.{CetskobiAnswer}
use Rattle.export_numbers.specs.Crossing.{replica_of, answer_out}
use Rattle.export_decoding.specs.Decoding.{unsound}
use Rattle.export_records.specs.Layout.{count_of, table_of, found_at}
use Rattle.export_storing.specs.Storing.{bytes_after, table_after}

-- the replica with the memory that came from outside
abbrev pub node_of : CetskobiReplica → List ℕ → List ℕ → Node
node_of me bytes store = lent (replica_of me) (table_of bytes) store

-- after questions 1 to 4 the record that was found; where there is none, its bytes have no state, and question 5 says no
abbrev pub with_record : Asked → Option Record → Asked
with_record (Err e) f = Err e
with_record (Ok r) (Some s) = Ok s
with_record (Ok r) None = Err (no 5)

-- the beginning of an event on number i, with a store of n bytes: questions 1 to 4, and then the record that the bytes hold there
abbrev pub beginning : Replica → List ℕ → ℕ → ℕ → Asked
beginning me bytes n i = with_record (asked (beforehand me (count_of (length bytes)) n i) unsound) (found_at bytes i)

-- the answer, the bytes and the table that they hold, after an event that moved record i so
pub record Finished (before : List ℕ) (i : ℕ) (m : Moved) (a : CetskobiAnswer) (bytes' : List ℕ) : Type 0 where
  pub answer : a ≡ answer_out m.answer
  pub bytes : bytes' ≡ bytes_after m before i
  pub table : table_of bytes' ≡ table_after m (table_of before) i

-- the answer, the bytes, the table that they hold, and the store after event e on record i, with the value v
pub record Done (n : Node) (before : List ℕ) (i : ℕ) (e : Event) (v : List ℕ) (a : CetskobiAnswer) (bytes' store' : List ℕ) : Type 0 where
  pub answer : a ≡ answer_out (apply ties n i e v).answer
  pub bytes : bytes' ≡ bytes_after (effect_of ties n i e v).moved before i
  pub table : table_of bytes' ≡ (apply ties n i e v).node.table
  pub store : store' ≡ (apply ties n i e v).node.store
