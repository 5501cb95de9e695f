-- Every record comes back from its bytes.
use Prim.Native.Nat.{ℕ, ◌/◌, ◌%◌, ◌≤◌}
use mathlib.Core.Path.{◌≡◌, refl}
use native.Mathlib.Omega.{arith}
use borrow.Author.Tests.{le-ltb}
use Rattle.hermes_record.specs.declared.record.Record.{Record}
use Rattle.hermes_record.specs.declared.record.State.{State}
use Rattle.hermes_record.specs.declared.record.State.TheVariants.{Valid, Invalid, InvalidWrite, Write, Replay}
use Rattle.hermes_record.specs.Record.{code}
use Rattle.export_decoding.specs.Decoding.{two, four, state_of, decode, decode_at}
use Rattle.export_storing.specs.Storing.{record_bytes}

two_back : (n : ℕ) → two (n % 256) (n / 256) ≡ n
two_back n = omega arith

four-back : (n : ℕ) → four (n % 256) (n / 256 % 256) (n / 65536 % 256) (n / 16777216) ≡ n
four-back n = omega arith

state-back : (s : State) → state_of (code s) ≡ s
state-back Valid = refl
state-back Invalid = refl
state-back InvalidWrite = refl
state-back Write = refl
state-back Replay = refl

known : (s : State) → code s ≤ 4
known Valid = omega arith
known Invalid = omega arith
known InvalidWrite = omega arith
known Write = omega arith
known Replay = omega arith

pub decode-encode : (r : Record) → decode_at (record_bytes r) 0 ≡ r
unfolding decode
decode-encode r =
    simp (le-ltb 4 (code r.state) (known r.state), state-back r.state, four-back r.timestamp.version, four-back r.written.version, two_back r.acks)
