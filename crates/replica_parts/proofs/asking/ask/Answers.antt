-- An ask looks at the store's length alone, and so answers as the event does.
use Rattle.std.specs.Prelude.{ℕ, zero, suc, ◌≡◌, Result, Ok, Err, None, MatchResult}
use Rattle.std.proofs.Common.{[], ap, length, refl}
use Rattle.hermes_record.specs.declared.timestamp.Timestamp.{Timestamp}
use Rattle.hermes_record.specs.declared.record.Record.{Record}
use Rattle.hermes.specs.declared.event.Refused.{Refused}
use Rattle.hermes_record.specs.Order.{ties}
use Rattle.hermes.specs.declared.event.Event.TheVariants.{Ask}
use Rattle.hermes.specs.Event.{Effect, refusal, moved, ask_stamp, ask_hands, moved_by, read_step}
use Rattle.hermes.specs.Node.{record_at, apply}
use Rattle.replica_outcome.proofs.Outcomes.{quiet}
use Rattle.replica_reading.specs.Asking.{handed_by}
use Rattle.replica_parts.proofs.asking.ask.Goals as goal

-- what an ask hands out, by its answer
matched : (k : ℕ) (r : Record) (h : Result Timestamp Refused) (t : Timestamp) → h ≡ handed_by (moved_by k r (read_step r)).answer t
    → MatchResult h (λ u. ((moved_by k r (read_step r)).answer ≡ Ok None) × (u ≡ t)) (λ e. (moved_by k r (read_step r)).answer ≡ Err e)
matched zero r (Ok u) t e = (refl, cc)
matched zero r (Err x) t e = absurd (cc)
matched (suc k) r (Ok u) t e = absurd (cc)
matched (suc k) r (Err x) t e = cc

pub returns : goal.returns
unfolding apply ask_hands moved
returns c =
    let a = c.args in let r = record_at a.table.now a.i in let e = rw c.subject.ensures at c.ask.ensures in
    rw (ap (λ (z : Effect). z.moved.answer) (quiet ties a.me (length a.table.now) a.i r a.store.now Ask [] tt))
    (matched (refusal a.me (length a.table.now) (length a.store.now) a.i r Ask 0) r c.ask.result (ask_stamp a.me (length a.table.now) (length a.store.now) a.i r) e)
