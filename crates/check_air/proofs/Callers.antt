-- Every list of calls on a group is a list of entries of the run that demand 3 speaks of: so what holds after those holds after the calls.
use Prim.Native.Nat.{ℕ, zero, suc, ◌<◌}
use mathlib.Core.Path.{◌≡◌, refl, sym, ap, ap₂, subst, ◌∙◌}
use mathlib.Core.Bool.{Bool, true, false, cond, false≢true}
use mathlib.Core.List.Memᴰ
use mathlib.Core.List.{List, [], ◌∷◌, ◌++◌, Memᴰ}
use mathlib.Core.Logic.{◌⊎◌, inl, inr}
use native.Mathlib.Omega.{arith}
use lib.Dec.{eqb}
use lib.ListN.{length}
use lib.Seq.{set-get_or}
use borrow.Author.Tests.{eqb-true}
use Rattle.packet_format.specs.Answer.{Fetched, Taken}
use Rattle.hermes.specs.Answer.{Answer, Admission, Outgoing, no}
use Rattle.std.specs.Prelude.{Err, None, Ok, Some}
use Rattle.hermes.specs.declared.event.Refused.{Refused}
use Rattle.hermes.specs.declared.event.Replica.{Replica}
use Rattle.hermes.specs.declared.event.Settings.{Settings}
use Rattle.hermes.specs.declared.event.Event.{Event}
use Rattle.hermes.specs.declared.event.Event.TheVariants.{Read, Write, Commit, Replay, Deliver, Validate, Resend}
use Rattle.hermes.specs.declared.message.Header.{Header}
use Rattle.hermes.specs.declared.message.Message.{Message}
use Rattle.hermes.specs.declared.message.Message.TheVariants.{Inv, Ack, Val}
use Rattle.hermes_record.specs.declared.record.Record.{Record}
use Rattle.hermes_record.specs.declared.timestamp.Timestamp.{Timestamp}
use Rattle.hermes_record.specs.declared.timestamp.Rule.{Rule}
use Rattle.hermes_record.specs.declared.timestamp.Rule.TheVariants.{Higher, Lower}
use Rattle.hermes_record.specs.Order.{ties, rule_number, later, NotAfter}
use Rattle.hermes.specs.Settings.{under}
use Rattle.hermes_record.specs.Record.{fresh_record}
use Rattle.hermes.specs.Kind.{inv, ack, known}
use Rattle.hermes.specs.Guards.{shapely}
use Rattle.hermes.specs.Event.{inv_step, ack_step, completes, deliver_step, send, number_of, sent_by}
use Rattle.hermes.specs.Node.{Node, Outcome, index_of, identity, newcomer, start_refusal, begin, start, apply, viewed, record_of}
use Rattle.hermes.specs.Node as hermes
use Rattle.hermes.specs.Run as run
use Rattle.hermes.specs.Run.{Logged, received, Action, Entry, Group, Result, Found, found, missing, find, perform, node_after, log_after, result, advance}
use Rattle.hermes.specs.Agreement as agreement-of
use Rattle.hermes.specs.Agreement.{FreshStart, Started, AsIssued, Entries, IsAccepted, Validation, Agreement, Shows, Sees, Alike}
use Rattle.hermes.proofs.Apply.{Applied, refused, accepted, applied, its_own}
use Rattle.hermes.proofs.Agreement.{agreement}
use Rattle.hermes.proofs.Asking.{as_read_lem}
use Rattle.packet_format.specs.declared.entry.Fields.{Fields}
use Rattle.packet_format.specs.Reading.{fetched, body_of}
use Rattle.packet_format.specs.Accepting as format
use Rattle.packet_format.specs.Accepting.{taken, fetched_of}
use Rattle.packet_format.proofs.Accepting.{taken-is-fetched, taken-alike}
use Rattle.packet_event.specs.Arrival.{received_of, receipt_of, receipt}
use Rattle.export_records.specs.Layout.{table_of}
use Rattle.export_records.proofs.Lent.{length-table}
use Rattle.export_numbers.specs.declared.numbers.CetskobiReplica.{CetskobiReplica}
use Rattle.export_numbers.specs.declared.numbers.CetskobiAnswer.{CetskobiAnswer}
use Rattle.export_numbers.specs.declared.numbers.CetskobiAdmission.{CetskobiAdmission}
use Rattle.export_numbers.specs.declared.numbers.CetskobiMessage.{CetskobiMessage}
use Rattle.export_numbers.specs.Crossing as crossing
use Rattle.export_numbers.specs.Crossing.{settings_of, replica_of, identity_of, answer_out, admission_out, message_in, received_in}
use Rattle.export_fields.specs.declared.answers.CetskobiAccepted.{CetskobiAccepted}
use Rattle.export_fields.specs.Answers.{accepted_in}
use Rattle.export_arrival.specs.Arrival.{numbers_of}
use Rattle.export_accepted.specs.Arrival.{Delivered, taken_receipt}
use Rattle.export_numbers.specs.Crossing.{group_rule}
use Rattle.export_accepted.proofs.OnePass.{own-receipt}
use Rattle.check_air.specs.Callers.{Laptop, node, Call, read, ask, write, commit, replay, deliver, deliver_packet, deliver_accepted, validate, resend, view, Moves, Returns, Hut, Turn, outcome, log_of, next, after, FromAir, Fair, Follows, Begun, AllBegun, laptop, Delivers, Finishes, validates, acknowledges, CallsAgree, CalledDemand3}
use Rattle.check_air.proofs.Air.{entry_left, found_left}

-- ---- the log

-- a message of the log has a log number
log-number : (x : Logged) (log : List Logged) → Memᴰ x log → (j : ℕ) × (find log j ≡ found x)
log-number x [] m = absurd (Memᴰ.not-nil m)
log-number x (y ∷ log) m = go (Memᴰ.cases_cons m) (log-number x log)
  where
    go : (x ≡ y) ⊎ Memᴰ x log → (Memᴰ x log → (j : ℕ) × (find log j ≡ found x)) → (j : ℕ) × (find (y ∷ log) j ≡ found x)
    go (inl h) rest = (0, ap found (sym h))
    go (inr h) rest = let (j, e) = rest h in (suc j, e)

-- and its length is the number of none
no_number : (log : List Logged) → find log (length log) ≡ missing
no_number [] = refl
no_number (x ∷ log) = no_number log

-- ---- one call

-- the entry of a delivery by facts: that of log number j, or of a message that there is not
abbrev taken-action : List Logged → ℕ → Taken → Action
taken-action log j (Ok g) = run.deliver j
taken-action log j (Err k) = run.deliver (length log)

-- the entry of a call
pub action : (issued : ℕ → ℕ) (log : List Logged) (rule : Rule) (c : Call) → Fair issued log rule c → Action
action issued log rule (read i) f = run.read i
action issued log rule (ask i) f = run.ask i
action issued log rule (write i v) f = run.write i v
action issued log rule (commit i version tie v) f = run.commit i (record { version = version; tie = tie }) v
action issued log rule (replay i) f = run.replay i
action issued log rule (deliver i m v) (inl f) = run.deliver (log-number f.message log f.earlier).0
action issued log rule (deliver i m v) (inr f) = run.deliver (length log)
action issued log rule (deliver_packet p i) (inl f) = run.deliver (log-number f.message log f.earlier).0
action issued log rule (deliver_packet p i) (inr f) = run.deliver (length log)
action issued log rule (deliver_accepted p a i) (inl (packing, f)) = taken-action log (log-number f.message log f.earlier).0 (taken p (accepted_in a) i)
action issued log rule (deliver_accepted p a i) (inr f) = run.deliver (length log)
action issued log rule (validate i) f = run.validate i
action issued log rule (resend i) f = run.resend i
action issued log rule (view epoch set) f = run.view epoch set

as-issued : (issued : ℕ → ℕ) (log : List Logged) (rule : Rule) (c : Call) (f : Fair issued log rule c) → AsIssued issued (action issued log rule c f)
unfolding action
as-issued issued log rule (read i) f = tt
as-issued issued log rule (ask i) f = tt
as-issued issued log rule (write i v) f = tt
as-issued issued log rule (commit i version tie v) f = tt
as-issued issued log rule (replay i) f = tt
as-issued issued log rule (deliver i m v) (inl f) = tt
as-issued issued log rule (deliver i m v) (inr f) = tt
as-issued issued log rule (deliver_packet p i) (inl f) = tt
as-issued issued log rule (deliver_packet p i) (inr f) = tt
as-issued issued log rule (deliver_accepted p a i) (inl (packing, f)) = by (taken p (accepted_in a) i)
  where
    by : (t : Taken) → AsIssued issued (taken-action log (log-number f.message log f.earlier).0 t)
    by (Ok g) = tt
    by (Err k) = tt
as-issued issued log rule (deliver_accepted p a i) (inr f) = tt
as-issued issued log rule (validate i) f = tt
as-issued issued log rule (resend i) f = tt
as-issued issued log rule (view epoch set) f = f

-- the entry does what the call's event comes to
record Does (log : List Logged) (n : Node) (a : Action) (o : Outcome) : Type 0 where
  leaves : node_after (perform ties a log n) n ≡ o.node
  logs : log_after (perform ties a log n) log ≡ log_of log o

-- an event is an entry as it stands
event-does : (log : List Logged) (n : Node) (a : Action) (o : Outcome) → perform ties a log n ≡ run.event o → Does log n a o
event-does log n a o e = record { leaves = ap (λ (r : Result). node_after r n) e; logs = ap (λ (r : Result). log_after r log) e }

-- the delivery of a logged message
sent-does : (log : List Logged) (n : Node) (x : Logged) (m : Memᴰ x log) (o : Outcome) → o ≡ apply ties n x.header.index (Deliver (received x)) x.body
    → Does log n (run.deliver (log-number x log m).0) o
sent-does log n x m o e =
    event-does log n (run.deliver (log-number x log m).0) o (ap (λ (f : Found). run.delivery ties f n) (log-number x log m).1 ∙ ap run.event (sym e))

-- what is refused for itself is the entry of a message that there is not
nothing-does : (log : List Logged) (n : Node) (r : Refused) (o : Outcome) → o ≡ record { answer = Err r; node = n } → Does log n (run.deliver (length log)) o
nothing-does log n r o e = record {
  leaves = ap (λ (r : Result). node_after r n) nothing ∙ sym (ap (λ (x : Outcome). x.node) e);
  logs = ap (λ (r : Result). log_after r log) nothing ∙ sym (ap (log_of log) e);
}
  where
    nothing : perform ties (run.deliver (length log)) log n ≡ run.nothing
    nothing = ap (λ (x : Found). run.delivery ties x n) (no_number log)

-- a message of an unknown kind has a tie-breaker of 255, and question 12 says no
unknown-shape : (kind version tie n : ℕ) → known kind ≡ false → shapely (message_in kind version tie) n ≡ false
unknown-shape kind version tie n e = rw e (go (eqb kind inv) (eqb kind ack))
  where
    go : (x y : Bool) → shapely (cond x (Inv (record { version = version; tie = 255 })) (cond y (Ack (record { version = version; tie = 255 })) (Val (record { version = version; tie = 255 })))) n ≡ false
    go true y = refl
    go false true = refl
    go false false = refl

unknown-refused : (n : Node) (i : ℕ) (m : CetskobiMessage) (v : List ℕ) → known m.kind ≡ false
    → (r : Refused) × (apply ties n i (Deliver (received_in m)) v ≡ record { answer = Err r; node = n })
unknown-refused n i m v e = go (applied ties n i (Deliver (received_in m)) v)
  where
    go : Applied ties n i (Deliver (received_in m)) v (apply ties n i (Deliver (received_in m)) v)
        → (r : Refused) × (apply ties n i (Deliver (received_in m)) v ≡ record { answer = Err r; node = n })
    go (refused k z p) = (no (suc k), p)
    go (accepted y c p) = absurd (false≢true (sym (unknown-shape m.kind m.version m.tie (length v) e) ∙ (its_own n i (Deliver (received_in m)) v y).1.1.0))

-- a packet brings the message that left
carried : (rule : Rule) (log : List Logged) (n : Node) (p : List ℕ) (i : ℕ) (f : FromAir rule log p i)
    → receipt_of ties n p (fetched rule p i) ≡ apply ties n f.message.header.index (Deliver (received f.message)) f.message.body
carried rule log n p i f =
    let (at, finds, brings) = found_left rule f.before f.after f.sending f.message p f.called f.packed in
    ap (λ (j : ℕ). receipt_of ties n p (fetched rule p j)) f.place ∙ ap (receipt_of ties n p) finds ∙ ap (apply ties n f.message.header.index (Deliver (received f.message))) brings

-- so does one that left, by whatever facts it is taken
carried-taken : (rule : Rule) (log : List Logged) (n : Node) (p : List ℕ) (a : CetskobiAccepted) (i : ℕ) (f : FromAir rule log p i) (g : Fields) → taken p (accepted_in a) i ≡ Ok g
    → taken_receipt n p (Ok g) ≡ apply ties n f.message.header.index (Deliver (received f.message)) f.message.body
carried-taken rule log n p a i f g e = own (taken p (format.accepted rule p) i) refl ∙ own-receipt rule n p i ∙ carried rule log n p i f
  where
    own : (t : Taken) → taken p (format.accepted rule p) i ≡ t → taken_receipt n p (Ok g) ≡ taken_receipt n p (taken p (format.accepted rule p) i)
    own (Ok h) e' = ap (λ (x : Fields). taken_receipt n p (Ok x)) (taken-alike p (accepted_in a) (format.accepted rule p) i g h e e') ∙ sym (ap (taken_receipt n p) e')
    own (Err r) e' =
        let (at, finds, brings) = found_left rule f.before f.after f.sending f.message p f.called f.packed in
        let no_such : fetched rule p i ≡ Err r = sym (taken-is-fetched rule p i) ∙ ap fetched_of e' in
        let found : fetched rule p i ≡ Ok (entry_left f.message, at) = ap (fetched rule p) f.place ∙ finds in
        absurd (cc)

module _ (issued : ℕ → ℕ) (log : List Logged) where
  does : (c : Call) (n : Node) (f : Fair issued log n.me.settings.rule c) → Does log n (action issued log n.me.settings.rule c f) (outcome c n)
  unfolding action receipt
  does (read i) n f = event-does log n (run.read i) _ refl
  does (ask i) n f = event-does log n (run.ask i) _ refl
  does (write i v) n f = event-does log n (run.write i v) _ refl
  does (commit i version tie v) n f = event-does log n (run.commit i (record { version = version; tie = tie }) v) _ refl
  does (replay i) n f = event-does log n (run.replay i) _ refl
  does (deliver i m v) n (inl f) = sent-does log n f.message f.earlier (outcome (deliver i m v) n) (rw (f.index, f.same, f.bytes))
  does (deliver i m v) n (inr f) = let (r, e) = unknown-refused n i m v f in nothing-does log n r (outcome (deliver i m v) n) e
  does (deliver_packet p i) n (inl f) = sent-does log n f.message f.earlier (receipt ties n p i) (carried n.me.settings.rule log n p i f)
  does (deliver_packet p i) n (inr f) = nothing-does log n (no f.number) (receipt ties n p i) (ap (receipt_of ties n p) f.refused)
  does (deliver_accepted p a i) n (inl (packing, f)) = by (taken p (accepted_in a) i) refl
    where
      by : (t : Taken) → taken p (accepted_in a) i ≡ t → Does log n (taken-action log (log-number f.message log f.earlier).0 t) (taken_receipt n p t)
      by (Ok g) e = sent-does log n f.message f.earlier (taken_receipt n p (Ok g)) (carried-taken packing log n p a i f g e)
      by (Err r) e = nothing-does log n r (taken_receipt n p (Err r)) refl
  does (deliver_accepted p a i) n (inr f) = nothing-does log n (no f.number) (taken_receipt n p (taken p (accepted_in a) i)) (ap (taken_receipt n p) f.refused)
  does (validate i) n f = event-does log n (run.validate i) _ refl
  does (resend i) n f = event-does log n (run.resend i) _ refl
  does (view epoch set) n f = event-does log n (run.view epoch set) _ refl

-- the laptop that a call leaves is the one that its event leaves
keeps-me : (n : Node) (i : ℕ) (e : Event) (v : List ℕ) → (apply ties n i e v).node.me ≡ n.me
unfolding apply
keeps-me n i e v = refl

moves : (l l' : Laptop) (i : ℕ) (e : Event) (v : List ℕ) (number : ℕ) → Moves l i e v number l' → node l' ≡ (apply ties (node l) i e v).node
moves l l' i e v number (a, d, q, same) =
    let me : replica_of l'.me ≡ (apply ties (node l) i e v).node.me = ap replica_of same ∙ sym (keeps-me (node l) i e v) in
    λ j. record { me = me j; table = d.table j; store = d.store j }

-- a read changes nothing
reads : (n : Node) (i : ℕ) → (apply ties n i Read []).node ≡ n
reads n i = go (applied ties n i Read [])
  where
    go : Applied ties n i Read [] (apply ties n i Read []) → (apply ties n i Read []).node ≡ n
    go (refused k z p) = ap (λ (o : Outcome). o.node) p
    go (accepted y c p) = ap (λ (o : Outcome). o.node) p ∙ ap (λ (t : List Record). record { me = n.me; table = t; store = n.store }) (set-get_or n.table i (fresh_record 0))

receipt-keeps : (n : Node) (p : List ℕ) (f : Fetched) → (receipt_of ties n p f).node.me ≡ n.me
receipt-keeps n p (Ok (e, at)) = keeps-me n e.header.index (Deliver (received_of e)) (body_of p (Ok (e, at)))
receipt-keeps n p (Err k) = refl

-- an identity that went out comes back: its rule has a number
pub replica-back : (x : Replica) → replica_of (identity_of x) ≡ x
replica-back x = ap (λ (r : Rule). record { number = x.number; epoch = x.epoch; view = x.view; settings = record { rule = r } }) (back x.settings.rule)
  where
    back : (r : Rule) → crossing.rule_of (rule_number r) ≡ r
    back Higher = refl
    back Lower = refl

admits : (a : Admission) (me : CetskobiReplica) → replica_of (admission_out a me).replica ≡ identity a (replica_of me)
admits (Ok x) me = replica-back x
admits (Err k) me = refl

pub lands : (c : Call) (l l' : Laptop) (number : ℕ) → Returns c l number l' → node l' ≡ (outcome c (node l)).node
unfolding viewed receipt
lands (read i) l l' number (p, d, q, same) = ap node same ∙ sym (reads (node l) i)
lands (ask i) l l' number (p, d, q, same) = ap node same ∙ sym (ap (λ (o : Outcome). o.node) (as_read_lem ties (node l) i) ∙ reads (node l) i)
lands (write i v) l l' number r = moves l l' i Write v number r
lands (commit i version tie v) l l' number r = moves l l' i (Commit (record { version = version; tie = tie })) v number r
lands (replay i) l l' number r = moves l l' i Replay [] number r
lands (deliver i m v) l l' number r = moves l l' i (Deliver (received_in m)) v number r
lands (deliver_packet p i) l l' number (a, d, q, same) =
    let me : replica_of l'.me ≡ (receipt ties (node l) p i).node.me = ap replica_of same ∙ sym (receipt-keeps (node l) p (fetched (group_rule l.me) p i)) in
    λ j. record { me = me j; table = d.table j; store = d.store j }
lands (deliver_accepted p a i) l l' number (r, d, q, same) = by (taken p (accepted_in a) i) d.done
  where
    by : (t : Taken) → Delivered (node l) l.table p t r.answer l'.table l'.store → node l' ≡ (taken_receipt (node l) p t).node
    by (Ok g) z = moves l l' g.index (Deliver (received_in (numbers_of g))) (body_of p (fetched_of (Ok g))) r.answer.number (r.answer, z, refl, same)
    by (Err k) (s, t, u) = λ j. record { me = replica_of (same j); table = table_of (t j); store = u j }
lands (validate i) l l' number r = moves l l' i Validate [] number r
lands (resend i) l l' number r = moves l l' i Resend [] number r
lands (view epoch set) l l' number (a, e, q, same) =
    let me : replica_of a.replica ≡ identity (hermes.view (replica_of l.me) epoch set) (replica_of l.me) =
    ap (λ (x : CetskobiAdmission). replica_of x.replica) e ∙ admits (hermes.view (replica_of l.me) epoch set) l.me in
    ap node same ∙ λ j. record { me = me j; table = table_of l.table; store = l.store }

-- ---- a list of calls

-- the run of a group holds what the callers hold
pub record Match (g : Group) (h : Hut) : Type 0 where
  pub nodes : (k : ℕ) → g.at k ≡ node (h.at k)
  pub logs : g.log ≡ h.log

-- the number of an answer crosses as it is
pub number-out : (a : Answer) → (answer_out a).number ≡ number_of a
number-out (Ok None) = refl
number-out (Ok (Some (Inv t, h))) = refl
number-out (Ok (Some (Ack t, h))) = refl
number-out (Ok (Some (Val t, h))) = refl
number-out (Err k) = refl

module _ (member : ℕ → Bool) (issued : ℕ → ℕ) where
  abbrev pub entry : (h : Hut) (s : Turn) → Fair issued h.log (group_rule (h.at s.who).me) s.call → Entry
  entry h s f = record { who = s.who; what = action issued h.log (group_rule (h.at s.who).me) s.call f }

  -- one call, one entry
  pub turn-matches : (g : Group) (h : Hut) (s : Turn) (f : Fair issued h.log (group_rule (h.at s.who).me) s.call) → Returns s.call (h.at s.who) s.number s.left
      → Match g h → Match (advance ties g (entry h s f)) (next h s)
  unfolding advance result
  turn-matches g h s f r e = record { nodes = λ k. at k (eqb k s.who) refl; logs = ap₂ log_after same e.logs ∙ d.logs }
    where
      n : Node
      n = node (h.at s.who)

      a : Action
      a = action issued h.log (group_rule (h.at s.who).me) s.call f

      d : Does h.log n a (outcome s.call n)
      d = does issued h.log s.call n f

      same : result ties g (entry h s f) ≡ perform ties a h.log n
      same = ap₂ (perform ties a) e.logs (e.nodes s.who)

      at : (k : ℕ) (b : Bool) → eqb k s.who ≡ b
          → cond b (node_after (result ties g (entry h s f)) (g.at k)) (g.at k) ≡ node (cond b s.left (h.at k))
      at k true q =
          ap₂ node_after same (ap g.at (eqb-true k s.who q) ∙ e.nodes s.who) ∙ d.leaves ∙ sym (lands s.call (h.at s.who) s.left s.number r)
      at k false q = e.nodes k

  pub entries : (h : Hut) (turns : List Turn) → Follows member issued h turns → List Entry
  entries h [] f = []
  entries h (s ∷ rest) (m, fair, r, f) = entry h s fair ∷ entries (next h s) rest f

  pub first_entry : (h : Hut) (s : Turn) (rest : List Turn) (f : Follows member issued h (s ∷ rest)) → entries h (s ∷ rest) f ≡ entry h s f.1 ∷ entries (next h s) rest f.3
  unfolding entries
  first_entry h s rest f = refl

  pub are-entries : (h : Hut) (turns : List Turn) (f : Follows member issued h turns) → Entries member issued (entries h turns f)
  unfolding entries
  are-entries h [] f = tt
  are-entries h (s ∷ rest) (m, fair, r, f) = (m, as-issued issued h.log (group_rule (h.at s.who).me) s.call fair, are-entries (next h s) rest f)

  pub matches : (g : Group) (h : Hut) (turns : List Turn) (f : Follows member issued h turns) → Match g h → Match (run.run ties g (entries h turns f)) (after h turns)
  unfolding entries
  matches g h [] f e = e
  matches g h (s ∷ rest) (m, fair, r, f) e = matches (advance ties g (entry h s fair)) (next h s) rest f (turn-matches g h s fair r e)

  -- a list of calls, cut in two
  pub first_part : (h : Hut) (before rest : List Turn) → Follows member issued h (before ++ rest) → Follows member issued h before
  first_part h [] rest f = tt
  first_part h (s ∷ before) rest (m, fair, r, f) = (m, fair, r, first_part (next h s) before rest f)

  pub second-part : (h : Hut) (before rest : List Turn) → Follows member issued h (before ++ rest) → Follows member issued (after h before) rest
  second-part h [] rest f = f
  second-part h (s ∷ before) rest (m, fair, r, f) = second-part (next h s) before rest f

  pub both-parts : (h : Hut) (before rest : List Turn) (f : Follows member issued h (before ++ rest))
      → entries h (before ++ rest) f ≡ entries h before (first_part h before rest f) ++ entries (after h before) rest (second-part h before rest f)
  unfolding entries first_part second-part
  both-parts h [] rest f = refl
  both-parts h (s ∷ before) rest (m, fair, r, f) = ap (λ (es : List Entry). entry h s fair ∷ es) (both-parts (next h s) before rest f)

-- the entry of an accepted validation is an accepted validation
module _ (issued : ℕ → ℕ) (log : List Logged) (rule : Rule) (i : ℕ) where
  is-validate : (c : Call) → c ≡ validate i → (f : Fair issued log rule c) → action issued log rule c f ≡ run.validate i
  unfolding action
  is-validate c e = subst (λ (x : Call). (f : Fair issued log rule x) → action issued log rule x f ≡ run.validate i) (sym e) (λ f. refl)

  is-accepted : (l l' : Laptop) (number : ℕ) → number ≡ 0 → (c : Call) → c ≡ validate i → Returns c l number l' → IsAccepted (perform ties (run.validate i) log (node l))
  is-accepted l l' number z c e = subst (λ (x : Call). Returns x l number l' → IsAccepted (perform ties (run.validate i) log (node l))) (sym e)
      (λ r. sym (ap (λ (x : CetskobiAnswer). x.number) r.1.answer ∙ number-out (apply ties (node l) i Validate []).answer) ∙ r.2 ∙ z)

-- the entry of a read is that read, and so of an ask and a commit
module _ (issued : ℕ → ℕ) (log : List Logged) (rule : Rule) (i : ℕ) where
  pub is_read : (c : Call) → c ≡ read i → (f : Fair issued log rule c) → action issued log rule c f ≡ run.read i
  unfolding action
  is_read c e = subst (λ (x : Call). (f : Fair issued log rule x) → action issued log rule x f ≡ run.read i) (sym e) (λ f. refl)

  pub is_ask : (c : Call) → c ≡ ask i → (f : Fair issued log rule c) → action issued log rule c f ≡ run.ask i
  unfolding action
  is_ask c e = subst (λ (x : Call). (f : Fair issued log rule x) → action issued log rule x f ≡ run.ask i) (sym e) (λ f. refl)

  pub is-commit : (version tie : ℕ) (v : List ℕ) (c : Call) → c ≡ commit i version tie v → (f : Fair issued log rule c) → action issued log rule c f ≡ run.commit i (record { version = version; tie = tie }) v
  unfolding action
  is-commit version tie v c e =
      subst (λ (x : Call). (f : Fair issued log rule x) → action issued log rule x f ≡ run.commit i (record { version = version; tie = tie }) v) (sym e) (λ f. refl)

-- ---- a delivery with which a VAL leaves is that of a last ACK

-- entry a, of a laptop n with this log, delivers an ACK of record i that completes the view
record LastAck (log : List Logged) (n : Node) (i : ℕ) (a : Action) : Type 0 where
  number : ℕ
  message : Logged
  stamp : Timestamp
  delivers : a ≡ run.deliver number
  finds : find log number ≡ found message
  index : message.header.index ≡ i
  ack : message.message ≡ Ack stamp
  last : completes n.me (record_of i n) message.header.sender ≡ true
  accepted : IsAccepted (perform ties a log n)

module _ (n : Node) (i : ℕ) (t : Timestamp) where
  -- a message that is sent as that VAL is it
  sent-val : (m : Message) (h : Header) → ◌≡◌ {A = Outgoing} (Some (m, h)) (send n.me i (Val t)) → m ≡ Val t
  sent-val m h e = let q : ◌≡◌ {A = Message × Header} (m, h) (Val t, record { sender = n.me.number; epoch = n.me.epoch; index = i }) = cc in ap (λ (x : Message × Header). x.0) q

  -- what the step of a message sends is that VAL, and so the message is an ACK and completes the view
  step-last : (k sender : ℕ) (m : Message) (v : List ℕ) → (deliver_step ties n.me k (record_of k n) sender m v).sent ≡ send n.me i (Val t)
      → (k ≡ i) × ((s : Timestamp) × (m ≡ Ack s)) × (completes n.me (record_of k n) sender ≡ true)
  step-last k sender (Inv s) v e = absurd (none (later (under ties n.me.settings) s (record_of k n).timestamp) e)
    where
      none : (b : Bool) → (inv_step b n.me k (record_of k n) s sender v).sent ≡ send n.me i (Val t) → ⊥
      none true e = let q : Ack s ≡ Val t = sent-val (Ack s) _ e in cc
      none false e = let q : Ack s ≡ Val t = sent-val (Ack s) _ e in cc
  step-last k sender (Ack s) v e = go (completes n.me (record_of k n) sender) e
    where
      go : (c : Bool) → (ack_step c n.me k (record_of k n) sender).sent ≡ send n.me i (Val t) → (k ≡ i) × ((s' : Timestamp) × (Ack s ≡ Ack s')) × (c ≡ true)
      go true e = (ap index_of e, (s, refl), refl)
      go false e = absurd (cc)
  step-last k sender (Val s) v e = absurd (cc)

  -- nothing leaves a refusal
  silent : (r : Refused) → sent_by (Err r) ≡ send n.me i (Val t) → ⊥
  silent r e = cc

  module _ (log : List Logged) where
    sent-last : (x : Logged) (m : Memᴰ x log) (o : Outcome) → o ≡ apply ties n x.header.index (Deliver (received x)) x.body → sent_by o.answer ≡ send n.me i (Val t)
        → LastAck log n i (run.deliver (log-number x log m).0)
    sent-last x m o same e = go (applied ties n x.header.index (Deliver (received x)) x.body)
      where
        out : sent_by (apply ties n x.header.index (Deliver (received x)) x.body).answer ≡ send n.me i (Val t)
        out = ap (λ (z : Outcome). sent_by z.answer) (sym same) ∙ e

        go : Applied ties n x.header.index (Deliver (received x)) x.body (apply ties n x.header.index (Deliver (received x)) x.body)
            → LastAck log n i (run.deliver (log-number x log m).0)
        go (refused k z p) = absurd (silent (no (suc k)) (ap (λ (z : Outcome). sent_by z.answer) (sym p) ∙ out))
        go (accepted y c p) =
            let (at, (s, is), last) = step-last x.header.index x.header.sender x.message x.body (ap (λ (z : Outcome). sent_by z.answer) (sym p) ∙ out) in
            record {
              number = (log-number x log m).0;
              message = x;
              stamp = s;
              delivers = refl;
              finds = (log-number x log m).1;
              index = at;
              ack = is;
              last = rw at at last;
              accepted = subst (λ (f : Found). IsAccepted (run.delivery ties f n)) (sym (log-number x log m).1) (ap (λ (z : Outcome). number_of z.answer) p);
            }

    call-last : (issued : ℕ → ℕ) (c : Call) (f : Fair issued log n.me.settings.rule c) → Delivers c → sent_by (outcome c n).answer ≡ send n.me i (Val t)
        → LastAck log n i (action issued log n.me.settings.rule c f)
    unfolding action receipt
    call-last issued (read _) f d e = absurd d
    call-last issued (ask _) f d e = absurd d
    call-last issued (write _ _) f d e = absurd d
    call-last issued (commit _ _ _ _) f d e = absurd d
    call-last issued (replay _) f d e = absurd d
    call-last issued (validate _) f d e = absurd d
    call-last issued (resend _) f d e = absurd d
    call-last issued (view _ _) f d e = absurd d
    call-last issued (deliver j m v) (inl f) d e = sent-last f.message f.earlier (outcome (deliver j m v) n) (rw (f.index, f.same, f.bytes)) e
    call-last issued (deliver j m v) (inr f) d e = let (r, q) = unknown-refused n j m v f in absurd (silent r (ap (λ (z : Outcome). sent_by z.answer) (sym q) ∙ e))
    call-last issued (deliver_packet p j) (inl f) d e = sent-last f.message f.earlier (receipt ties n p j) (carried n.me.settings.rule log n p j f) e
    call-last issued (deliver_accepted p a j) (inl (packing, f)) d e = by (taken p (accepted_in a) j) refl e
      where
        by : (x : Taken) → taken p (accepted_in a) j ≡ x → sent_by (taken_receipt n p x).answer ≡ send n.me i (Val t) → LastAck log n i (taken-action log (log-number f.message log f.earlier).0 x)
        by (Ok g) q e = sent-last f.message f.earlier (taken_receipt n p (Ok g)) (carried-taken packing log n p a j f g q) e
        by (Err r) q e = absurd (silent r e)
    call-last issued (deliver_accepted p a j) (inr f) d e =
        absurd (silent (no f.number) (ap (λ (z : Outcome). sent_by z.answer) (sym (ap (taken_receipt n p) f.refused)) ∙ e))
    call-last issued (deliver_packet p j) (inr f) d e = absurd (silent (no f.number) (ap (λ (z : Outcome). sent_by z.answer) (sym (ap (receipt_of ties n p) f.refused)) ∙ e))

-- ---- the start

-- an accepted start admits the identity that it answers
admitted : (k set : ℕ) (settings : Settings) (table : List Record) (store : List ℕ) (old : CetskobiReplica) → (admission_out (start k set settings table store).admission old).number ≡ 0
    → (start k set settings table store).admission ≡ Ok (replica_of (admission_out (start k set settings table store).admission old).replica)
unfolding start
admitted k set settings table store old e = go (start_refusal k set settings (length table) (length store)) e
  where
    go : (q : ℕ) → (admission_out (begin q (newcomer k set settings) table store).admission old).number ≡ 0
        → (begin q (newcomer k set settings) table store).admission ≡ Ok (replica_of (admission_out (begin q (newcomer k set settings) table store).admission old).replica)
    go zero e = ap Ok (sym (replica-back (newcomer k set settings)))
    go (suc q) e = absurd (omega arith)

-- the run's group of the callers' laptops
abbrev pub group_of : Hut → Group
group_of h = record { at = λ k. node (h.at k); log = h.log }

begins : (count : ℕ) (issued : ℕ → ℕ) (settings : Settings) (k : ℕ) (l : Laptop) → Begun count issued settings k l → FreshStart count issued settings k (node l)
begins count issued settings k l b = subst (λ (x : Settings). FreshStart count issued x k (node l)) b.fixed (
    let table = table_of b.table in
    let a = (start k (issued 0) (settings_of b.given) table b.store).admission in
    let old = identity_of (newcomer k (issued 0) (settings_of b.given)) in
    let zero-said : (admission_out a old).number ≡ 0 = sym (ap (λ (x : CetskobiAdmission). x.number) b.started.admission) ∙ b.accepted in
    let me : (admission_out a old).replica ≡ l.me = sym (ap (λ (x : CetskobiAdmission). x.replica) b.started.admission) ∙ sym b.identity in
    record {
      table = table;
      store = b.store;
      records = length-table b.table ∙ b.records;
      accepted = admitted k (issued 0) (settings_of b.given) table b.store old zero-said ∙ ap (λ (x : CetskobiReplica). Ok (replica_of x)) me;
      table_after = b.started.table;
      store_after = b.started.store;
    })

-- ---- demand 3

module _ (member : ℕ → Bool) (count : ℕ) (issued : ℕ → ℕ) (settings : Settings) (h : Hut) (begun : AllBegun member count issued settings h) where
  pub started : Started member count issued settings (group_of h)
  started = record { fresh = λ k m. begins count issued settings k (h.at k) (begun.fresh k m); silent = begun.silent }

  -- the run's laptops are the callers'
  abbrev entries_of : (turns : List Turn) → Follows member issued h turns → List Entry
  entries_of turns f = entries member issued h turns f

  pub match : (turns : List Turn) (f : Follows member issued h turns) → Match (run.run ties (group_of h) (entries_of turns f)) (after h turns)
  match turns f = matches member issued (group_of h) h turns f (record { nodes = λ k. refl; logs = refl })

  same : (turns : List Turn) (f : Follows member issued h turns) (k : ℕ) → (run.run ties (group_of h) (entries_of turns f)).at k ≡ laptop h turns k
  same turns f = (match turns f).nodes

  agree : (turns : List Turn) (f : Follows member issued h turns) → Agreement ties member count settings (group_of h) (entries_of turns f)
  agree turns f = agreement member count issued settings (group_of h) started (entries_of turns f) (are-entries member issued h turns f)

  alike : (turns : List Turn) (f : Follows member issued h turns) (i k m : ℕ) → i < count → member k ≡ true → member m ≡ true
      → Sees (laptop h turns k) m → Sees (laptop h turns m) k → Shows (laptop h turns k) i → Shows (laptop h turns m) i
      → Alike i (laptop h turns k) (laptop h turns m)
  alike turns f i k m l mk mm sk sm vk vm =
      let p = same turns f k in
      let q = same turns f m in
      rw (← p, ← q) ((agree turns f).alike i k m l mk mm (rw p sk) (rw q sm) (rw p vk) (rw q vm))

  -- an accepted validation among the calls is one among the entries
  valid : (i : ℕ) (before : List Turn) (s : Turn) (f : Follows member issued h before) (fair : Fair issued (after h before).log (group_rule ((after h before).at s.who).me) s.call)
      → Returns s.call ((after h before).at s.who) s.number s.left → Finishes (laptop h before s.who) i s.call → s.number ≡ 0
      → Validation ties (run.run ties (group_of h) (entries_of before f)) (entry member issued (after h before) s fair) i
  unfolding result
  valid i before s f fair r (validates what) said =
      let e = match before f in
      let l = (after h before).at s.who in
      let log = (after h before).log in
      let is : action issued log (group_rule ((after h before).at s.who).me) s.call fair ≡ run.validate i = is-validate issued log (group_rule ((after h before).at s.who).me) i s.call what fair in
      let same : result ties (run.run ties (group_of h) (entries_of before f)) (entry member issued (after h before) s fair) ≡ perform ties (run.validate i) log (node l) =
      λ j. perform ties (is j) (e.logs j) (e.nodes s.who j) in
      agreement-of.validates is (subst IsAccepted (sym same) (is-accepted issued log (group_rule ((after h before).at s.who).me) i l s.left s.number said s.call what r))
  valid i before s f fair r (acknowledges d t out) said =
      let e = match before f in
      let n = laptop h before s.who in
      let log = (after h before).log in
      let a = action issued log (group_rule ((after h before).at s.who).me) s.call fair in
      let k = call-last n i t log issued s.call fair d out in
      let same : result ties (run.run ties (group_of h) (entries_of before f)) (entry member issued (after h before) s fair) ≡ perform ties a log n =
      λ j. perform ties a (e.logs j) (e.nodes s.who j) in
      agreement-of.acknowledges k.number k.message k.stamp k.delivers (ap (λ (l : List Logged). find l k.number) e.logs ∙ k.finds) k.index k.ack
      (ap (λ (m : Node). completes m.me (record_of i m) k.message.header.sender) (e.nodes s.who) ∙ k.last) (subst IsAccepted (sym same) k.accepted)

  lasting : (i m : ℕ) (before rest : List Turn) (s : Turn) (f : Follows member issued h (before ++ s ∷ rest)) → i < count → member m ≡ true
      → Finishes (laptop h before s.who) i s.call → s.number ≡ 0
      → Sees (laptop h before s.who) m → Shows (laptop h (before ++ s ∷ rest) m) i
      → NotAfter (under ties settings) (record_of i (laptop h before s.who)).timestamp (record_of i (laptop h (before ++ s ∷ rest) m)).timestamp
  unfolding entries
  lasting i m before rest s f l mm what said sees shows =
      let f1 = first_part member issued h before (s ∷ rest) f in
      let f2 = second-part member issued h before (s ∷ rest) f in
      let p = same before f1 s.who in
      let q = same (before ++ s ∷ rest) f m in
      let a = entry member issued (after h before) s f2.1 in
      let kept = (agree (before ++ s ∷ rest) f).lasting i m (entries_of before f1) (entries member issued (next (after h before) s) rest f2.3) a l mm
      (both-parts member issued h before (s ∷ rest) f) (valid i before s f1 f2.1 f2.2 what said) (rw p sees) (rw q shows) in
      rw (p, q) at kept

  agreeing : (turns : List Turn) → Follows member issued h turns → CallsAgree member count settings h turns
  agreeing turns f = record {
    alike = alike turns f;
    lasting = λ i m before rest s l mm e what said sees shows.
        subst (λ (all : List Turn). NotAfter (under ties settings) (record_of i (laptop h before s.who)).timestamp (record_of i (laptop h all m)).timestamp) (sym e)
        (lasting i m before rest s (subst (Follows member issued h) e f) l mm what said sees (subst (λ (all : List Turn). Shows (laptop h all m) i) e shows));
  }

pub called-demand3 : CalledDemand3
called-demand3 = agreeing
