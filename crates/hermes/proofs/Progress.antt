-- One accepted entry of a settling, and lists of them. The idea: the replicas of the view are sound and at its epoch, so that only an event's
-- own questions are left to answer; what leaves is known by its log number.
use Prim.Native.Nat.{ℕ, zero, suc, ◌+◌, ◌≤◌, ◌<◌}
use mathlib.Core.Path.{◌≡◌, refl, sym, ap, subst, ◌∙◌}
use mathlib.Core.Bool.{Bool, true, false, cond}
use mathlib.Core.Logic.{◌⊎◌, inl, ⊎_map, ◌≢◌}
use mathlib.Core.List.{List, [], ◌∷◌, ◌++◌}
use native.Mathlib.Omega.{arith}
use native.Mathlib.Decide.{ℕ_discrete}
use lib.ListN.{length, length-append, length-take}
use borrow.Author.Tests.{le-leb}
use Rattle.hermes_record.specs.declared.timestamp.Timestamp.{Timestamp}
use Rattle.hermes_record.specs.declared.record.Record.{Record}
use Rattle.hermes.specs.declared.message.Message.{Message}
use Rattle.hermes.specs.declared.message.Message.TheVariants.{Inv, Ack, Val}
use Rattle.hermes.specs.declared.message.Header.{Header}
use Rattle.hermes.specs.Answer.{Outgoing}
use Rattle.std.specs.Prelude.{None, Ok, Some}
use Rattle.hermes.specs.declared.message.Received.{Received}
use Rattle.hermes.specs.declared.event.Replica.{Replica}
use Rattle.hermes.specs.declared.event.Settings.{Settings}
use Rattle.hermes.specs.declared.event.Event.{Event}
use Rattle.hermes.specs.declared.event.Event.TheVariants.{Deliver}
use Rattle.hermes_record.specs.Members.{count_below}
use Rattle.hermes_record.specs.Order.{Orders}
use Rattle.hermes.specs.Settings.{under}
use Rattle.hermes.specs.Store.{value_at}
use Rattle.hermes.specs.Guards.{AllYes, shapely}
use Rattle.hermes.specs.Event.{Step, own, step, body_of}
use Rattle.hermes.specs.Node.{Node, record_of, leaving, apply}
use Rattle.hermes.specs.Run.{Action, deliver, Entry, by, Group, Logged, Found, found, find, Result, event, delivery, perform, node_after, logged, log_after, result, advance, run}
use Rattle.hermes.specs.Agreement.{IsAccepted}
use Rattle.hermes.specs.Reads.{Sound}
use Rattle.hermes.specs.Settling.{Helps, AllHelp}
use Rattle.hermes.specs.Recipe.{each}
use Rattle.hermes.proofs.Members.{Has}
use Rattle.hermes.proofs.Guards.{sound-passed}
use Rattle.hermes.proofs.Log.{find-front, find-last, find-either}
use Rattle.hermes.proofs.Apply.{questions_of, done, changed, was-accepted, answered}
use Rattle.hermes.proofs.Agreement.{at-who, at_other, run-append}
use Rattle.hermes.proofs.Sound.{advance-sound, five-say-yes}

-- ---- what leaves

-- a value that leaves fits
value-short : (i n : ℕ) (store : List ℕ) → n ≤ 192 → length (value_at i n store) ≤ 192
value-short i n store h = simp length-take (omega arith)

-- the timestamp of a message
abbrev pub stamp_of : Message → Timestamp
stamp_of (Inv t) = t
stamp_of (Ack t) = t
stamp_of (Val t) = t

shaped : (m : Message) (v : List ℕ) → (stamp_of m).tie ≤ 15 → length v ≤ 192 → shapely m (length (body_of m v)) ≡ true
shaped (Inv t) v a b = rw (le-leb t.tie 15 a, le-leb (length v) 192 b)
shaped (Ack t) v a b = rw (le-leb t.tie 15 a)
shaped (Val t) v a b = rw (le-leb t.tie 15 a)

-- ---- what is to be settled

-- record i, of the replicas of the view `set` at epoch e, by messages that leave after the first `old` ones; `count` records each
pub record Task : Type 0 where
  pub wins : Orders
  pub settings : Settings
  pub count : ℕ
  pub e : ℕ
  pub set : ℕ
  pub i : ℕ
  pub old : ℕ

-- its order of ties
abbrev pub order : Task → ℕ → ℕ → Bool
order T = under T.wins T.settings

-- replica m of the view
abbrev pub self : Task → ℕ → Replica
self T m = record { number = m; epoch = T.e; view = T.set; settings = T.settings }

-- the step of an event of replica m on its record r
abbrev pub step_by : Task → ℕ → Record → Event → List ℕ → Step
step_by T m r ev v = step T.wins (self T m) T.i r ev v

-- a message of `sender`, as it is delivered
abbrev pub incoming : Task → ℕ → Message → Received
incoming T sender m = record { sender = sender; epoch = T.e; message = m }

-- n is replica m of the view, sound
pub record Live (T : Task) (m : ℕ) (n : Node) : Type 0 where
  pub sound : Sound T.count T.settings m n
  pub epoch : n.me.epoch ≡ T.e
  pub view : n.me.view ≡ T.set

-- all of them are, and the messages at the outset had left
pub record Alive (T : Task) (g : Group) : Type 0 where
  pub live : (m : ℕ) → Has T.set m → Live T m (g.at m)
  pub since : T.old ≤ length g.log

-- message k of the log: one of `sender` that left since then
pub record Post (T : Task) (log : List Logged) (k sender : ℕ) (m : Message) : Type 0 where
  pub since : T.old ≤ k
  pub body : List ℕ
  pub there : find log k ≡ found (record { header = record { sender = sender; epoch = T.e; index = T.i }; message = m; body = body })
  pub shape : shapely m (length body) ≡ true

-- ---- one accepted entry

-- entry a, with its step s
pub record Did (T : Task) (g : Group) (a : Entry) (s : Step) : Type 0 where
  pub accepted : IsAccepted (result T.wins g a)
  pub alive : Alive T (advance T.wins g a)
  pub here : record_of T.i ((advance T.wins g a).at a.who) ≡ s.after
  pub others : (m : ℕ) → m ≢ a.who → record_of T.i ((advance T.wins g a).at m) ≡ record_of T.i (g.at m)
  pub keeps : (k sender : ℕ) (m : Message) → Post T g.log k sender m → Post T (advance T.wins g a).log k sender m
  pub left : (m : Message) → s.sent ≡ Some (m, record { sender = a.who; epoch = T.e; index = T.i }) → (stamp_of m).tie ≤ 15 → Post T (advance T.wins g a).log (length g.log) a.who m
  pub longer : (m : Message) (h : Header) → s.sent ≡ Some (m, h) → length (advance T.wins g a).log ≡ suc (length g.log)
  pub before : (k : ℕ) (x : Logged) → find (advance T.wins g a).log k ≡ found x → (find g.log k ≡ found x) ⊎ (s.sent ≡ Some (x.message, x.header))
  pub silent : s.sent ≡ None → length (advance T.wins g a).log ≡ length g.log

pub identity : (T : Task) (m : ℕ) (n : Node) → Live T m n → n.me ≡ self T m
identity T m n l = λ t. record { number = l.sound.number t; epoch = l.epoch t; view = l.view t; settings = l.sound.fixed t }

-- an event of replica m whose own questions say yes
acts : (T : Task) → T.i < T.count → (m : ℕ) → Has T.set m → (n : Node) → Live T m n → (ev : Event) (v : List ℕ) → AllYes (own (self T m) (record_of T.i n) ev (length v))
    → (apply T.wins n T.i ev v ≡ record { answer = Ok (step_by T m (record_of T.i n) ev v).sent; node = done n T.i (step_by T m (record_of T.i n) ev v) })
    × (record_of T.i (done n T.i (step_by T m (record_of T.i n) ev v)) ≡ (step_by T m (record_of T.i n) ev v).after)
acts T inside m h n l ev v y = subst (λ (me : Replica). (apply wins n i ev v ≡ record { answer = Ok (s me).sent; node = done n i (s me) }) × (record_of i (done n i (s me)) ≡ (s me).after))
    (identity T m n l) ((was-accepted wins n i ev v (answered wins n i ev v yes-all).0).1, (changed wins n i ev v yes-all).here)
  where
    wins : Orders
    wins = T.wins

    i : ℕ
    i = T.i

    s : Replica → Step
    s me = step wins me i (record_of i n) ev v

    yes-all : AllYes (questions_of n i ev v)
    yes-all = five-say-yes T.count T.settings m n l.sound i inside (rw l.view h) ev v (subst (λ (me : Replica). AllYes (own me (record_of i n) ev (length v))) (sym (identity T m n l)) y)

module _ (T : Task) (inside : T.i < T.count) (g : Group) (all : Alive T g) (m : ℕ) (h : Has T.set m) (what : Action) (ev : Event) (v : List ℕ)
    (does : perform T.wins what g.log (g.at m) ≡ event (apply T.wins (g.at m) T.i ev v)) (y : AllYes (own (self T m) (record_of T.i (g.at m)) ev (length v))) where
  open T use {wins, settings, count, e, set, i, old}

  abbrev a : Entry
  a = by m what

  abbrev s : Step
  s = step_by T m (record_of i (g.at m)) ev v

  after : Node
  after = done (g.at m) i s

  what-it-is : result wins g a ≡ event (record { answer = Ok s.sent; node = after })
  unfolding result after
  what-it-is = does ∙ ap event (acts T inside m h (g.at m) (all.live m h) ev v y).0

  at-m : (advance wins g a).at m ≡ after
  at-m = at-who wins g a ∙ ap (λ (r : Result). node_after r (g.at m)) what-it-is

  log_is : (advance wins g a).log ≡ logged g.log after s.sent
  unfolding advance
  log_is = ap (λ (r : Result). log_after r g.log) what-it-is

  live-after : (u : ℕ) → Has set u → Live T u ((advance wins g a).at u)
  live-after u k = record { sound = advance-sound wins count settings u g a (all.live u k).sound; epoch = (go (ℕ_discrete u m)).0; view = (go (ℕ_discrete u m)).1 }
    where
      go : Dec (u ≡ m) → (((advance wins g a).at u).me.epoch ≡ e) × (((advance wins g a).at u).me.view ≡ set)
      go (yes q) = rw (q, at-m) (unfold after in ((all.live m h).epoch, (all.live m h).view))
      go (no d) = rw (at_other wins g a u d) ((all.live u k).epoch, (all.live u k).view)

  -- what joined the log
  grown : (o : Outgoing) (log : List Logged) → log ≡ logged g.log after o → length g.log ≤ length log
  grown None log q = rw q (omega arith)
  grown (Some (p, d)) log q = rw (q, length-append) (omega arith)

  keep : (o : Outgoing) (log : List Logged) → log ≡ logged g.log after o → (k sender : ℕ) (p : Message) → Post T g.log k sender p → Post T log k sender p
  keep None log q k sender p x = rw q x
  keep (Some (p', d)) log q k sender p x = record { since = x.since; body = x.body; there = rw q (find-front g.log _ k _ x.there); shape = x.shape }

  post : (p : Message) → s.sent ≡ Some (p, record { sender = m; epoch = e; index = i }) → (stamp_of p).tie ≤ 15 → Post T (advance wins g a).log (length g.log) m p
  post p q t = record {
    since = all.since;
    body = leaving (Some (p, record { sender = m; epoch = e; index = i })) after.table after.store;
    there = rw (log_is, q) (find-last g.log _);
    shape = shaped p _ t (value-short i (record_of i after).len after.store (sound-passed after.me (record_of i after) (rw at-m at ((live-after m h).sound.fifth i inside))).short);
  }

  earlier : (o : Outgoing) (log : List Logged) → log ≡ logged g.log after o → (k : ℕ) (x : Logged) → find log k ≡ found x → (find g.log k ≡ found x) ⊎ (o ≡ Some (x.message, x.header))
  earlier None log q k x f = inl (rw q at f)
  earlier (Some (p, d)) log q k x f = ⊎_map (λ z. z) (λ z. ap (λ (y : Logged). Some (y.message, y.header)) z) (find-either g.log _ k x (rw q at f))

  pub did : Did T g a s
  did = record {
    accepted = rw what-it-is;
    alive = record { live = live-after; since = omega (arith, all.since, grown s.sent (advance wins g a).log log_is) };
    here = rw at-m (unfold after in (acts T inside m h (g.at m) (all.live m h) ev v y).1);
    others = λ u d. rw (at_other wins g a u d);
    keeps = keep s.sent (advance wins g a).log log_is;
    left = post;
    before = earlier s.sent (advance wins g a).log log_is;
    longer = λ p d q. rw (log_is, q, length-append) (omega arith);
    silent = λ q. rw (log_is, q);
  }

-- the delivery of a message that left
pub delivers : (T : Task) (g : Group) (n : Node) (k sender : ℕ) (p : Message) (x : Post T g.log k sender p)
    → perform T.wins (deliver k) g.log n ≡ event (apply T.wins n T.i (Deliver (incoming T sender p)) x.body)
delivers T g n k sender p x = ap (λ (f : Found). delivery T.wins f n) x.there

-- ---- lists of entries

-- from g these entries help, all accepted, and then P holds
pub record Plays (T : Task) (g : Group) (entries : List Entry) (P : Group → Type 0) : Type 0 where
  pub help : AllHelp T.wins T.set T.i T.old g entries
  pub then : P (run T.wins g entries)

module _ (T : Task) where
  open T use {wins, set, i, old}

  pub none : {P : Group → Type 0} (g : Group) → P g → Plays T g [] P
  none g p = record { help = tt; then = p }

  pub one : {P : Group → Type 0} (g : Group) (a : Entry) → Has set a.who → Helps i old g.log a.what → IsAccepted (result wins g a) → P (advance wins g a) → Plays T g (a ∷ []) P
  one g a h k c p = record { help = (h, k, c, tt); then = p }

  joined : (g : Group) (xs ys : List Entry) → AllHelp wins set i old g xs → AllHelp wins set i old (run wins g xs) ys → AllHelp wins set i old g (xs ++ ys)
  joined g [] ys p q = q
  joined g (x ∷ xs) ys (h, k, c, p) q = (h, k, c, joined (advance wins g x) xs ys p q)

  pub next : {P Q : Group → Type 0} {g : Group} {xs ys : List Entry} → Plays T g xs P → ((f : Group) → P f → Plays T f ys Q) → Plays T g (xs ++ ys) Q
  next {P} {Q} {g} {xs} {ys} p f = record { help = joined g xs ys p.help r.help; then = rw (run-append wins g xs ys) r.then }
    where
      r : Plays T (run wins g xs) ys Q
      r = f (run wins g xs) p.then

  -- for each number below k an entry if it passes the test, and none if not
  pub for-each : (p : ℕ → Bool) (entry : ℕ → Entry) (P : ℕ → Group → Type 0) → ((k : ℕ) → k < 16 → (g : Group) → P k g → Plays T g (cond (p k) (entry k ∷ []) []) (P (suc k)))
      → (k : ℕ) → k ≤ 16 → (g : Group) → P 0 g → Plays T g (each k p entry) (P k)
  unfolding each
  for-each p entry P f zero l g h = none g h
  for-each p entry P f (suc k) l g h = next (for-each p entry P f k (omega arith) g h) (f k (omega arith))

-- how many they are
pub each-length : (k : ℕ) (p : ℕ → Bool) (entry : ℕ → Entry) → length (each k p entry) ≡ count_below k p
unfolding each
each-length zero p entry = refl
each-length (suc k) p entry = rw (length-append (each k p entry) (cond (p k) (entry k ∷ []) []), each-length k p entry) (go (p k))
  where
    go : (b : Bool) → count_below k p + length (cond b (entry k ∷ []) []) ≡ cond b 1 0 + count_below k p
    go true = omega arith
    go false = omega arith
