-- The premises of the second reading of demand 3 can be met.
use Prim.Native.Nat.{ℕ, zero, suc, ◌<◌}
use mathlib.Core.Path.{◌≡◌, refl}
use mathlib.Core.Logic.{inl, inr, ⊎_map, ◌≢◌}
use mathlib.Core.Bool.{true}
use mathlib.Core.List.{List, [], ◌∷◌}
use native.Mathlib.Omega.{arith}
use lib.ListN.{replicate}
use Rattle.hermes.specs.declared.event.Settings.{Settings}
use Rattle.std.specs.Prelude.{Ok}
use Rattle.hermes_record.specs.Members.{has, size, lowest, within, others_in, with}
use Rattle.hermes_record.specs.Order.{later, same_timestamp}
use Rattle.hermes.specs.Store.{padded, place}
use Rattle.hermes.specs.Event.{completes, refusal, effect, sent_by}
use Rattle.hermes.specs.Node.{Node, record_of, start, apply, view, viewed}
use Rattle.hermes.specs.Played.{issued, lent_table, fresh}
use Rattle.hermes.specs.SecondReading.{InView, Among, first, further, Mail, Entry, outcome, Leaves, Left, here, there, History, empty, next, FreshStart, Premises, CompletesView}
use Rattle.hermes.specs.SecondWitness.{AnyEvent, old_rule, new_rule, begun, saved, taken1, taken2, counted, settled, saved1, saved2, lower, higher, counted1, struck, finished, heard, replayed, retaken, resettled, shown, list, now, tied1, tied2, met0, met1, half2, whole2, turned0, turned2, half1, whole1, told0, new_list, new_now, SecondWitness}
use Rattle.hermes.proofs.Members.{within-members}
use Rattle.hermes.proofs.LastAck.{completes-it}
use Rattle.hermes.proofs.SecondReading.{in-view, view_in, second-demand3}

any : (issued : ℕ → ℕ) (earlier : List Entry) → AnyEvent issued earlier
any issued earlier = record {
  reads = λ i. tt;
  writes = λ i v. tt;
  replays = λ i. tt;
  deliveries = λ m l. l;
  validations = λ i. tt;
  resends = λ i. tt;
  changes = λ e. refl;
  asks = λ i. tt;
  commits = λ i t v. tt;
}

-- what holds of the first of a list and of the others holds of each
each : (P : Node → Type 0) (x : Node) (rest : List Node) → P x → ((n : Node) → Among n rest → P n) → (n : Node) → Among n (x ∷ rest) → P n
each P x rest h others n first = h
each P x rest h others n (further a) = others n a

started : (settings : Settings) (k : ℕ) → (start k 7 settings lent_table (replicate 192 0)).admission ≡ Ok (fresh settings k).me → FreshStart 7 1 settings (fresh settings k)
started settings k e = record { number = k; table = lent_table; store = replicate 192 0; records = refl; accepted = rw (← e) }

-- {0,1} is within {0,1,2}
nested : (low high k : ℕ) → low < high → InView k (issued high) → InView k (issued low)
unfolding within has
nested zero zero k l v = v
nested zero (suc high) k l v = view_in k 7 (within-members 3 7 refl k (in-view k 3 v))
nested (suc low) zero k l v = absurd (omega arith)
nested (suc low) (suc high) k l v = v

premises : (settings : Settings) → Premises issued settings (begun settings)
unfolding start has size
premises settings = record {
  different = (
    each (λ n. n.me.number ≢ 0) (f 1) (f 2 ∷ []) (λ e. omega arith) (each (λ n. n.me.number ≢ 0) (f 2) [] (λ e. omega arith) (λ n. elim [ ])),
    (each (λ n. n.me.number ≢ 1) (f 2) [] (λ e. omega arith) (λ n. elim [ ]), (λ n. elim [ ], tt)),
  );
  count = 1;
  fresh = each (FreshStart 7 1 settings) (f 0) (f 1 ∷ f 2 ∷ []) (started settings 0 refl)
      (each (FreshStart 7 1 settings) (f 1) (f 2 ∷ []) (started settings 1 refl) (each (FreshStart 7 1 settings) (f 2) [] (started settings 2 refl) (λ n. elim [ ])));
  nested = nested;
}
  where
    f : ℕ → Node
    f = fresh settings

-- a message that left an entry of the list, and one that left the last
left : {earlier : List Entry} {m : Mail} (e : Entry) → Among e earlier → Leaves m (sent_by (outcome e).answer) (outcome e).node → Left m earlier
left e a l = record { entry = e; listed = a; left = l }

sent : {earlier : List Entry} {m : Mail} (e : Entry) → Leaves m (sent_by (outcome e).answer) (outcome e).node → Left m (e ∷ earlier)
sent e l = left e first l

history : History issued (begun old_rule) list now
unfolding apply effect refusal start has size lowest within others_in with padded place later same_timestamp view viewed
history =
    next shown
    (next resettled
    (next retaken
    (next replayed
    (next heard
    (next finished
    (next struck
    (next counted1
    (next higher
    (next lower
    (next saved2
    (next saved1
    (next settled
    (next counted
    (next taken2
    (next taken1 (next saved empty tt here) (sent saved refl) (there here))
    (left saved (further first) refl) (there (there here)))
    (left taken1 (further first) refl) here)
    (left taken2 (further first) refl) here)
    tt (there here))
    tt (there (there here)))
    (left saved1 (further first) refl) here)
    (left saved2 (further first) refl) here)
    (left lower (further first) refl) (there here))
    refl (there here))
    tt (there here))
    refl here)
    tt here)
    (sent replayed refl) (there here))
    (sent retaken refl) here)
    (sent resettled refl) (there here)

-- the same of the new rule's list
new_history : History issued (begun new_rule) new_list new_now
unfolding apply effect refusal start has size lowest within others_in with padded place later same_timestamp view viewed
new_history =
    next told0
    (next whole1
    (next half1
    (next turned2
    (next turned0
    (next whole2
    (next half2
    (next met1
    (next met0
    (next tied2 (next tied1 empty tt (there here)) tt (there (there here)))
    (sent tied2 refl) here)
    (left tied2 (further first) refl) (there here))
    (left met0 (further first) refl) (there (there here)))
    (left met1 (further first) refl) (there (there here)))
    (left tied1 (further (further (further (further (further first))))) refl) here)
    (left tied1 (further (further (further (further (further (further first)))))) refl) (there (there here)))
    (left turned0 (further first) refl) (there here))
    (left turned2 (further first) refl) (there here))
    (sent whole1 refl) here

-- what completes the view as the step asks it, does so in the second reading's words
completing : (sender : ℕ) (n : Node) → completes n.me (record_of 0 n) sender ≡ true → CompletesView sender 0 n
completing sender n e k v d = ⊎_map (λ s. s) (view_in k (record_of 0 n).acks) ((completes-it n.me (record_of 0 n) sender e).1 k (in-view k n.me.view v) d)

pub second-witness : SecondWitness
unfolding apply effect refusal start has size lowest within others_in with padded place later same_timestamp view viewed
second-witness = record {
  any = any;
  old_group = record {
    premises = premises old_rule;
    history = history;
    agreed = second-demand3 issued old_rule (begun old_rule) (premises old_rule) list now history;
    there = first;
    too = further first;
    sees = (omega arith, refl);
    seen = (omega arith, refl);
    shows = record { its_own = omega arith; valid = refl };
    shown = record { its_own = omega arith; valid = refl };
  };
  in_write = record {
    listed = further (further (further (further (further (further (further (further (further (further (further (further first)))))))))));
    validates = record { its_record = refl; stamp = _; ack = refl; waiting = inl refl; completing = completing 2 settled.found refl };
    accepted = refl;
    there = further first;
    sees = (omega arith, refl);
    shows = record { its_own = omega arith; valid = refl };
  };
  by_validate = record {
    listed = further (further (further (further (further first))));
    validates = refl;
    accepted = refl;
    there = first;
    sees = (omega arith, refl);
    shows = record { its_own = omega arith; valid = refl };
  };
  in_replay = record {
    listed = further first;
    validates = record { its_record = refl; stamp = _; ack = refl; waiting = inr refl; completing = completing 1 resettled.found refl };
    accepted = refl;
    there = further first;
    sees = (omega arith, refl);
    shows = record { its_own = omega arith; valid = refl };
  };
  old_tie = record { lost = refl; won = refl };
  new_group = record {
    premises = premises new_rule;
    history = new_history;
    agreed = second-demand3 issued new_rule (begun new_rule) (premises new_rule) new_list new_now new_history;
    there = first;
    too = further first;
    sees = (omega arith, refl);
    seen = (omega arith, refl);
    shows = record { its_own = omega arith; valid = refl };
    shown = record { its_own = omega arith; valid = refl };
  };
  of_loser = record {
    listed = further (further (further (further (further first))));
    validates = record { its_record = refl; stamp = _; ack = refl; waiting = inl refl; completing = completing 1 whole2.found refl };
    accepted = refl;
    there = first;
    sees = (omega arith, refl);
    shows = record { its_own = omega arith; valid = refl };
  };
  of_winner = record {
    listed = further first;
    validates = record { its_record = refl; stamp = _; ack = refl; waiting = inl refl; completing = completing 2 whole1.found refl };
    accepted = refl;
    there = first;
    sees = (omega arith, refl);
    shows = record { its_own = omega arith; valid = refl };
  };
  new_tie = record { lost = refl; won = refl };
}
