-- What the code makes of a line is what the run makes of it.
use Rattle.std.proofs.Common.{◌≡◌, ℕ, ◌+◌, ◌≤◌, ◌<◌, Bool, true, false, cond, ltb, eqb, List, [], ◌∷◌, length, get_or, set, refl, sym, ap, ◌∙◌, subst, arith, Option, None, Some}
use Rattle.hermes_record.specs.Order.{ties}
use Rattle.hermes.specs.Answer.{Answer}
use Rattle.hermes.specs.Event.{number_of, sent_by}
use Rattle.hermes.specs.Node.{Outcome}
use Rattle.hermes.specs.Run.{Action, Entry, Group, Result, nothing, event, perform, logged, log_after, node_after, result, advance}
use Rattle.play_script.specs.Command.{line_of, text_of}
use Rattle.play_script.specs.declared.line.Entry.{Entry as Asked}
use Rattle.play_lines.specs.Print.{Prints, fitting, answer_line, unknown_line}
use Rattle.play_lines.specs.declared.print.Printer.{Printer}
use Rattle.play_lines.proofs.Printing.{put_all}
use Rattle.play_log.specs.Log.{log_of}
use Rattle.play_member.specs.declared.member.Member.{Member}
use Rattle.play_member.specs.Member.{node_of, result_of, has_room}
use Rattle.play_game.specs.declared.cluster.Cluster.{Cluster}
use Rattle.play_game.specs.Play.{Turn, unknown, log_number, played, reply, action_of, entry_turn, turn_of, turn}
use Rattle.play_game.specs.Cluster.{group_of, Turned}
use Rattle.play_game.proofs.Clusters.{node_at, group-set, log_is}

-- ---- what a line is

module _ (n : ℕ) (g : Group) (s : List ℕ) where
  pub turn-entry : (e : Asked) → line_of s ≡ Some e → turn n g s ≡ entry_turn n g (record { who = e.laptop; what = action_of e.command (text_of s) })
  unfolding turn
  turn-entry e h = ap (turn_of n g s) h

  pub turn-stranger : (e : Asked) → line_of s ≡ Some e → ltb e.laptop n ≡ false → turn n g s ≡ unknown
  unfolding turn entry_turn
  turn-stranger e h k = ap (turn_of n g s) h ∙ rw k

  pub turn-none : line_of s ≡ None → turn n g s ≡ unknown
  unfolding turn
  turn-none h = ap (turn_of n g s) h

-- ---- a line that prints `?`

pub turned-unknown : (c : Cluster) (p q : Printer) (t : Turn) → t ≡ unknown → p.at + 25 ≤ length p.out.now → Prints (fitting 2 p.at (length p.out.now) unknown_line) p q → Turned t c p c q
turned-unknown c p q t e h x = rw e (record { count = refl; group = refl; text = put_all 2 p unknown_line (omega arith) x; brief = omega arith })

-- ---- an entry of one of the laptops

module _ (n : ℕ) (g : Group) (a : Entry) (known : ltb a.who n ≡ true) (r : Result) (came : result ties g a ≡ r) where
  entry-is : entry_turn n g a ≡ record { entries = played (length g.log) a r; text = reply (length g.log) r }
  unfolding entry_turn
  entry-is = rw (known, came)

  pub entry-nothing : r ≡ nothing → entry_turn n g a ≡ unknown
  entry-nothing e = entry-is ∙ ap (λ (x : Result). record { entries = played (length g.log) a x; text = reply (length g.log) x }) e

-- the run after an event
advanced : (g : Group) (a : Entry) (o : Outcome) → result ties g a ≡ event o
    → advance ties g a ≡ record { at = λ k. cond (eqb k a.who) o.node (g.at k); log = logged g.log o.node (sent_by o.answer) }
unfolding advance
advanced g a o e = λ i. record { at = λ k. cond (eqb k a.who) (node_after (e i) (g.at k)) (g.at k); log = log_after (e i) g.log }

-- laptop `who` of the cluster did that, which came to r at its member m'
module _ (c : Cluster) (who : ℕ) (what : Action) (low : who < 4) (four : length c.members ≡ 4) (known : ltb who c.count ≡ true)
    (m₀ m' : Member) (r : Option Answer) (done : result_of r m' ≡ perform ties what (log_of c.log) (node_of (get_or c.members who m₀))) where
  abbrev a : Entry
  a = record { who = who; what = what }

  came : result ties (group_of c) a ≡ result_of r m'
  unfolding result
  came = sym (done ∙ (λ i. perform ties what (log_is c i) (node_at c who low four m₀ i)))

  whole : entry_turn c.count (group_of c) a ≡ record { entries = played (length (log_of c.log)) a (result_of r m'); text = reply (length (log_of c.log)) (result_of r m') }
  whole =
      entry-is c.count (group_of c) a known (result_of r m') came
      ∙ ap (λ (n : ℕ). record { entries = played n a (result_of r m'); text = reply n (result_of r m') }) (ap length (sym (log_is c)))

  module _ (p q : Printer) (space : p.at + 25 ≤ length p.out.now) where
    pub no-event : r ≡ None → Prints (fitting 2 p.at (length p.out.now) unknown_line) p q → Turned (entry_turn c.count (group_of c) a) c p c q
    no-event e = turned-unknown c p q _ (whole ∙ ap (λ (o : Option Answer). record { entries = played (length (log_of c.log)) a (result_of o m'); text = reply (length (log_of c.log)) (result_of o m') }) e) space

    module _ (x : Answer) (e : r ≡ Some x) where
      abbrev by : Bool → Turn
      by t = record {
        entries = cond t (a ∷ []) [];
        text = cond t (answer_line (number_of x) m'.held (log_number (length (log_of c.log)) (sent_by x))) unknown_line;
      }

      room-by : (t : Bool) → has_room (length (log_of c.log)) (sent_by x) ≡ t → entry_turn c.count (group_of c) a ≡ by t
      room-by t h =
          whole ∙ ap (λ (o : Option Answer). record { entries = played (length (log_of c.log)) a (result_of o m'); text = reply (length (log_of c.log)) (result_of o m') }) e
          ∙ ap by h

      pub no-room : has_room (length (log_of c.log)) (sent_by x) ≡ false → Prints (fitting 2 p.at (length p.out.now) unknown_line) p q
          → Turned (entry_turn c.count (group_of c) a) c p c q
      no-room h = turned-unknown c p q _ (room-by false h) space

      pub acted : has_room (length (log_of c.log)) (sent_by x) ≡ true
          → (c' : Cluster) → c'.count ≡ c.count → c'.members ≡ set c.members who m' → log_of c'.log ≡ logged (log_of c.log) (node_of m') (sent_by x)
          → (number : ℕ) → number ≡ number_of x → (l : Option ℕ) → l ≡ log_number (length (log_of c.log)) (sent_by x)
          → Prints (fitting 25 p.at (length p.out.now) (answer_line number m'.held l)) p q × (length (answer_line number m'.held l) ≤ 25)
          → Turned (entry_turn c.count (group_of c) a) c p c' q
      acted h c' en em el number e1 l e2 t =
          let line : answer_line number m'.held l ≡ (by true).text = λ i. answer_line (e1 i) m'.held (e2 i) in
          let group : group_of c' ≡ advance ties (group_of c) a
          = group-set c who low four m' c' en em (logged (log_of c.log) (node_of m') (sent_by x)) el
          ∙ (λ i. record { at = λ k. cond (eqb k who) (node_of m') ((group_of c).at k); log = logged (log_is c i) (node_of m') (sent_by x) })
          ∙ sym (advanced (group_of c) a (record { answer = x; node = node_of m' }) (came ∙ ap (λ (o : Option Answer). result_of o m') e)) in
          subst (λ (z : Turn). Turned z c p c' q) (sym (room-by true h)) (record {
            count = en;
            group = group;
            text = subst (λ (z : List ℕ). Prints z p q) line (put_all 25 p (answer_line number m'.held l) space t.0);
            brief = subst (λ (z : List ℕ). length z ≤ 25) line t.1;
          })
