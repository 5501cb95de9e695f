-- `play_log::memory::Log::append` meets its contract.
use Rattle.std.proofs.Common.{◌≡◌, ◌<◌, ◌≤◌, length, refl, sym, ap, ◌∙◌, [], ◌∷◌, ◌++◌, arith, rules, lt-ltb, le-leb, Some, false}
use Rattle.std.proofs.lemmas.Bool.Decides.{nat_tests}
use Rattle.hermes.specs.Run.{Logged}
use Rattle.play_log.specs.Log.{has_place, log_of}
use Rattle.play_log.proofs.Logs.{length-log, log_more}
use Rattle.play_log.proofs.memory.Log.append.Goals as goal

pub returns-then-n-ge-MESSAGES_MAX : goal.returns-then-n-ge-MESSAGES_MAX
returns-then-n-ge-MESSAGES_MAX c =
    let l = c.args.self.now in
    let all : l.sent ≤ length l.slots = search rules in
    let none : has_place l.sent (length c.args.body.now) ≡ false = grind (arith, nat_tests) in
    rw (length-log l all, none) (record { number = refl; log = refl; kept = λ z. refl })

pub returns : goal.returns
returns c =
    let l = c.args.self.now in
    let room : l.sent < length l.slots = search rules in
    rw (length-log l (omega arith), lt-ltb l.sent 256 (omega arith), le-leb (length c.args.body.now) 192 (omega arith)) (record {
      number = ap Some (sym (length-log l (omega arith)));
      log = log_more l _ c.new.result room refl refl ∙ ap (λ (x : Logged). log_of l ++ (x ∷ [])) c.new.ensures;
      kept = λ z. cc;
    })
