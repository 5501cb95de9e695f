-- `play_log::memory::Log::get` meets its contract.
use Rattle.std.proofs.Common.{◌≤◌, length, rules}
use Rattle.play_log.proofs.Logs.{found_at, none_at}
use Rattle.play_log.proofs.memory.Log.get.Goals as goal

pub returns-then-self-k : goal.returns-then-self-k
returns-then-self-k c = none_at _ _ c.if-self-k.true

pub returns : goal.returns
returns c = let all : c.args.self.now.sent ≤ length c.args.self.now.slots = search rules in found_at _ _ _ c.if-self-k.false all
