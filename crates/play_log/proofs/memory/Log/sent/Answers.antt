-- `play_log::memory::Log::sent` meets its contract.
use Rattle.std.proofs.Common.{◌≤◌, length, sym, rules}
use Rattle.play_log.proofs.Logs.{length-log}
use Rattle.play_log.proofs.memory.Log.sent.Goals as goal

pub returns : goal.returns
returns c = let all : c.args.self.now.sent ≤ length c.args.self.now.slots = search rules in sym (length-log c.args.self.now all)
