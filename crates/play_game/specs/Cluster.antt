-- How the cluster that the code holds by value is read as a group of the run. No public contract names these.
use Rattle.std.specs.Prelude.{◌≤◌, ◌≡◌, cond, length, get_or, ltb}
use Rattle.hermes_record.specs.Order.{ties}
use Rattle.hermes.specs.Run.{Group, run}
use Rattle.play_log.specs.Log.{log_of}
use Rattle.play_member.specs.Member.{node_of, fresh_in}
use Rattle.play_member.specs.declared.member.Member.{Member}
use Rattle.play_lines.specs.Print.{Prints}
use Rattle.play_lines.specs.declared.print.Printer.{Printer}
use Rattle.play_game.specs.Play.{Turn, fresh_node}
use Rattle.play_game.specs.declared.cluster.Cluster.{Cluster}

-- what an index past the end of the members stands for
abbrev pub no_member : Member
no_member = fresh_in 0 0

-- the group has no more than four members; the others, which no line can name, are as their refused start leaves them
unfoldable pub group_of : Cluster → Group
group_of c = record {
  at = λ k. cond (ltb k 4) (node_of (get_or c.members k no_member)) (fresh_node c.count k);
  log = log_of c.log;
}

-- what a line of the script comes to: the entries that it adds to the run of the group, and the bytes that it prints
pub record Turned (t : Turn) (c : Cluster) (p : Printer) (c' : Cluster) (p' : Printer) : Type 0 where
  pub count : c'.count ≡ c.count
  pub group : group_of c' ≡ run ties (group_of c) t.entries
  pub text : Prints t.text p p'
  pub brief : length t.text ≤ 25
