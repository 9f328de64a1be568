use Rattle.std.proofs.Common.{◌≡◌, ◌*◌, ◌≤◌}
use Rattle.racp_model.specs.Schedule.{sum_below}
use Rattle.racp_clauses.specs.Rules.{use_beside}
use Rattle.racp_clauses.proofs.time_table.used_beside.Given as goal

abbrev pub invariant-loop-i : goal.invariant-loop-i
invariant-loop-i l = record {
  sum : l.sum ≡ sum_below l.i (use_beside l.net l.bounds l.k l.times.from l.times.until l.j);
  small : l.sum ≤ l.i * 10000;
}
