use Rattle.std.proofs.Common.{◌≡◌, ◌*◌, ◌≤◌}
use Rattle.racp_model.specs.Schedule.{sum_below}
use Rattle.racp_clauses.specs.Rules.{least_work}
use Rattle.racp_clauses.proofs.energy.work.Given as goal

abbrev pub invariant-loop-i : goal.invariant-loop-i
invariant-loop-i l = record {
  sum : l.sum ≡ sum_below l.i (least_work l.net l.bounds l.k l.times.from l.times.until);
  small : l.sum ≤ l.i * 100000000;
}
