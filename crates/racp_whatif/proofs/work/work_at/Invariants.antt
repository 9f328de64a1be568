use Rattle.std.proofs.Common.{◌≡◌, ◌*◌, ◌≤◌}
use Rattle.racp_model.specs.Schedule.{sum_below}
use Rattle.racp_clauses.specs.Rules.{least_work}
use Rattle.racp_whatif.proofs.work.work_at.Given as goal

abbrev pub invariant-loop-i : goal.invariant-loop-i
invariant-loop-i l = record {
  amount : l.amount ≡ sum_below l.i (least_work l.net l.window l.k l.times.from l.times.until);
  small : l.amount ≤ l.i * 100000000;
  jobs : l.jobs ≤ l.i;
}
