use Rattle.std.proofs.Common.{◌≡◌, ◌*◌, ◌≤◌}
use Rattle.racp_model.specs.Project.{request}
use Rattle.racp_model.specs.Schedule.{sum_below}
use Rattle.racp_model.proofs.usage.roof_of.Given as goal

abbrev pub invariant-loop-i : goal.invariant-loop-i
invariant-loop-i l = record {
  sum : l.sum ≡ sum_below l.i (λ i. request l.net i l.k);
  small : l.sum ≤ l.i * 10000;
}
