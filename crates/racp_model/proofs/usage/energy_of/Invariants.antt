use Rattle.std.proofs.Common.{◌≡◌, ◌*◌, ◌≤◌}
use Rattle.racp_model.specs.Project.{duration, request}
use Rattle.racp_model.specs.Schedule.{sum_below}
use Rattle.racp_model.proofs.usage.energy_of.Given as goal

abbrev pub invariant-loop-i : goal.invariant-loop-i
invariant-loop-i l = record {
  sum : l.sum ≡ sum_below l.i (λ i. duration l.net i * request l.net i l.k);
  small : l.sum ≤ l.i * 100000000;
}
