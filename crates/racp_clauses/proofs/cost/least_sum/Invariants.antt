use Rattle.std.proofs.Common.{◌≡◌, ◌-◌, ◌^◌, min}
use Rattle.racp_model.specs.Schedule.{sum_below}
use Rattle.racp_clauses.specs.Rules.{least_price}
use Rattle.racp_clauses.proofs.cost.least_sum.Given as goal

abbrev pub invariant-loop-k : goal.invariant-loop-k
invariant-loop-k l = l.sum ≡ min (sum_below l.k (least_price l.net l.order l.bounds)) (2 ^ 64 - 1)
