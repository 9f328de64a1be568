use Rattle.std.proofs.Common.{◌≡◌, ◌-◌, ◌^◌, min}
use Rattle.racp_model.specs.Schedule.{sum_below}
use Rattle.racp_clauses.specs.Rules.{price_beside}
use Rattle.racp_clauses.proofs.cost.others_sum.Given as goal

abbrev pub invariant-loop-q : goal.invariant-loop-q
invariant-loop-q l = l.sum ≡ min (sum_below l.q (price_beside l.net l.order l.bounds l.k)) (2 ^ 64 - 1)
