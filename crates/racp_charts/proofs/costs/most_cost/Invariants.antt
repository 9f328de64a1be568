use Rattle.std.proofs.Common.{◌≡◌, ◌≤◌, drop, fold, max}
use Rattle.racp_charts.proofs.costs.most_cost.Given as goal

abbrev pub invariant-loop-corner : goal.invariant-loop-corner
invariant-loop-corner l = (fold (λ most corner. max most corner.cost) l.most (drop l.corner-index l.corners) ≡ fold (λ most corner. max most corner.cost) 1 l.corners) × (1 ≤ l.most)
