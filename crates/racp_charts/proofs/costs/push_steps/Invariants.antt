use Rattle.std.proofs.Common.{◌≡◌, ◌++◌, string_bytes, drop}
use Rattle.racp_charts.specs.CostDrawings.{cost_steps}
use Rattle.racp_charts.proofs.costs.push_steps.Given as goal

abbrev pub invariant-loop-corner : goal.invariant-loop-corner
invariant-loop-corner l = string_bytes l.text ++ cost_steps l.span l.most (drop l.corner-index l.corners) ≡ string_bytes l.initial.text ++ cost_steps l.span l.most l.corners
