use Rattle.std.proofs.Common.{◌≡◌, ◌++◌, drop, map}
use Rattle.racp_report.specs.Drawings.{corner_of}
use Rattle.racp_report.proofs.cost_chart.corners_of.Given as goal

abbrev pub invariant-loop-step : goal.invariant-loop-step
invariant-loop-step l = l.corners.items ++ map corner_of (drop l.step-index l.steps) ≡ map corner_of l.steps
