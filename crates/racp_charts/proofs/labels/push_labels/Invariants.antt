use Rattle.std.proofs.Common.{◌≡◌, ◌≤◌, ◌++◌, string_bytes, drop}
use Rattle.racp_charts.specs.CostDrawings.{cost_labels}
use Rattle.racp_charts.proofs.labels.push_labels.Given as goal

abbrev pub invariant-loop-corner : goal.invariant-loop-corner
invariant-loop-corner l = (string_bytes l.text ++ cost_labels l.span l.most l.x l.y (drop l.corner-index l.corners) ≡ string_bytes l.initial.text ++ cost_labels l.span l.most 0 0 l.corners) × (l.x ≤ 970) × (l.y ≤ 250)
