use Rattle.std.proofs.Common.{◌≡◌, ◌++◌, drop}
use Rattle.racp_curve.specs.Texts.{step_lines}
use Rattle.racp_curve.proofs.lines.step_lines.Given as goal

abbrev pub invariant-loop-step : goal.invariant-loop-step
invariant-loop-step l = l.text.items ++ step_lines (drop l.step-index l.steps) ≡ step_lines l.steps
