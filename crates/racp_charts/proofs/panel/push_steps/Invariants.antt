use Rattle.std.proofs.Common.{◌≡◌, ◌++◌, string_bytes, drop}
use Rattle.racp_charts.specs.Drawings.{stair_steps}
use Rattle.racp_charts.proofs.panel.push_steps.Given as goal

abbrev pub invariant-loop-step : goal.invariant-loop-step
invariant-loop-step l = string_bytes l.text ++ stair_steps l.span l.units (drop l.step-index l.usage) ≡ string_bytes l.initial.text ++ stair_steps l.span l.units l.usage
