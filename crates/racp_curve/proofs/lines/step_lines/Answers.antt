use Rattle.std.proofs.Common.{◌≤◌, length, rules}
use Rattle.racp_curve.specs.Texts.{step_lines}
use Rattle.racp_curve.proofs.TextLines.{lines_all}
use Rattle.racp_curve.proofs.lines.step_lines.Goals as goal

pub returns : goal.returns
returns c =
    let steps = c.args.steps.now in
    let past : length steps ≤ c.loop-step.step-index = search rules in
    lines_all steps c.loop-step.text.items (step_lines steps) c.loop-step.step-index past c.loop-step.invariant
