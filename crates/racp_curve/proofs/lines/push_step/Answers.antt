use Rattle.std.proofs.Common.{rules}
use Rattle.racp_curve.proofs.TextLines.{step_line_pieces}
use Rattle.racp_curve.proofs.lines.push_step.Goals as goal

pub returns : goal.returns
returns c = rw (← (step_line_pieces c.args.step.now c.args.text.now.items)) (search rules)
