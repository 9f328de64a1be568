use Rattle.std.proofs.Common.{rules}
use Rattle.racp_plan.proofs.TextLines.{head_lines_pieces}
use Rattle.racp_plan.proofs.lines.head_lines.Goals as goal

pub returns : goal.returns
returns c = rw (← (head_lines_pieces c.args.deadline c.args.critical c.args.cost)) (search rules)
