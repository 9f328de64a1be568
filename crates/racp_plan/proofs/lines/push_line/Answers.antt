use Rattle.std.proofs.Common.{rules}
use Rattle.racp_plan.proofs.TextLines.{number_line_pieces}
use Rattle.racp_plan.proofs.lines.push_line.Goals as goal

pub returns : goal.returns
returns c = rw (← (number_line_pieces c.args.word.now c.args.owner c.args.number)) (search rules)
