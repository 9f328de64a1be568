use Rattle.std.proofs.Common.{rules}
use Rattle.racp_lexfix.proofs.TextLines.{due_line_pieces}
use Rattle.racp_lexfix.proofs.lines.due_line.Goals as goal

pub returns : goal.returns
returns c = rw (← due_line_pieces c.args.job) (search rules)
