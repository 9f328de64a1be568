use Rattle.std.proofs.Common.{rules}
use Rattle.racp_lexfix.proofs.TextLines.{impossible_line_pieces}
use Rattle.racp_lexfix.proofs.lines.impossible_line.Goals as goal

pub returns : goal.returns
returns c = rw (← impossible_line_pieces c.args.critical c.args.deadline) (search rules)
