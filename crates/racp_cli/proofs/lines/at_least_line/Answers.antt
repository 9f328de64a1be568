use Rattle.std.proofs.Common.{rules}
use Rattle.racp_cli.proofs.TextLines.{at_least_line_pieces}
use Rattle.racp_cli.proofs.lines.at_least_line.Goals as goal

pub returns : goal.returns
returns c = rw (← at_least_line_pieces c.args.least) (search rules)
