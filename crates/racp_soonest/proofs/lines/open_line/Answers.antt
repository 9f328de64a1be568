use Rattle.std.proofs.Common.{rules}
use Rattle.racp_soonest.proofs.TextLines.{open_line_pieces}
use Rattle.racp_soonest.proofs.lines.open_line.Goals as goal

pub returns : goal.returns
returns c = rw (← open_line_pieces c.args.least) (search rules)
