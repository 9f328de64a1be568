use Rattle.std.proofs.Common.{rules}
use Rattle.racp_soonest.proofs.TextLines.{known_line_pieces}
use Rattle.racp_soonest.proofs.lines.known_line.Goals as goal

pub returns : goal.returns
returns c = rw (← known_line_pieces c.args.least c.args.known) (search rules)
