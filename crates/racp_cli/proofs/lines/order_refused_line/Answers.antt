use Rattle.std.proofs.Common.{rules}
use Rattle.racp_cli.proofs.TextLines.{order_refusal_line_pieces}
use Rattle.racp_cli.proofs.lines.order_refused_line.Goals as goal

pub returns : goal.returns
returns c = rw (← order_refusal_line_pieces c.args.fault) (search rules)
