use Rattle.std.proofs.Common.{rules}
use Rattle.racp_cli.proofs.TextLines.{refusal_line_pieces}
use Rattle.racp_cli.proofs.lines.refused_line.Goals as goal

pub returns : goal.returns
returns c = rw (← (refusal_line_pieces c.args.fault)) (search rules)
