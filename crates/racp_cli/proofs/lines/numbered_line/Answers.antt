use Rattle.std.proofs.Common.{rules}
use Rattle.racp_cli.proofs.TextLines.{numbered_line_pieces}
use Rattle.racp_cli.proofs.lines.numbered_line.Goals as goal

pub returns : goal.returns
returns c = rw (← numbered_line_pieces c.args.words.now c.args.number) (search rules)
