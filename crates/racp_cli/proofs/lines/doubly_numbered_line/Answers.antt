use Rattle.std.proofs.Common.{rules}
use Rattle.racp_cli.proofs.TextLines.{doubly_numbered_line_pieces}
use Rattle.racp_cli.proofs.lines.doubly_numbered_line.Goals as goal

pub returns : goal.returns
returns c = rw (← doubly_numbered_line_pieces c.args.words.now c.args.first c.args.second) (search rules)
