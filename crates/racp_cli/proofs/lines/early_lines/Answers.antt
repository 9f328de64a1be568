use Rattle.std.proofs.Common.{rules}
use Rattle.racp_cli.proofs.TextLines.{early_text_pieces}
use Rattle.racp_cli.proofs.lines.early_lines.Goals as goal

pub returns : goal.returns
returns c = rw (← (early_text_pieces c.args.critical c.args.starts.now)) (search rules)
