use Rattle.std.proofs.Common.{rules}
use Rattle.racp_whatif.proofs.Listing.{base_line_pieces}
use Rattle.racp_whatif.proofs.lines.base_line.Goals as goal

pub returns : goal.returns
returns c = rw (← (base_line_pieces c.args.base.now)) (search rules)
