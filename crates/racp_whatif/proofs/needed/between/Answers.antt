use Rattle.std.proofs.Common.{rules}
use Rattle.racp_whatif.proofs.Listing.{between_pieces}
use Rattle.racp_whatif.proofs.needed.between.Goals as goal

pub returns : goal.returns
returns c = rw (← (between_pieces c.args.from c.args.until)) (search rules)
