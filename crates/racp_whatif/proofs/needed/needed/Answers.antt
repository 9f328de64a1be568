use Rattle.std.proofs.Common.{rules}
use Rattle.racp_whatif.proofs.Listing.{needed_pieces}
use Rattle.racp_whatif.proofs.needed.needed.Goals as goal

pub returns : goal.returns
returns c = rw (← (needed_pieces c.args.units c.args.name.now c.args.times.now c.args.jobs.now)) (search rules)
