use Rattle.std.proofs.Common.{rules}
use Rattle.racp_bounds.proofs.floor.floor.Goals as goal

pub returns : goal.returns
returns c = search rules
