use Rattle.std.proofs.Common.{rules}
use Rattle.racp_candidates.proofs.listed.ListedSeries.next.Goals as goal

pub returns : goal.returns
returns c = search rules
