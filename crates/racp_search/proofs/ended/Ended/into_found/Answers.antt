use Rattle.std.proofs.Common.{refl}
use Rattle.racp_search.proofs.ended.Ended.into_found.Goals as goal

pub returns : goal.returns
returns c = refl
