use Rattle.racp_delay.proofs.Subsets.{others_are_kept}
use Rattle.racp_delay.proofs.laws.others_stay.Goals as goal

pub returns : goal.returns
returns c = others_are_kept
