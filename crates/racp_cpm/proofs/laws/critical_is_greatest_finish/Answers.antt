use Rattle.racp_cpm.proofs.Paths.{critical_is}
use Rattle.racp_cpm.proofs.Ends.{last_is}
use Rattle.racp_cpm.proofs.laws.critical_is_greatest_finish.Goals as goal

pub returns : goal.returns
returns c = λ p release early length sound h. (last_is p release early length sound h, critical_is p release early length sound h)
