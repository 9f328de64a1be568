use Rattle.racp_soonest.proofs.OneSoonest.{one_soonest}
use Rattle.racp_soonest.proofs.laws.soonest_is_one.Goals as goal

pub returns : goal.returns
returns c = one_soonest c.answer_is_one.ensures
