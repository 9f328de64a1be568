use Rattle.racp_delay.proofs.ActiveLoads as lemmas
use Rattle.racp_delay.proofs.laws.load_is_usage.Goals as goal

pub returns : goal.returns
returns c = lemmas.load_is_usage
