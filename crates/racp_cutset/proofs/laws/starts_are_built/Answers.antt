use Rattle.racp_cutset.proofs.Built as laws
use Rattle.racp_cutset.proofs.laws.starts_are_built.Goals as goal

pub returns : goal.returns
returns c = laws.starts_are_built
