use Rattle.racp_cutset.proofs.Built as laws
use Rattle.racp_cutset.proofs.laws.built_lies.Goals as goal

pub returns : goal.returns
returns c = laws.built_lies
