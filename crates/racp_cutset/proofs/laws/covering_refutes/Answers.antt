use Rattle.racp_cutset.proofs.Built as laws
use Rattle.racp_cutset.proofs.laws.covering_refutes.Goals as goal

pub returns : goal.returns
returns c = laws.covering_refutes
