use Rattle.racp_cutset.proofs.Built as laws
use Rattle.racp_cutset.proofs.laws.covering_keeps_yes.Goals as goal

pub returns : goal.returns
returns c = laws.covering_keeps_yes
