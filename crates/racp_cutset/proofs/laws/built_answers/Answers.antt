use Rattle.racp_cutset.proofs.Built as laws
use Rattle.racp_cutset.proofs.laws.built_answers.Goals as goal

pub returns : goal.returns
returns c = laws.built_answers
