use Rattle.racp_explain.proofs.InTable.{listed}
use Rattle.racp_explain.proofs.laws.all_are_listed.Goals as goal

pub returns : goal.returns
returns c = listed
