use Rattle.racp_cpm.proofs.lemmas.Roots.{root_in_time}
use Rattle.racp_cpm.proofs.laws.root_is_in_time.Goals as goal

pub returns : goal.returns
returns c = root_in_time
