use Rattle.racp_bounds.proofs.lemmas.Sharpened.{admitting_above_sharpened}
use Rattle.racp_bounds.proofs.laws.admitting_is_above_sharpened.Goals as goal

pub returns : goal.returns
returns c = admitting_above_sharpened
