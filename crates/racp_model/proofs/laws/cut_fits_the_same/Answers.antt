use Rattle.racp_model.proofs.lemmas.Cuts.{cut_fits}
use Rattle.racp_model.proofs.laws.cut_fits_the_same.Goals as goal

pub returns : goal.returns
returns c = cut_fits
