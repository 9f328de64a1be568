use Rattle.racp_model.proofs.lemmas.Usage.{use_of-active, use_of-idle}
use Rattle.racp_model.proofs.laws.use_is_by_activity.Goals as goal

pub returns : goal.returns
returns c = λ p starts k t i. (use_of-active p starts k t i, use_of-idle p starts k t i)
