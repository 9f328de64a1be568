use Rattle.std.proofs.Common.{inr, refl, rules}
use Rattle.racp_plan.specs.Texts.{line}
use Rattle.racp_prove.specs.Proving.{unproved_line}
use Rattle.racp_prove.proofs.by_clauses.unproved.Goals as goal

pub returns-clause-line : goal.returns-clause-line
unfolding line unproved_line
returns-clause-line c = (refl, search rules)

pub returns-clause-shown : goal.returns-clause-shown
unfolding line unproved_line
returns-clause-shown c = inr (inr (refl, search rules))
