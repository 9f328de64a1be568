use Rattle.racp_found.specs.declared.observer.News.TheVariants.{Cost}
use Rattle.racp_by_clauses.proofs.descent.Descent.close.Goals as goal

pub hear-requires : goal.hear-requires
hear-requires g c = c.requires.may (Cost c.in-Some.least) (c.in-Some.ensures.least c.requires.is_of.is_open)
