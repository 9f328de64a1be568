use Rattle.std.proofs.Common.{rules}
use Rattle.racp_lexfix.proofs.printed.status_of.Goals as goal

pub returns-in-Impossible : goal.returns-in-Impossible
returns-in-Impossible c = search (rules, c.in-Impossible.is)
