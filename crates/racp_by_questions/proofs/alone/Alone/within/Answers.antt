use Rattle.std.proofs.Common.{rules}
use Rattle.racp_by_questions.proofs.alone.Alone.within.Goals as goal

pub returns : goal.returns
returns g c = search rules
