use Rattle.racp_show.proofs.Behind.{behind-none}
use Rattle.racp_show.proofs.lines.behind.Goals as goal

pub returns-in-None-clause-rest : goal.returns-in-None-clause-rest
returns-in-None-clause-rest c = behind-none c.args.line.now c.loop-hash.rest.now c.loop-hash.invariant.1 c.in-None.ensures.cases
