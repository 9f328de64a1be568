use Rattle.racp_cli.proofs.Verifying.{line-whole}
use Rattle.racp_cli.proofs.verdict.first_line.Goals as goal

pub returns-in-Some : goal.returns-in-Some
returns-in-Some c = c.in-Some.ensures.1

pub returns-in-None : goal.returns-in-None
returns-in-None c = line-whole c.args.text.now c.in-None.ensures
