use Rattle.std.proofs.Common.{rules}
use Rattle.racp_plan.specs.Texts.{line}
use Rattle.racp_cli.specs.Texts.{unproved_line}
use Rattle.racp_cli.proofs.verify_bound.line_of.Goals as goal

pub returns-in-None : goal.returns-in-None
unfolding unproved_line line
returns-in-None c = search rules
