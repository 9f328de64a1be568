use Rattle.std.proofs.Common.{rules}
use Rattle.racp_plan.specs.Texts.{line}
use Rattle.racp_cli.specs.Texts.{ok_line}
use Rattle.racp_cli.proofs.check.line_of.Goals as goal

pub returns-in-Ok : goal.returns-in-Ok
unfolding ok_line line
returns-in-Ok c = search rules
