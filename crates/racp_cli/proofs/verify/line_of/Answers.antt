use Rattle.std.proofs.Common.{rules}
use Rattle.racp_plan.specs.Texts.{line}
use Rattle.racp_cli.specs.Texts.{verified_line, unproved_line}
use Rattle.racp_cli.proofs.verify.line_of.Goals as goal

pub returns-in-Ok-Some-true : goal.returns-in-Ok-Some-true
unfolding verified_line line
returns-in-Ok-Some-true c = search rules

pub returns-in-Ok-Some-false : goal.returns-in-Ok-Some-false
unfolding unproved_line line
returns-in-Ok-Some-false c = search rules
