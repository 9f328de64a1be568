use Rattle.std.proofs.Common.{rules}
use Rattle.racp_plan.specs.Texts.{line}
use Rattle.racp_cli.specs.Texts.{memory_line, head_line}
use Rattle.racp_cli.proofs.check_fault.CheckFault.line.Goals as goal

pub returns-in-OutOfMemory : goal.returns-in-OutOfMemory
unfolding memory_line line
returns-in-OutOfMemory c = search rules

pub returns-in-Head : goal.returns-in-Head
unfolding head_line line
returns-in-Head c = search rules
