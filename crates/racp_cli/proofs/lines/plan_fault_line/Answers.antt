use Rattle.std.proofs.Common.{rules}
use Rattle.racp_plan.specs.Texts.{line}
use Rattle.racp_cli.specs.Texts.{plan_fault_line}
use Rattle.racp_cli.proofs.lines.plan_fault_line.Goals as goal

pub returns-in-Cost : goal.returns-in-Cost
unfolding plan_fault_line line
returns-in-Cost c = search rules

pub returns-in-Late : goal.returns-in-Late
unfolding plan_fault_line
returns-in-Late c = search rules

pub returns-in-Order : goal.returns-in-Order
unfolding plan_fault_line
returns-in-Order c = search rules

pub returns-in-Over : goal.returns-in-Over
unfolding plan_fault_line
returns-in-Over c = search rules

pub returns-in-Ceiling : goal.returns-in-Ceiling
unfolding plan_fault_line
returns-in-Ceiling c = search rules

pub returns-in-Early : goal.returns-in-Early
unfolding plan_fault_line
returns-in-Early c = rw c.in-Early.is c.numbered_line-in-Early.ensures
