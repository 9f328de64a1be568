use Rattle.std.proofs.Common.{rules}
use Rattle.racp_plan.proofs.lemmas.Numbered.{capacity_lines_are}
use Rattle.racp_plan.proofs.lines.push_capacities.Goals as goal

pub returns : goal.returns
returns c = rw (capacity_lines_are 1 c.args.capacities.now) (search rules)
