use Rattle.std.proofs.Common.{rules}
use Rattle.racp_plan.specs.Steps.{last_line}
use Rattle.racp_plan.proofs.rest.Rest.end.Goals as goal

pub returns : goal.returns
unfolding last_line
returns c =
    let nothing = c.if-not-is_empty.ensures in
    search rules
