use Rattle.std.proofs.Common.{rules}
use Rattle.racp_plan.proofs.TextLines.{plan_text_pieces}
use Rattle.racp_plan.proofs.write.write_plan.Goals as goal

pub returns : goal.returns
returns c = rw (← (plan_text_pieces c.args.plan.now)) (search rules)
