use Rattle.std.proofs.Common.{rules}
use Rattle.racp_plan.proofs.lemmas.Numbered.{start_lines_are}
use Rattle.racp_plan.proofs.lines.push_starts.Goals as goal

pub returns : goal.returns
returns c = rw (start_lines_are 1 c.args.starts.now) (search rules)
