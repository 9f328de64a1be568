use Rattle.std.proofs.Common.{rules}
use Rattle.racp_plan.specs.Texts.{line}
use Rattle.racp_lexfix.specs.Texts.{ceiling_line}
use Rattle.racp_lexfix.proofs.lines.answer_lines.Goals as goal

pub returns-in-Ceiling : goal.returns-in-Ceiling
unfolding ceiling_line line
returns-in-Ceiling c = search rules
