use Rattle.std.proofs.Common.{codes, string_bytes}
use Rattle.racp_charts.specs.Pictures.{plan_title, title_element}
use Rattle.racp_charts.proofs.Pieces.{in_three}
use Rattle.racp_charts.proofs.heading.push_title.Goals as goal

pub returns : goal.returns
unfolding title_element
returns c =
    in_three (string_bytes c.args.text.now) (codes "<title>") (plan_title c.args.calendar c.args.cost c.args.deadline) (codes "</title>\n") c.in_ok-push_str.ensures.bytes c.in_ok-push_plan.ensures c.in_ok-push_str-2.ensures.bytes
