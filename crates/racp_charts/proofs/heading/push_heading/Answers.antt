use Rattle.std.proofs.Common.{codes, string_bytes}
use Rattle.racp_charts.specs.Pictures.{heading_element, length_element, plan_title}
use Rattle.racp_charts.proofs.Pieces.{in_four}
use Rattle.racp_charts.proofs.heading.push_heading.Goals as goal

pub returns : goal.returns
unfolding heading_element
returns c =
    in_four (string_bytes c.args.text.now) (codes "<text class=\"title\" x=\"8\" y=\"26\">") (plan_title c.args.drawing.now.calendar c.args.drawing.now.cost c.args.drawing.now.deadline) (codes "</text>\n") (length_element c.args.drawing.now.critical) c.in_ok-push_str.ensures.bytes c.in_ok-push_plan.ensures c.in_ok-push_str-2.ensures.bytes c.in_ok-push_length.ensures
