use Rattle.std.proofs.Common.{string_bytes}
use Rattle.racp_charts.specs.Drawings.{axis, deadline_line, limit_element, panel_element, panel_title, stair_element}
use Rattle.racp_charts.proofs.Pieces.{in_five}
use Rattle.racp_charts.proofs.panel.push_panel.Goals as goal

pub returns : goal.returns
unfolding panel_element
returns c =
    in_five (string_bytes c.args.text.now) (panel_title c.args.choice.now) (axis c.args.span 10 80) (stair_element c.args.span c.args.choice.now) (limit_element c.args.choice.now.units) (deadline_line 10 80) c.in_ok-push_title.ensures c.in_ok-push_axis.ensures c.in_ok-push_stair.ensures c.in_ok-push_limit.ensures c.in_ok-push_deadline.ensures
