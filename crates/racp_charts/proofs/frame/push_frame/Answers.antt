use Rattle.std.proofs.Common.{string_bytes}
use Rattle.racp_charts.specs.Drawings.{axis, axis_above, deadline_label, deadline_line, frame_element}
use Rattle.racp_charts.proofs.Pieces.{in_four}
use Rattle.racp_charts.proofs.frame.push_frame.Goals as goal

pub returns : goal.returns
unfolding frame_element
returns c =
    in_four (string_bytes c.args.text.now) (axis_above c.args.span 34) (axis c.args.span 40 c.args.bottom) (deadline_label c.args.span) (deadline_line 40 c.args.bottom) c.in_ok-push_above.ensures c.in_ok-push_axis.ensures c.in_ok-push_deadline_label.ensures c.in_ok-push_deadline.ensures
