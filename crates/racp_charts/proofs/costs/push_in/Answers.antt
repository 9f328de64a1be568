use Rattle.std.proofs.Common.{string_bytes}
use Rattle.racp_charts.specs.Drawings.{axis}
use Rattle.racp_charts.specs.CostDrawings.{cost_axis, cost_corners, cost_labels, cost_stair, costs_in}
use Rattle.racp_charts.proofs.Pieces.{in_five}
use Rattle.racp_charts.proofs.costs.push_in.Goals as goal

pub returns : goal.returns
unfolding costs_in
returns c =
    in_five (string_bytes c.args.text.now) (cost_axis c.args.span.calendar c.args.most) (axis c.args.span 30 250) (cost_stair c.args.span c.args.most c.args.corners.now) (cost_corners c.args.span c.args.most c.args.corners.now) (cost_labels c.args.span c.args.most 0 0 c.args.corners.now) c.in_ok-push_cost_axis.ensures c.in_ok-push_axis.ensures c.in_ok-push_stair.ensures c.in_ok-push_corners.ensures c.in_ok-push_labels.ensures
