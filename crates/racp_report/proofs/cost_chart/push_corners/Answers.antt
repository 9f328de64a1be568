use Rattle.std.proofs.Common.{codes, string_bytes}
use Rattle.racp_report.specs.Drawings.{corner_figure, drawing_begin}
use Rattle.racp_charts.specs.CostDrawings.{costs_element}
use Rattle.racp_report.proofs.Pieces.{in_three}
use Rattle.racp_report.proofs.cost_chart.push_corners.Goals as goal

pub returns : goal.returns
unfolding corner_figure
returns c =
    in_three (string_bytes c.args.text.now) (drawing_begin (codes "What each deadline costs") 290) (costs_element c.args.calendar c.args.corners.now c.args.deadline) (codes "</svg></figure>\n") c.in_ok-push_drawing.ensures c.in_ok-push_costs.ensures c.in_ok-push_str.ensures.bytes
