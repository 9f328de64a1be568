use Rattle.std.proofs.Common.{string_bytes}
use Rattle.racp_charts.specs.Pictures.{costs_begin, costs_body}
use Rattle.racp_charts.proofs.Pieces.{with_some}
use Rattle.racp_charts.proofs.cost_picture.costs_svg.Goals as goal

pub returns : goal.returns
returns c =
    with_some (string_bytes c.new-text.result) (costs_begin c.args.calendar) _ (costs_body c.args.calendar c.args.corners.now c.args.last) c.new-text.ensures.bytes c.in_ok-push_opening.ensures c.in_ok-push_str.ensures.bytes c.in_ok-push_body.ensures
