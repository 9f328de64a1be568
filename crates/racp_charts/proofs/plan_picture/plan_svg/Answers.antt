use Rattle.std.proofs.Common.{string_bytes}
use Rattle.racp_charts.specs.Pictures.{plan_begin, plan_body}
use Rattle.racp_charts.proofs.Pieces.{with_some}
use Rattle.racp_charts.proofs.plan_picture.plan_svg.Goals as goal

pub returns : goal.returns
returns c =
    with_some (string_bytes c.new-text.result) (plan_begin c.args.drawing.now) _ (plan_body c.args.has_links c.args.drawing.now) c.new-text.ensures.bytes c.in_ok-push_opening.ensures c.in_ok-push_str.ensures.bytes c.in_ok-push_body.ensures
