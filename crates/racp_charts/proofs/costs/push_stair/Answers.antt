use Rattle.std.proofs.Common.{codes, string_bytes}
use Rattle.racp_charts.specs.Drawings.{place_text}
use Rattle.racp_charts.specs.CostDrawings.{cost_stair, cost_steps}
use Rattle.racp_charts.proofs.Pieces.{in_four}
use Rattle.racp_charts.proofs.costs.push_stair.Goals as goal

pub returns : goal.returns
unfolding cost_stair
returns c =
    in_four (string_bytes c.args.text.now) (codes "<path class=\"used\" d=\"") (place_text 270 250) (cost_steps c.args.span c.args.most c.args.corners.now) (codes "H994V250Z\"/>\n") c.in_ok-push_str.ensures.bytes c.in_ok-push_place.ensures c.in_ok-push_steps.ensures c.in_ok-push_str-2.ensures.bytes
