use Rattle.std.proofs.Common.{string_bytes}
use Rattle.racp_charts.specs.Links.{curve_begin, curve_end, link_between, tip_element}
use Rattle.racp_charts.proofs.Pieces.{in_three}
use Rattle.racp_charts.proofs.links.push_link.Goals as goal

pub returns : goal.returns
unfolding link_between
returns c =
    in_three (string_bytes c.args.text.now) (curve_begin c.args.from_x c.args.from_y) (curve_end c.args.to_x c.args.to_y) (tip_element c.args.to_x c.args.to_y) c.in_ok-push_curve_begin.ensures c.in_ok-push_curve_end.ensures c.in_ok-push_tip.ensures
