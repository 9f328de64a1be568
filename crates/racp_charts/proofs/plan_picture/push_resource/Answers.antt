use Rattle.std.proofs.Common.{codes, string_bytes}
use Rattle.racp_charts.specs.Drawings.{panel_element}
use Rattle.racp_charts.specs.Pictures.{resource_element}
use Rattle.racp_charts.specs.PictureParts.{group_begin}
use Rattle.racp_charts.proofs.Pieces.{in_three}
use Rattle.racp_charts.proofs.plan_picture.push_resource.Goals as goal

pub returns : goal.returns
unfolding resource_element
returns c =
    in_three (string_bytes c.args.text.now) (group_begin c.args.top) (panel_element c.args.span c.args.choice.now) (codes "</g>\n") c.in_ok-push_group.ensures c.in_ok-push_panel.ensures c.in_ok-push_str.ensures.bytes
