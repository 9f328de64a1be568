use Rattle.std.proofs.Common.{codes, string_bytes}
use Rattle.racp_charts.specs.Drawings.{limit_element, scale_element}
use Rattle.racp_charts.proofs.Pieces.{in_two}
use Rattle.racp_charts.proofs.panel.push_limit.Goals as goal

pub returns : goal.returns
unfolding limit_element
returns c =
    in_two (string_bytes c.args.text.now) (codes "<path class=\"limit\" d=\"M270 20H970\"/>") (scale_element c.args.units 24 84) c.in_ok-push_str.ensures.bytes c.in_ok-push_scale.ensures
