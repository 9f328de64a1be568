use Rattle.std.proofs.Common.{codes, option_map, string_bytes}
use Rattle.racp_charts.specs.Drawings.{panel_numbers, panel_title}
use Rattle.racp_charts.specs.Elements.{short_text}
use Rattle.racp_charts.proofs.Pieces.{in_three}
use Rattle.racp_charts.proofs.panel.push_title.Goals as goal

pub returns : goal.returns
unfolding panel_title
returns c =
    in_three (string_bytes c.args.text.now) (codes "<text class=\"head\" x=\"8\" y=\"32\">") (short_text 40 (option_map (λ name. name.now) c.args.choice.now.name) (codes "resource") c.args.choice.now.resource) (panel_numbers c.args.choice.now) c.in_ok-push_str.ensures.bytes c.in_ok-push_short.ensures c.in_ok-push_title_end.ensures
