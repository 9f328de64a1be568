use Rattle.std.proofs.Common.{codes, string_bytes}
use Rattle.racp_report.specs.Drawings.{drawing_begin, panel_figure}
use Rattle.racp_charts.specs.Drawings.{panel_element}
use Rattle.racp_report.proofs.Pieces.{in_three}
use Rattle.racp_report.proofs.panels.push_figure.Goals as goal

pub returns : goal.returns
unfolding panel_figure
returns c =
    in_three (string_bytes c.args.text.now) (drawing_begin (codes "The use of a resource over time") 106) (panel_element c.args.span c.args.choice.now) (codes "</svg></figure>\n") c.in_ok-push_drawing.ensures c.in_ok-push_panel.ensures c.in_ok-push_str.ensures.bytes
