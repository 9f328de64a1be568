use Rattle.std.proofs.Common.{codes, string_bytes}
use Rattle.racp_report.specs.Drawings.{drawing_begin, key_figure}
use Rattle.racp_charts.specs.Pictures.{key_element}
use Rattle.racp_report.proofs.Pieces.{in_three}
use Rattle.racp_report.proofs.key.push_key_figure.Goals as goal

pub returns : goal.returns
unfolding key_figure
returns c =
    in_three (string_bytes c.args.text.now) (drawing_begin (codes "What the shapes mean") 16) (key_element) (codes "</svg></figure>\n") c.in_ok-push_drawing.ensures c.in_ok-push_key.ensures c.in_ok-push_str.ensures.bytes
