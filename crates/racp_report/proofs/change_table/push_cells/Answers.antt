use Rattle.std.proofs.Common.{codes, string_bytes}
use Rattle.racp_charts.specs.Texts.{escaped}
use Rattle.racp_report.specs.Pages.{change_cells}
use Rattle.racp_report.proofs.Pieces.{in_five}
use Rattle.racp_report.proofs.change_table.push_cells.Goals as goal

pub returns : goal.returns
unfolding change_cells
returns c =
    in_five (string_bytes c.args.text.now) (codes "<tr><th scope=\"row\">") (escaped c.args.change.now) (codes "</th><td class=\"left\">") (escaped c.args.outcome.now) (codes "</td></tr>\n") c.in_ok-push_str.ensures.bytes c.in_ok-push_name.ensures c.in_ok-push_str-2.ensures.bytes c.in_ok-push_name-2.ensures c.in_ok-push_str-3.ensures.bytes
