use Rattle.std.proofs.Common.{codes, flat_map, string_bytes}
use Rattle.std.specs.Str.Lines.{lines}
use Rattle.racp_report.specs.Pages.{change_row, change_table}
use Rattle.racp_report.proofs.Pieces.{in_three}
use Rattle.racp_report.proofs.change_table.push_change_table.Goals as goal

pub returns : goal.returns
unfolding change_table
returns c =
    in_three (string_bytes c.args.text.now) (codes "<h2>What changes would cost</h2>\n<p>Each row has the cheapest plan with one term of the order changed, beside this one. Times are numbers of time units.</p>\n<div class=\"wide\"><table>\n<thead><tr><th class=\"left\">Change</th><th class=\"left\">What becomes of it</th></tr></thead>\n<tbody>\n") (flat_map change_row (lines c.args.changes.now)) (codes "</tbody></table></div>\n") c.in_ok-push_str.ensures.bytes c.in_ok-push_rows.ensures c.in_ok-push_str-2.ensures.bytes
