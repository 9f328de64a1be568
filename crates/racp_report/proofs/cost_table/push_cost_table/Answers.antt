use Rattle.std.proofs.Common.{codes, flat_map, string_bytes}
use Rattle.racp_report.specs.Drawings.{cost_figure}
use Rattle.racp_report.specs.Pages.{cost_row, cost_table}
use Rattle.racp_report.proofs.Pieces.{in_five}
use Rattle.racp_report.proofs.cost_table.push_cost_table.Goals as goal

pub returns : goal.returns
unfolding cost_table
returns c =
    in_five (string_bytes c.args.text.now) (codes "<h2>What each deadline costs</h2>\n") (cost_figure c.args.calendar c.args.costs.now c.args.deadline) (codes "<div class=\"wide\"><table>\n<thead><tr><th>From deadline</th><th>Cost</th><th>Units of each resource</th></tr></thead>\n<tbody>\n") (flat_map (cost_row c.args.calendar) c.args.costs.now) (codes "</tbody></table></div>\n") c.in_ok-push_str.ensures.bytes c.in_ok-push_cost_figure.ensures c.in_ok-push_str-2.ensures.bytes c.in_ok-push_rows.ensures c.in_ok-push_str-3.ensures.bytes
