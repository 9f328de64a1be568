use Rattle.std.proofs.Common.{codes, string_bytes}
use Rattle.racp_calendar.specs.Dates.{last_text}
use Rattle.racp_report.specs.Pages.{cost_cells, cost_text}
use Rattle.racp_report.proofs.Pieces.{in_three}
use Rattle.racp_report.proofs.cost_table.push_cells.Goals as goal

pub returns : goal.returns
unfolding cost_cells
returns c =
    in_three (string_bytes c.args.text.now) (codes "<tr><td class=\"left\">") (last_text c.args.calendar c.args.step.now.deadline) (cost_text c.args.step.now.cost) c.in_ok-push_str.ensures.bytes c.in_ok-push_last.ensures c.in_ok-push_cost.ensures
