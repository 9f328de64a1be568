use Rattle.std.proofs.Common.{◌∙◌, ◌++◌, ℕ, codes, flat_map, string_bytes, List, ap}
use Rattle.racp_show.specs.declared.row.Row.{Row}
use Rattle.racp_report.specs.Pages.{table_row, task_table, time_titles}
use Rattle.racp_report.proofs.Pieces.{in_five}
use Rattle.racp_report.proofs.page.push_task_table.Goals as goal

pub returns : goal.returns
unfolding task_table
returns c =
    in_five (string_bytes c.args.text.now) (codes "<h2>The tasks</h2>\n<div class=\"wide\"><table>\n<thead><tr><th>No.</th><th class=\"left\">Task</th><th>Duration</th>") (time_titles c.args.report.now.plan.calendar) (codes "<th>Slack</th><th class=\"left\">Critical</th><th class=\"left\">After</th></tr></thead>\n<tbody>\n") (flat_map (table_row c.args.report.now.plan.calendar) c.args.report.now.plan.rows.items) (codes "</tbody></table></div>\n") c.in_ok-push_str.ensures.bytes (c.in_ok-push_str-2.ensures.bytes ∙ ap (λ (t : List ℕ). string_bytes c.push_str.new.self ++ t) c.time_titles.ensures) c.in_ok-push_str-3.ensures.bytes (c.in_ok-push_rows.ensures ∙ ap (λ (t : List Row). string_bytes c.push_str-3.new.self ++ flat_map (table_row c.args.report.now.plan.calendar) t) c.as_slice.ensures.value) c.in_ok-push_str-4.ensures.bytes
