use Rattle.std.proofs.Common.{string_bytes}
use Rattle.racp_report.specs.Pages.{body_of, change_section, charts, checking_element, choice_table, cost_section, heading_element, task_table}
use Rattle.racp_report.proofs.Pieces.{in_seven}
use Rattle.racp_report.proofs.page.push_body.Goals as goal

pub returns : goal.returns
unfolding body_of
returns c =
    in_seven (string_bytes c.args.text.now) (heading_element c.args.report.now.plan c.args.report.now.claim) (choice_table c.args.report.now) (charts c.args.report.now) (task_table c.args.report.now) (cost_section c.args.report.now.plan.calendar c.args.report.now.plan.deadline c.args.report.now.costs.items) (change_section c.args.report.now.changes.now) (checking_element) c.in_ok-push_heading.ensures c.in_ok-push_choice_table.ensures c.in_ok-push_charts.ensures c.in_ok-push_task_table.ensures c.in_ok-push_curve.ensures c.in_ok-push_changes.ensures c.in_ok-push_checking.ensures
