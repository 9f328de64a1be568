use Rattle.std.proofs.Common.{codes, string_bytes}
use Rattle.racp_calendar.specs.Dates.{last_text}
use Rattle.racp_report.specs.Pages.{cost_element, times_element}
use Rattle.racp_report.proofs.Pieces.{in_three}
use Rattle.racp_report.proofs.heading.push_times.Goals as goal

pub returns : goal.returns
unfolding times_element
returns c =
    let plan = c.args.plan.now in
    in_three (string_bytes c.args.text.now) (cost_element plan.cost) (last_text plan.calendar plan.deadline) (codes "</dd></div>") c.in_ok-push_cost.ensures c.in_ok-push_last.ensures c.in_ok-push_str.ensures.bytes
