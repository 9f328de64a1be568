use Rattle.std.proofs.Common.{◌+◌, ◌-◌, ◌∙◌, ◌++◌, ℕ, ap, codes, string_bytes}
use Rattle.racp_calendar.specs.Dates.{first_text, last_text}
use Rattle.racp_report.specs.Pages.{task_duration, task_slack, task_times}
use Rattle.racp_report.proofs.Pieces.{in_five}
use Rattle.racp_report.proofs.task_table.push_times.Goals as goal

pub returns : goal.returns
unfolding task_times
returns c =
    let t = c.args.task.now in
    in_five (string_bytes c.args.text.now) (task_duration t.duration) (first_text c.args.calendar t.start t.duration) (codes "</td><td>") (last_text c.args.calendar (t.start + t.duration)) (task_slack (t.latest - t.start)) c.in_ok-push_duration.ensures c.in_ok-push_first.ensures c.in_ok-push_str.ensures.bytes c.in_ok-push_last.ensures (c.in_ok-push_slack.ensures ∙ ap (λ (n : ℕ). string_bytes c.push_last.new.text ++ task_slack n) c.saturating_sub.ensures)
