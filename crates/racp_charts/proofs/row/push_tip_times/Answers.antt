use Rattle.std.proofs.Common.{◌-◌, ◌∙◌, ◌++◌, ℕ, ap, string_bytes}
use Rattle.racp_charts.specs.Drawings.{times_text, tip_begin, tip_slack, tip_times}
use Rattle.racp_charts.proofs.Pieces.{in_three}
use Rattle.racp_charts.proofs.row.push_tip_times.Goals as goal

pub returns : goal.returns
unfolding tip_times
returns c =
    let t = c.args.task.now in
    in_three (string_bytes c.args.text.now) (tip_begin t.job) (times_text c.args.calendar t.start t.duration) (tip_slack (t.latest - t.start)) c.in_ok-push_tip_begin.ensures c.in_ok-push_times.ensures (c.in_ok-push_tip_slack.ensures ∙ ap (λ (n : ℕ). string_bytes c.push_times.new.text ++ tip_slack n) c.saturating_sub.ensures)
