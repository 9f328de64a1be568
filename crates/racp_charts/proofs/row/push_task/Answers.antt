use Rattle.std.proofs.Common.{◌∙◌, ◌+◌, ◌++◌, ℕ, ap, codes, option_map, string_bytes}
use Rattle.racp_charts.specs.Drawings.{name_columns, name_left, row_middle, shape_element, slack_element, task_element, tip_element}
use Rattle.racp_charts.specs.Elements.{short_text}
use Rattle.racp_charts.proofs.Pieces.{in_six}
use Rattle.racp_charts.proofs.row.push_task.Goals as goal

pub returns : goal.returns
unfolding task_element
returns c =
    in_six (string_bytes c.args.text.now) (tip_element c.args.span.calendar c.args.task.now) (row_middle (name_left c.args.depth) c.args.top) (short_text (name_columns c.args.depth) (option_map (λ name. name.now) c.args.task.now.name) (codes "task") c.args.task.now.job) (codes "</text>") (slack_element c.args.span c.args.task.now (c.args.top + 10)) (shape_element c.args.span c.args.task.now (c.args.top + 4)) c.in_ok-push_tip.ensures (c.in_ok-push_middle.ensures ∙ ap (λ (n : ℕ). string_bytes c.push_tip.new.text ++ row_middle n c.args.top) c.left_of.ensures) (c.in_ok-push_short.ensures ∙ ap (λ (n : ℕ). string_bytes c.push_middle.new.text ++ short_text n (option_map (λ name. name.now) c.args.task.now.name) (codes "task") c.args.task.now.job) c.columns_of.ensures) c.in_ok-push_str.ensures.bytes c.in_ok-push_slack.ensures c.in_ok-push_shape.ensures
