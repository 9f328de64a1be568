use Rattle.std.proofs.Common.{◌∙◌, ◌++◌, codes, string_bytes, List, ℕ, ap}
use Rattle.racp_report.specs.Pages.{task_cells, task_times, yes_text}
use Rattle.racp_report.proofs.Pieces.{in_three}
use Rattle.racp_report.proofs.task_table.push_cells.Goals as goal

pub returns : goal.returns
unfolding task_cells
returns c =
    in_three (string_bytes c.args.text.now) (task_times c.args.calendar c.args.task.now) (yes_text c.args.task.now.is_critical) (codes "</td><td class=\"left\">") c.in_ok-push_times.ensures (c.in_ok-push_str.ensures.bytes ∙ ap (λ (t : List ℕ). string_bytes c.push_times.new.text ++ t) c.yes_of.ensures) c.in_ok-push_str-2.ensures.bytes
