use Rattle.std.proofs.Common.{◌∙◌, ◌++◌, codes, option_map, string_bytes, List, ap}
use Rattle.racp_charts.specs.Elements.{name_text, predecessor_list}
use Rattle.racp_show.specs.declared.predecessor.Predecessor.{Predecessor}
use Rattle.racp_report.specs.Pages.{padding, task_cells, task_row, task_row_begin}
use Rattle.racp_report.proofs.Pieces.{in_seven}
use Rattle.racp_report.proofs.task_table.push_task.Goals as goal

pub returns : goal.returns
unfolding task_row
returns c =
    in_seven (string_bytes c.args.text.now) (task_row_begin c.args.task.now) (padding c.args.depth) (codes ">") (name_text (option_map (λ name. name.now) c.args.task.now.name) (codes "task") c.args.task.now.job) (task_cells c.args.calendar c.args.task.now) (predecessor_list 0 c.args.task.now.predecessors.items) (codes "</td></tr>\n") c.in_ok-push_begin.ensures c.in_ok-push_padding.ensures c.in_ok-push_str.ensures.bytes c.in_ok-push_name.ensures c.in_ok-push_cells.ensures (c.in_ok-push_predecessors.ensures ∙ ap (λ (t : List Predecessor). string_bytes c.push_cells.new.text ++ predecessor_list 0 t) c.as_slice.ensures.value) c.in_ok-push_str-2.ensures.bytes
