use Rattle.racp_show.specs.declared.predecessor.Predecessor.{Predecessor}
use Rattle.std.proofs.Common.{◌∙◌, ◌++◌, List, ℕ, ap, flat_map, string_bytes}
use Rattle.racp_export.specs.MsProject.{kind_lines, link_text, milestone, row_end, task_lines, task_ties, task_times}
use Rattle.racp_export.specs.Told.{told_by}
use Rattle.racp_export.proofs.Pieces.{in_five}
use Rattle.racp_export.proofs.ms_tasks.push_task.Goals as goal

pub returns : goal.returns
unfolding task_lines
returns c =
    let told = told_by c.args.ground.now in
    in_five (string_bytes c.args.text.now) (task_times told c.args.task.now) (kind_lines (milestone c.args.task.now) 0) (task_ties told c.args.task.now) (flat_map (link_text told) c.args.task.now.predecessors.items) row_end c.in_ok-push_times.ensures
    (c.in_ok-push_kind.ensures ∙ ap (λ (n : ℕ). string_bytes c.push_times.new.text ++ kind_lines n 0) c.milestone.ensures)
    c.in_ok-push_ties.ensures
    (c.in_ok-push_links.ensures ∙ ap (λ (links : List Predecessor). string_bytes c.push_ties.new.text ++ flat_map (link_text told) links) c.as_slice.ensures.value)
    c.in_ok-push_str.ensures.bytes
