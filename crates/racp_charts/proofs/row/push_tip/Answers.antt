use Rattle.std.proofs.Common.{◌∙◌, ◌++◌, codes, option_map, string_bytes, List, ap}
use Rattle.racp_charts.specs.Drawings.{tip_before, tip_element, tip_times}
use Rattle.racp_charts.specs.Elements.{name_text}
use Rattle.racp_show.specs.declared.predecessor.Predecessor.{Predecessor}
use Rattle.racp_charts.proofs.Pieces.{in_five}
use Rattle.racp_charts.proofs.row.push_tip.Goals as goal

pub returns : goal.returns
unfolding tip_element
returns c =
    in_five (string_bytes c.args.text.now) (codes "<g><title>") (name_text (option_map (λ name. name.now) c.args.task.now.name) (codes "task") c.args.task.now.job) (tip_times c.args.calendar c.args.task.now) (tip_before c.args.task.now.predecessors.items) (codes "</title>") c.in_ok-push_str.ensures.bytes c.in_ok-push_name.ensures c.in_ok-push_tip_times.ensures (c.in_ok-push_before.ensures ∙ ap (λ (t : List Predecessor). string_bytes c.push_tip_times.new.text ++ tip_before t) c.as_slice.ensures.value) c.in_ok-push_str-2.ensures.bytes
