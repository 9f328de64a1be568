use Rattle.std.proofs.Common.{◌∙◌, ◌++◌, codes, flat_map, string_bytes, List, ℕ, ap}
use Rattle.racp_report.specs.Pages.{cost_cells, cost_row, unit_text}
use Rattle.racp_report.proofs.Pieces.{in_three}
use Rattle.racp_report.proofs.cost_table.push_row.Goals as goal

pub returns : goal.returns
unfolding cost_row
returns c =
    in_three (string_bytes c.args.text.now) (cost_cells c.args.calendar c.args.step.now) (flat_map unit_text c.args.step.now.capacities.items) (codes "</td></tr>\n") c.in_ok-push_cells.ensures (c.in_ok-push_units.ensures ∙ ap (λ (t : List ℕ). string_bytes c.push_cells.new.text ++ flat_map unit_text t) c.as_slice.ensures.value) c.in_ok-push_str.ensures.bytes
