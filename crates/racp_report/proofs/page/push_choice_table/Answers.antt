use Rattle.std.proofs.Common.{◌∙◌, ◌++◌, codes, flat_map, string_bytes, List, ap}
use Rattle.racp_charts.specs.declared.choice.Choice.{Choice}
use Rattle.racp_report.specs.Pages.{choice_row, choice_table, total_row}
use Rattle.racp_report.proofs.Pieces.{in_three}
use Rattle.racp_report.proofs.page.push_choice_table.Goals as goal

pub returns : goal.returns
unfolding choice_table
returns c =
    in_three (string_bytes c.args.text.now) (codes "<h2>What to have</h2>\n<div class=\"wide\"><table>\n<thead><tr><th>Resource</th><th>Units</th><th>Owned</th><th>Price</th><th>Cost</th><th>Busy</th></tr></thead>\n<tbody>\n") (flat_map choice_row c.args.report.now.plan.choices.items) (total_row c.args.report.now.plan.cost) c.in_ok-push_str.ensures.bytes (c.in_ok-push_choices.ensures ∙ ap (λ (t : List Choice). string_bytes c.push_str.new.self ++ flat_map choice_row t) c.as_slice.ensures.value) c.in_ok-push_total.ensures
