use Rattle.std.proofs.Common.{◌∙◌, ◌++◌, codes, flat_map, string_bytes, length, List, ap}
use Rattle.racp_report.specs.Drawings.{key_figure, panel_figure, row_blocks}
use Rattle.racp_report.specs.Pages.{charts}
use Rattle.racp_charts.specs.Pictures.{whole}
use Rattle.racp_charts.specs.declared.choice.Choice.{Choice}
use Rattle.racp_show.specs.declared.row.Row.{Row}
use Rattle.racp_report.proofs.Pieces.{in_five}
use Rattle.racp_report.proofs.page.push_charts.Goals as goal

pub returns : goal.returns
unfolding charts
returns c =
    in_five (string_bytes c.args.text.now) (codes "<h2>When each task runs</h2>\n") (key_figure) (row_blocks (whole c.args.report.now.plan) (length c.args.report.now.plan.rows.items) 0 c.args.report.now.plan.rows.items) (codes "<h2>How much of each resource is used</h2>\n") (flat_map (panel_figure (whole c.args.report.now.plan)) c.args.report.now.plan.choices.items) c.in_ok-push_str.ensures.bytes c.in_ok-push_key_figure.ensures (c.in_ok-push_chart.ensures ∙ ap (λ (t : List Row). string_bytes c.push_key_figure.new.text ++ row_blocks (whole c.args.report.now.plan) (length t) 0 t) c.as_slice.ensures.value) c.in_ok-push_str-2.ensures.bytes (c.in_ok-push_panels.ensures ∙ ap (λ (t : List Choice). string_bytes c.push_str-2.new.self ++ flat_map (panel_figure (whole c.args.report.now.plan)) t) c.as_slice-2.ensures.value)
