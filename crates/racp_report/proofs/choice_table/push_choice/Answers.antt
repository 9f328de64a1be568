use Rattle.std.proofs.Common.{codes, option_map, string_bytes}
use Rattle.racp_charts.specs.Elements.{name_text}
use Rattle.racp_report.specs.Pages.{choice_cells, choice_row}
use Rattle.racp_report.proofs.Pieces.{in_three}
use Rattle.racp_report.proofs.choice_table.push_choice.Goals as goal

pub returns : goal.returns
unfolding choice_row
returns c =
    in_three (string_bytes c.args.text.now) (codes "<tr><th scope=\"row\">") (name_text (option_map (λ name. name.now) c.args.choice.now.name) (codes "resource") c.args.choice.now.resource) (choice_cells c.args.choice.now) c.in_ok-push_str.ensures.bytes c.in_ok-push_name.ensures c.in_ok-push_cells.ensures
