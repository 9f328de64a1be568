use Rattle.std.proofs.Common.{◌∙◌, ◌++◌, List, ℕ, ap, codes, string_bytes}
use Rattle.racp_charts.specs.CostDrawings.{cost_axis, cost_mark, deadline_name}
use Rattle.racp_charts.specs.Texts.{texts_before}
use Rattle.racp_charts.proofs.Pieces.{in_four}
use Rattle.racp_charts.proofs.costs.push_cost_axis.Goals as goal

pub returns : goal.returns
unfolding cost_axis
returns c =
    in_four (string_bytes c.args.text.now) (texts_before (cost_mark c.args.most) 13) (codes "<text class=\"end\" x=\"264\" y=\"20\">cost</text><text class=\"end\" x=\"994\" y=\"283\">") (deadline_name c.args.calendar) (codes "</text>\n") c.in_ok-push_cost_marks.ensures c.in_ok-push_str.ensures.bytes (c.in_ok-push_str-2.ensures.bytes ∙ ap (λ (t : List ℕ). string_bytes c.push_str.new.self ++ t) c.deadline_name.ensures) c.in_ok-push_str-3.ensures.bytes
