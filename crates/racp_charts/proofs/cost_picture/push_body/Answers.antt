use Rattle.std.proofs.Common.{◌∙◌, ◌++◌, List, ℕ, ap, codes, string_bytes}
use Rattle.racp_charts.specs.CostDrawings.{costs_element}
use Rattle.racp_charts.specs.Pictures.{costs_body, costs_title}
use Rattle.racp_charts.specs.PictureParts.{group_begin, page_element}
use Rattle.racp_charts.proofs.Pieces.{in_seven}
use Rattle.racp_charts.proofs.cost_picture.push_body.Goals as goal

pub returns : goal.returns
unfolding costs_body
returns c =
    in_seven (string_bytes c.args.text.now) (page_element 334) (codes "<text class=\"title\" x=\"204\" y=\"26\">") (costs_title c.args.calendar) (codes "</text>\n") (group_begin 40) (costs_element c.args.calendar c.args.corners.now c.args.last) (codes "</g>\n</svg>\n") c.in_ok-push_page.ensures c.in_ok-push_str.ensures.bytes (c.in_ok-push_str-2.ensures.bytes ∙ ap (λ (t : List ℕ). string_bytes c.push_str.new.self ++ t) c.title.ensures) c.in_ok-push_str-3.ensures.bytes c.in_ok-push_group.ensures c.in_ok-push_costs.ensures c.in_ok-push_str-4.ensures.bytes
