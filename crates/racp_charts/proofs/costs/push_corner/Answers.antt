use Rattle.std.proofs.Common.{◌∙◌, ◌++◌, List, ℕ, ap, string_bytes}
use Rattle.racp_calendar.specs.Dates.{last_text}
use Rattle.racp_charts.specs.CostDrawings.{corner_begin, corner_element, corner_end, corner_words}
use Rattle.racp_charts.proofs.Pieces.{in_four}
use Rattle.racp_charts.proofs.costs.push_corner.Goals as goal

pub returns : goal.returns
unfolding corner_element
returns c =
    in_four (string_bytes c.args.text.now) (corner_begin c.args.x c.args.y) (corner_words c.args.calendar) (last_text c.args.calendar c.args.corner.now.deadline) (corner_end c.args.corner.now.cost) c.in_ok-push_corner_begin.ensures (c.in_ok-push_str.ensures.bytes ∙ ap (λ (t : List ℕ). string_bytes c.push_corner_begin.new.text ++ t) c.corner_words.ensures) c.in_ok-push_last.ensures c.in_ok-push_corner_end.ensures
