-- The drawing of what deadlines cost. Places are from the left and from above.
use Rattle.std.specs.Prelude.{true, ℕ, ◌+◌, ◌-◌, ◌*◌, ◌/◌, ◌||◌, max, min, nat_le, List, [], ◌∷◌, ◌++◌, codes, flat_map, fold, if◌then◌else◌}
use Rattle.std.specs.Fmt.{decimal}
use Rattle.racp_calendar.specs.Dates.{last_text}
use Rattle.racp_calendar.specs.declared.calendar.Calendar.{Calendar}
use Rattle.racp_calendar.specs.declared.calendar.Calendar.TheVariants.{Numbers, Dates}
use Rattle.racp_charts.specs.Texts.{◌⋅◌, mark_of, texts_before}
use Rattle.racp_charts.specs.Axes.{across}
use Rattle.racp_charts.specs.Drawings.{axis, place_text, step_text}
use Rattle.racp_charts.specs.declared.axis.Span.{Span}
use Rattle.racp_charts.specs.declared.costs.Corner.{Corner}

-- the deadline of the first corner, or this one if that is sooner or there is none
abbrev pub first_deadline : List Corner → ℕ → ℕ
first_deadline [] last = last
first_deadline (corner ∷ corners) last = min corner.deadline last

-- the greatest cost, and at least 1
abbrev pub most_cost : List Corner → ℕ
most_cost corners = fold (λ most corner. max most corner.cost) 1 corners

-- where a cost is drawn: the costs are drawn from 250 up to 50
abbrev pub cost_down : ℕ → ℕ → ℕ
cost_down most cost = 250 - cost * 200 / most

-- a number of the axis of costs at a height, and a line
unfoldable pub cost_element : ℕ → ℕ → List ℕ
cost_element cost y = codes "<path class=\"line\" d=\"M270 " ⋅ decimal y ⋅ codes "H994\"/><text class=\"end\" x=\"264\" y=\""
    ⋅ decimal (y + 4) ⋅ codes "\">" ⋅ decimal cost ⋅ codes "</text>\n"

-- the number at a place of it, if it is no greater than the greatest cost
abbrev pub cost_mark : ℕ → ℕ → List ℕ
cost_mark most place =
    let cost = mark_of most * place in
    if nat_le cost most then cost_element cost (cost_down most cost) else []

-- what the axis of deadlines is called: dates are their last days
abbrev pub deadline_name : Calendar → List ℕ
deadline_name Numbers = codes "deadline"
deadline_name (Dates calendar) = codes "last day"

-- the axis of costs, and what both axes are called
unfoldable pub cost_axis : Calendar → ℕ → List ℕ
cost_axis calendar most =
    texts_before (cost_mark most) 13
    ⋅ codes "<text class=\"end\" x=\"264\" y=\"20\">cost</text><text class=\"end\" x=\"994\" y=\"283\">"
    ⋅ deadline_name calendar ⋅ codes "</text>\n"

-- the steps of the stair
abbrev pub cost_steps : Span → ℕ → List Corner → List ℕ
cost_steps span most corners =
    flat_map (λ corner. step_text (across span corner.deadline) (cost_down most corner.cost)) corners

-- the stair, whose last step goes on behind the last deadline, so that it is seen
unfoldable pub cost_stair : Span → ℕ → List Corner → List ℕ
cost_stair span most corners =
    codes "<path class=\"used\" d=\"" ⋅ place_text 270 250 ⋅ cost_steps span most corners ⋅ codes "H994V250Z\"/>\n"

-- a corner of it, whose tooltip has its deadline and its cost: by dates it is kept by the evening of a day
unfoldable pub corner_begin : ℕ → ℕ → List ℕ
corner_begin x y = codes "<circle class=\"critical\" cx=\"" ⋅ decimal x ⋅ codes "\" cy=\"" ⋅ decimal y
    ⋅ codes "\" r=\"4\"><title>"

abbrev pub corner_words : Calendar → List ℕ
corner_words Numbers = codes "from "
corner_words (Dates calendar) = codes "by the evening of "

unfoldable pub corner_end : ℕ → List ℕ
corner_end cost = codes ": " ⋅ decimal cost ⋅ codes "</title></circle>\n"

unfoldable pub corner_element : Calendar → ℕ → ℕ → Corner → List ℕ
corner_element calendar x y corner = corner_begin x y ⋅ corner_words calendar ⋅ last_text calendar corner.deadline ⋅ corner_end corner.cost

-- its corners
abbrev pub cost_corners : Span → ℕ → List Corner → List ℕ
cost_corners span most corners =
    flat_map (λ corner. corner_element span.calendar (across span corner.deadline) (cost_down most corner.cost) corner) corners

-- a cost that begins at x, and one that ends at the right end of the drawing
unfoldable pub label_above : ℕ → ℕ → ℕ → List ℕ
label_above x y cost = codes "<text x=\"" ⋅ decimal x ⋅ codes "\" y=\"" ⋅ decimal y ⋅ codes "\">"
    ⋅ decimal cost ⋅ codes "</text>\n"

unfoldable pub label_below : ℕ → ℕ → List ℕ
label_below y cost = codes "<text class=\"cost\" x=\"992\" y=\"" ⋅ decimal y ⋅ codes "\">" ⋅ decimal cost
    ⋅ codes "</text>\n"

-- the cost of a corner beside it: above its step, or at the right end of the drawing below it
abbrev pub cost_label : ℕ → ℕ → ℕ → List ℕ
cost_label x y cost =
    if nat_le x 930 then label_above (x + 6) (y - 6) cost else label_below (min (y + 14) 246) cost

-- the costs of corners, of which the last that was written stands at x and y: one is left out that would stand on it
abbrev pub cost_labels : Span → ℕ → ℕ → ℕ → List Corner → List ℕ
cost_labels span most x y [] = []
cost_labels span most x y (corner ∷ corners) =
    let right = across span corner.deadline in
    let below = cost_down most corner.cost in
    if nat_le (x + 48) right || nat_le (y + 14) below
    then cost_label right below corner.cost ++ cost_labels span most right below corners
    else cost_labels span most x y corners

-- what is drawn of costs in a span, up to the greatest
unfoldable pub costs_in : Span → ℕ → List Corner → List ℕ
costs_in span most corners =
    cost_axis span.calendar most ⋅ axis span 30 250 ⋅ cost_stair span most corners ⋅ cost_corners span most corners
    ⋅ cost_labels span most 0 0 corners

-- from the first deadline up to a last one
abbrev pub costs_element : Calendar → List Corner → ℕ → List ℕ
costs_element calendar corners last =
    costs_in (record { first = first_deadline corners last; last = last; calendar = calendar; of_ends = true }) (most_cost corners) corners
