-- Whole pictures: what stands in them, from their beginning to their end, but for their style.
use Rattle.std.specs.Prelude.{◌≡◌, false, ℕ, ◌+◌, ◌*◌, Bool, List, [], ◌∷◌, ◌++◌, codes, length}
use Rattle.std.specs.Fmt.{decimal}
use Rattle.racp_calendar.specs.Dates.{last_text}
use Rattle.racp_calendar.specs.declared.calendar.Calendar.{Calendar}
use Rattle.racp_calendar.specs.declared.calendar.Calendar.TheVariants.{Numbers, Dates}
use Rattle.racp_charts.specs.Texts.{◌⋅◌}
use Rattle.racp_charts.specs.CostDrawings.{costs_element}
use Rattle.racp_charts.specs.Drawings.{frame_element, panel_element, row_element}
use Rattle.racp_charts.specs.Links.{links_element}
use Rattle.racp_charts.specs.PictureParts.{group_begin, group_end, page_element, picture_begin}
use Rattle.racp_charts.specs.declared.axis.Span.{Span}
use Rattle.racp_charts.specs.declared.choice.Choice.{Choice}
use Rattle.racp_charts.specs.declared.costs.Corner.{Corner}
use Rattle.racp_charts.specs.declared.drawing.Drawing.{Drawing}
use Rattle.racp_show.specs.declared.row.Row.{Row}

-- what is said first of a plan
unfoldable pub plan_title_begin : ℕ → List ℕ
plan_title_begin cost = codes "Plan of cost " ⋅ decimal cost ⋅ codes " by "

-- what a deadline is called: a day is one in the evening
abbrev pub deadline_words : Calendar → List ℕ
deadline_words Numbers = codes "deadline "
deadline_words (Dates calendar) = codes "the evening of "

unfoldable pub plan_title : Calendar → ℕ → ℕ → List ℕ
plan_title calendar cost deadline = plan_title_begin cost ⋅ deadline_words calendar ⋅ last_text calendar deadline

-- the title of a picture of a plan
unfoldable pub title_element : Calendar → ℕ → ℕ → List ℕ
title_element calendar cost deadline = codes "<title>" ⋅ plan_title calendar cost deadline ⋅ codes "</title>\n"

-- the same above its drawings, and the critical length
unfoldable pub length_element : ℕ → List ℕ
length_element critical = codes "<text x=\"8\" y=\"48\">critical length " ⋅ decimal critical ⋅ codes "</text>\n"

unfoldable pub heading_element : Drawing → List ℕ
heading_element drawing =
    codes "<text class=\"title\" x=\"8\" y=\"26\">" ⋅ plan_title drawing.calendar drawing.cost drawing.deadline
    ⋅ codes "</text>\n" ⋅ length_element drawing.critical

-- what the shapes of a drawing mean
unfoldable pub key_element : List ℕ
key_element =
    codes "<rect class=\"critical\" x=\"270\" y=\"3\" width=\"24\" height=\"10\" rx=\"2\"/><text x=\"300\" y=\"12\">on the "
    ⋅ codes "critical chain</text><rect class=\"bar\" x=\"438\" y=\"3\" width=\"24\" height=\"10\" rx=\"2\"/><text x=\"468\" "
    ⋅ codes "y=\"12\">other tasks</text><path class=\"slack\" d=\"M552 8h24\"/><text x=\"582\" y=\"12\">slack</text>"
    ⋅ codes "<path class=\"bar\" d=\"M642 2l6 6l-6 6l-6 -6z\"/><text x=\"654\" y=\"12\">no duration</text><path "
    ⋅ codes "class=\"deadline\" d=\"M748 1v14\"/><text x=\"756\" y=\"12\">deadline</text><path class=\"limit\" "
    ⋅ codes "d=\"M832 8h24\"/><text x=\"862\" y=\"12\">all units</text>\n"

-- the rows from a place on
abbrev pub rows_from : Span → ℕ → List Row → List ℕ
rows_from span place [] = []
rows_from span place (row ∷ rows) = row_element span row (40 + place * 20) ++ rows_from span (place + 1) rows

-- the tasks of a plan: their frame down to this height, the rows, and if they are wanted the arrows between tasks
unfoldable pub tasks_element : Bool → Span → ℕ → List Row → List ℕ
tasks_element has_links span bottom rows =
    group_begin 56 ⋅ frame_element span bottom ⋅ rows_from span 0 rows ⋅ links_element has_links span rows ⋅ group_end

-- a resource below this height
unfoldable pub resource_element : Span → ℕ → Choice → List ℕ
resource_element span top choice = group_begin top ⋅ panel_element span choice ⋅ group_end

-- the resources from a place on, the one at place 0 at the height `top`
abbrev pub resource_panels : Span → ℕ → ℕ → List Choice → List ℕ
resource_panels span top place [] = []
resource_panels span top place (choice ∷ choices) =
    resource_element span (top + place * 106) choice ++ resource_panels span top (place + 1) choices

-- what the shapes mean, below this height
unfoldable pub key_at : ℕ → List ℕ
key_at top = group_begin top ⋅ key_element ⋅ group_end

-- all times of a plan
abbrev pub whole : Drawing → Span
whole drawing = record { first = 0; last = drawing.deadline; calendar = drawing.calendar; of_ends = false }

-- how far down the tasks go in their frame; where the resources begin; how high the picture is
abbrev pub tasks_bottom : Drawing → ℕ
tasks_bottom drawing = 40 + length drawing.rows.items * 20

abbrev pub resources_top : Drawing → ℕ
resources_top drawing = tasks_bottom drawing + 88

abbrev pub picture_height : Drawing → ℕ
picture_height drawing = resources_top drawing + length drawing.choices.items * 106

-- the beginning of the picture of a plan
unfoldable pub plan_begin : Drawing → List ℕ
plan_begin drawing =
    picture_begin 0 1000 (picture_height drawing) ⋅ title_element drawing.calendar drawing.cost drawing.deadline

-- all of it that stands behind its style
unfoldable pub plan_body : Bool → Drawing → List ℕ
plan_body has_links drawing =
    page_element (picture_height drawing) ⋅ heading_element drawing ⋅ key_at 38
    ⋅ tasks_element has_links (whole drawing) (tasks_bottom drawing) drawing.rows.items
    ⋅ resource_panels (whole drawing) (resources_top drawing) 0 drawing.choices.items ⋅ codes "</svg>\n"

-- a picture of a plan: its beginning, some style, and the rest
abbrev pub IsPlanPicture : Bool → Drawing → List ℕ → Type 0
IsPlanPicture has_links drawing text =
    (style : List ℕ) × (text ≡ plan_begin drawing ⋅ style ⋅ plan_body has_links drawing)

-- what the picture of what deadlines cost is called: dates are their last days
abbrev pub costs_title : Calendar → List ℕ
costs_title Numbers = codes "What each deadline costs"
costs_title (Dates calendar) = codes "What each deadline costs, by its last day"

-- the beginning of that picture
unfoldable pub costs_begin : Calendar → List ℕ
costs_begin calendar = picture_begin 190 810 334 ⋅ codes "<title>" ⋅ costs_title calendar ⋅ codes "</title>\n"

-- all of it that stands behind its style
unfoldable pub costs_body : Calendar → List Corner → ℕ → List ℕ
costs_body calendar corners last =
    page_element 334 ⋅ codes "<text class=\"title\" x=\"204\" y=\"26\">" ⋅ costs_title calendar ⋅ codes "</text>\n"
    ⋅ group_begin 40 ⋅ costs_element calendar corners last ⋅ codes "</g>\n</svg>\n"

-- a picture of what deadlines cost, as a calendar tells them
abbrev pub IsCostPicture : Calendar → List Corner → ℕ → List ℕ → Type 0
IsCostPicture calendar corners last text =
    (style : List ℕ) × (text ≡ costs_begin calendar ⋅ style ⋅ costs_body calendar corners last)
