-- The drawings of a page, each of which is a figure. Places are from the left and from above; a drawing is 1,000 wide.
use Rattle.std.specs.Prelude.{ℕ, ◌+◌, ◌-◌, ◌*◌, ◌==◌, ◌||◌, ◌%◌, min, List, [], ◌∷◌, ◌++◌, codes, map, if◌then◌else◌}
use Rattle.std.specs.Fmt.{decimal}
use Rattle.racp_json.specs.declared.curve.Step.{Step}
use Rattle.racp_calendar.specs.declared.calendar.Calendar.{Calendar}
use Rattle.racp_charts.specs.Texts.{◌⋅◌}
use Rattle.racp_charts.specs.CostDrawings.{costs_element}
use Rattle.racp_charts.specs.Drawings.{frame_element, panel_element, row_element}
use Rattle.racp_charts.specs.Pictures.{key_element}
use Rattle.racp_charts.specs.declared.axis.Span.{Span}
use Rattle.racp_charts.specs.declared.choice.Choice.{Choice}
use Rattle.racp_charts.specs.declared.costs.Corner.{Corner}
use Rattle.racp_show.specs.declared.row.Row.{Row}

-- the beginning of a drawing of this height
unfoldable pub drawing_begin : List ℕ → ℕ → List ℕ
drawing_begin label height = codes "<figure><svg viewBox=\"0 0 1000 " ⋅ decimal height
    ⋅ codes "\" role=\"img\" aria-label=\"" ⋅ label ⋅ codes "\">\n"

-- the beginning of a drawing of tasks that goes down to `bottom`
unfoldable pub frame : Span → ℕ → List ℕ
frame span bottom = drawing_begin (codes "The tasks over time") (bottom + 24) ⋅ frame_element span bottom

-- a drawing has 30 rows: it begins before the first of them, and ends behind the last
abbrev pub block_begin : Span → ℕ → ℕ → List ℕ
block_begin span count place =
    if place % 30 == 0 then frame span (40 + min (count - place) 30 * 20) else []

abbrev pub block_end : ℕ → ℕ → List ℕ
block_end count place = if place % 30 == 29 || (count - place) == 1 then codes "</svg></figure>\n" else []

unfoldable pub row_block : Span → ℕ → ℕ → Row → List ℕ
row_block span count place row =
    block_begin span count place ⋅ row_element span row (40 + place % 30 * 20) ⋅ block_end count place

-- the rows from a place on, of so many
abbrev pub row_blocks : Span → ℕ → ℕ → List Row → List ℕ
row_blocks span count place [] = []
row_blocks span count place (row ∷ rows) =
    row_block span count place row ++ row_blocks span count (place + 1) rows

-- the drawing of a resource
unfoldable pub panel_figure : Span → Choice → List ℕ
panel_figure span choice =
    drawing_begin (codes "The use of a resource over time") 106 ⋅ panel_element span choice
    ⋅ codes "</svg></figure>\n"

-- the corner of a step of a curve
abbrev pub corner_of : Step → Corner
corner_of step = record { deadline = step.deadline; cost = step.cost }

-- the drawing of what deadlines cost, from the first corner up to a last deadline
unfoldable pub corner_figure : Calendar → List Corner → ℕ → List ℕ
corner_figure calendar corners last =
    drawing_begin (codes "What each deadline costs") 290 ⋅ costs_element calendar corners last ⋅ codes "</svg></figure>\n"

-- that of the steps of a curve, up to the plan's deadline
abbrev pub cost_figure : Calendar → List Step → ℕ → List ℕ
cost_figure calendar costs deadline = corner_figure calendar (map corner_of costs) deadline

-- what the shapes of the drawings of tasks and resources mean
unfoldable pub key_figure : List ℕ
key_figure = drawing_begin (codes "What the shapes mean") 16 ⋅ key_element ⋅ codes "</svg></figure>\n"
