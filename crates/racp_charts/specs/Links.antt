-- Which tasks wait for which, as arrows. Places are from the left and from above.
use Rattle.std.specs.Prelude.{ℕ, ◌+◌, ◌-◌, ◌*◌, ◌==◌, Bool, List, [], ◌∷◌, ◌++◌, Option, Some, None, codes, flat_map, if◌then◌else◌}
use Rattle.std.specs.Fmt.{decimal}
use Rattle.racp_charts.specs.Texts.{◌⋅◌}
use Rattle.racp_charts.specs.Axes.{across}
use Rattle.racp_charts.specs.declared.axis.Span.{Span}
use Rattle.racp_show.specs.declared.predecessor.Predecessor.{Predecessor}
use Rattle.racp_show.specs.declared.row.Row.{Row}
use Rattle.racp_show.specs.declared.row.Row.TheVariants.{Heading, Bar}
use Rattle.racp_show.specs.declared.task.Task.{Task}

-- the line of an arrow: it leaves to the right, and comes from the left
unfoldable pub curve_begin : ℕ → ℕ → List ℕ
curve_begin x y = codes "<path class=\"link\" d=\"M" ⋅ decimal x ⋅ codes " " ⋅ decimal y ⋅ codes "C"
    ⋅ decimal (x + 16) ⋅ codes " " ⋅ decimal y

unfoldable pub curve_end : ℕ → ℕ → List ℕ
curve_end x y = codes " " ⋅ decimal (x - 16) ⋅ codes " " ⋅ decimal y ⋅ codes " " ⋅ decimal x ⋅ codes " " ⋅ decimal y
    ⋅ codes "\"/>"

-- its tip
unfoldable pub tip_element : ℕ → ℕ → List ℕ
tip_element x y = codes "<path class=\"tip\" d=\"M" ⋅ decimal x ⋅ codes " " ⋅ decimal y ⋅ codes "l-5 -3v6z\"/>\n"

-- an arrow from one place to another
unfoldable pub link_between : ℕ → ℕ → ℕ → ℕ → List ℕ
link_between from_x from_y to_x to_y = curve_begin from_x from_y ⋅ curve_end to_x to_y ⋅ tip_element to_x to_y

-- when a row's task has ended, if it has this number
abbrev pub end_in : ℕ → Row → Option ℕ
end_in number (Heading depth title) = None
end_in number (Bar depth task) = if task.job == number then Some (task.start + task.duration) else None

-- a place with a time, or what is found behind it if there is none
abbrev pub or_behind : ℕ → Option ℕ → Option (ℕ × ℕ) → Option (ℕ × ℕ)
or_behind place (Some time) behind = Some (place, time)
or_behind place None behind = behind

-- the place of the row of the task with this number, among rows from a place on, and when the task has ended
abbrev pub end_of : ℕ → ℕ → List Row → Option (ℕ × ℕ)
end_of number place [] = None
end_of number place (row ∷ rows) = or_behind place (end_in number row) (end_of number (place + 1) rows)

-- an arrow from there to the start of the task in the row at this place
abbrev pub link_to : Span → ℕ → Task → Option (ℕ × ℕ) → List ℕ
link_to span place task None = []
link_to span place task (Some end) =
    link_between (across span end.1) (50 + end.0 * 20) (across span task.start) (50 + place * 20)

-- an arrow to it from a task that it waits for
abbrev pub link_from : Span → List Row → ℕ → Task → Predecessor → List ℕ
link_from span rows place task predecessor = link_to span place task (end_of predecessor.job 0 rows)

-- the arrows to the row at this place, and to the rows from it on
abbrev pub links_to : Span → List Row → ℕ → Row → List ℕ
links_to span all place (Heading depth title) = []
links_to span all place (Bar depth task) = flat_map (link_from span all place task) task.predecessors.items

abbrev pub links_from : Span → List Row → ℕ → List Row → List ℕ
links_from span all place [] = []
links_from span all place (row ∷ rows) = links_to span all place row ++ links_from span all (place + 1) rows

-- all arrows, if they are wanted
abbrev pub links_element : Bool → Span → List Row → List ℕ
links_element has_links span rows = if has_links then links_from span rows 0 rows else []
