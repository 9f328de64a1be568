-- The resources that rows name: the roster is what the cells of leaves name, since a phase needs nothing.
use Rattle.std.specs.Prelude.{ℕ, ◌++◌, if◌then◌else◌, List, [], ◌∷◌, map, flat_map, fold, bytes_eq, Option}
use Rattle.std.specs.List.{list_any}
use Rattle.racp_links.specs.Phases.{of_leaves}
use Rattle.racp_tables.specs.Assigned.{mentions}
use Rattle.racp_tables.specs.Cells.{cell_of}

-- names and one more, if it is not there yet
abbrev pub with_name : List (List ℕ) → List ℕ → List (List ℕ)
with_name names name = if list_any (λ known. bytes_eq known name) names then names else (names ++ name ∷ [])

-- the names of resources in the cells of a column
abbrev pub names_in : Option ℕ → List (List ℕ) → List (List ℕ)
names_in column cells = map (λ mention. mention.0) (mentions (cell_of cells column))

-- the names of resources that rows name which are no phases, each once, in the order in which they name them first; rows are
-- parts of each other so, and all have some text
abbrev pub roster_said : Option ℕ → List ℕ → List (List (List ℕ)) → List (List ℕ)
roster_said column parents rows = fold with_name [] (flat_map (names_in column) (of_leaves parents rows))
