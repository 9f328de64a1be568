-- What a table has of the rows that are taken: the jobs of those that are no phases, the jobs that wait, and the pairs of
-- their links.
use Rattle.std.specs.Prelude.{◌≡◌, ℕ, ◌+◌, List, [], ◌∷◌, ◌++◌, length, map, replicate, string_bytes}
use Rattle.racp_model.specs.Project.{Activity, number}
use Rattle.racp_links.specs.Links.{all_pairs, all_waits}
use Rattle.racp_links.specs.Phases.{numbered_links, of_leaves}
use Rattle.racp_links.specs.declared.link.Link.{Link}
use Rattle.racp_links.specs.declared.waits.Wait.{Wait}
use Rattle.racp_tables.specs.CellTies.{AreTiesOf}
use Rattle.racp_tables.specs.Outlines.{AreParts}
use Rattle.racp_tables.specs.declared.outline.Outline.{Outline}
use Rattle.racp_tables.specs.declared.reading.Scale.{Scale}
use Rattle.racp_tables.specs.declared.row.Row.{Row}
use Rattle.racp_tables.specs.declared.ties.Tie.{Tie}
use Rattle.racp_tables.specs.declared.ties.Ties.{Ties}
use Rattle.racp_tables.specs.declared.table.Table.{Table}

-- the link to the row at a place from a row that it names
abbrev pub link_from : ℕ → Tie → Link
link_from place tie = record { before = number tie.place; after = number place; kind = tie.kind; lag = tie.lag }

-- the link from the row at a place to a row that it names
abbrev pub link_to : ℕ → Tie → Link
link_to place tie = record { before = number place; after = number tie.place; kind = tie.kind; lag = tie.lag }

-- the links of the row at a place
abbrev pub links_at : ℕ → Ties → List Link
links_at place ties = map (link_from place) ties.before.items ++ map (link_to place) ties.after.items

-- the links of rows, of which the first stands at a place
abbrev pub links_behind : ℕ → List Ties → List Link
links_behind place [] = []
links_behind place (ties ∷ more) = links_at place ties ++ links_behind (place + 1) more

-- the links between the rows that are no phases, which alone are numbered
abbrev pub links_of_leaves : List ℕ → List Ties → List Link
links_of_leaves parents ties = numbered_links parents (links_behind 0 ties)

-- the id of a row
abbrev pub id_of : Row → List ℕ
id_of row = string_bytes row.id

-- how long the task of a row takes
abbrev pub duration_of : Row → ℕ
duration_of row = row.duration

-- how long the tasks of rows that are no phases take
abbrev pub durations_of : List ℕ → List Row → List ℕ
durations_of parents rows = of_leaves parents (map duration_of rows)

-- the job of a row
abbrev pub job_of : Row → Activity
job_of row = record { duration = row.duration; requests = row.requests.items }

-- the job that waits, and requests nothing of so many resources
abbrev pub waiting : ℕ → Wait → Activity
waiting resources wait = record { duration = wait.duration; requests = replicate resources 0 }

-- the jobs of rows that are no phases, and then those that wait
abbrev pub AreJobsOf : List ℕ → List Row → List Wait → ℕ → List Activity → Type 0
AreJobsOf parents rows waits resources jobs = jobs ≡ of_leaves parents (map job_of rows) ++ map (waiting resources) waits

-- the jobs and pairs of rows that are parts of each other so, and have these ties, and nothing else
pub record IsOfRows (parents : List ℕ) (rows : List Row) (ties : List Ties) (resources : ℕ) (all_jobs : List Activity) (all_arcs : List (ℕ × ℕ)) : Type 0 where
  pub jobs : AreJobsOf parents rows (all_waits (durations_of parents rows) (links_of_leaves parents ties)) resources all_jobs
  pub pairs : all_arcs ≡ all_pairs (durations_of parents rows) (length (durations_of parents rows)) (links_of_leaves parents ties)

-- the same for rows that are parts of each other by their ids or levels, for the ties that their cells say, and for some number of
-- resources
abbrev pub IsTableOf : Outline → List ℕ → Scale → List Row → Table → Type 0
IsTableOf outline parents scale rows table = (ties : List Ties) × (resources : ℕ)
    × AreParts outline (map id_of rows) parents × AreTiesOf rows scale ties
    × IsOfRows parents rows ties resources table.jobs.items table.pairs.items
