-- What a table has of the tasks of a planner's file.
use Rattle.std.specs.Prelude.{ℕ, List, length, map}
use Rattle.racp_tables.specs.Outlines.{AreParts}
use Rattle.racp_tables.specs.Rows.{IsOfRows, id_of}
use Rattle.racp_tables.specs.declared.mspdi_table.Planned.{Planned}
use Rattle.racp_tables.specs.declared.table.Table.{Table}

-- the jobs and pairs of the tasks that are no phases, which are parts of each other by their levels, have these ties and request
-- units of these resources, and of the jobs that wait, and nothing else
abbrev pub IsTableOfTasks : Planned → Table → Type 0
IsTableOfTasks planned table = (parents : List ℕ) × AreParts planned.outline (map id_of planned.rows.items) parents
    × IsOfRows parents planned.rows.items planned.ties.items (length planned.roster.items) table.jobs.items table.pairs.items

-- the same of some tasks
abbrev pub IsTableOfSomeTasks : Table → Type 0
IsTableOfSomeTasks table = (planned : Planned) × IsTableOfTasks planned table
