-- Several tables that are joined: the tasks of the first, then those of the second and so on, and behind all tasks the jobs that
-- wait, again table by table. Resources of one name are one.
use Rattle.std.specs.Prelude.{◌≡◌, ℕ, ◌+◌, ◌-◌, List, [], ◌∷◌, ◌++◌, Option, Some, None, bytes_eq, drop, flat_map, if◌then◌else◌, is_some, length, map, nat_le, slice_index, string_bytes, take}
use Rattle.std.specs.List.{position_from}
use Rattle.racp_model.specs.Project.{Activity}
use Rattle.racp_tables.specs.declared.part.Part.{Part}
use Rattle.racp_tables.specs.declared.table.Table.{Table}

-- the place of a name, where it first stands among others, if it does
abbrev pub place_of : List (List ℕ) → List ℕ → Option ℕ
place_of names name = position_from (λ known. bytes_eq known name) 0 names

-- names, and one more that is not among them
abbrev pub with_name : List (List ℕ) → List ℕ → List (List ℕ)
with_name names name = if is_some (place_of names name) then names else names ++ name ∷ []

-- names, and more that are not among them, each once
abbrev pub with_names : List (List ℕ) → List (List ℕ) → List (List ℕ)
with_names names [] = names
with_names names (name ∷ more) = with_names (with_name names name) more

-- the names of the resources of a table
abbrev pub own_names : Part → List (List ℕ)
own_names part = map string_bytes part.table.resources.items

-- the names of the resources of all tables, each once, where it first stands
abbrev pub all_names : List Part → List (List ℕ)
all_names parts = with_names [] (flat_map own_names parts)

-- the request at a place; none where there is no such place
abbrev pub request_at : List ℕ → Option ℕ → ℕ
request_at requests None = 0
request_at requests (Some k) = slice_index requests k

-- the same job beside other tables: of each resource it requests what it requests of its own one of that name, or nothing
abbrev pub widened : List (List ℕ) → List (List ℕ) → Activity → Activity
widened own all job = record {
  duration = job.duration;
  requests = map (λ name. request_at job.requests (place_of own name)) all;
}

-- the tasks of a table, and its jobs that wait, beside other tables
abbrev pub tasks_of : List (List ℕ) → Part → List Activity
tasks_of all part = map (widened (own_names part) all) (take part.table.notes.tasks part.table.jobs.items)

abbrev pub waits_of : List (List ℕ) → Part → List Activity
waits_of all part = map (widened (own_names part) all) (drop part.table.notes.tasks part.table.jobs.items)

-- how many tasks a table has, and how many jobs that wait
abbrev pub task_count : Part → ℕ
task_count part = length (take part.table.notes.tasks part.table.jobs.items)

abbrev pub wait_count : Part → ℕ
wait_count part = length (drop part.table.notes.tasks part.table.jobs.items)

-- the number, among all jobs, of a job of a table with so many tasks: of a task behind those of the tables before, of a job that
-- waits behind all tasks and those that wait of the tables before
abbrev pub moved : ℕ → ℕ → ℕ → ℕ → ℕ
moved tasks before behind number = if nat_le number tasks then before + number else behind + (number - tasks)

-- the same pair of jobs among all jobs
abbrev pub moved_pair : ℕ → ℕ → ℕ → ℕ × ℕ → ℕ × ℕ
moved_pair tasks before behind pair = (moved tasks before behind pair.0, moved tasks before behind pair.1)

-- the pairs of tables, of which the first stands behind so many tasks and so many jobs
abbrev pub pairs_from : ℕ → ℕ → List Part → List (ℕ × ℕ)
pairs_from before behind [] = []
pairs_from before behind (part ∷ parts) =
    map (moved_pair (task_count part) before behind) part.table.pairs.items ++
    pairs_from (before + task_count part) (behind + wait_count part) parts

-- how many tasks all tables have
abbrev pub all_tasks : List Part → ℕ
all_tasks [] = 0
all_tasks (part ∷ parts) = task_count part + all_tasks parts

-- a table has the resources, jobs and pairs of several
pub record IsJoined (parts : List Part) (table : Table) : Type 0 where
  pub resources : map string_bytes table.resources.items ≡ all_names parts
  pub jobs : table.jobs.items ≡ flat_map (tasks_of (all_names parts)) parts ++ flat_map (waits_of (all_names parts)) parts
  pub pairs : table.pairs.items ≡ pairs_from 0 (all_tasks parts) parts
