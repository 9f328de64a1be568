-- What tasks and resources are called, and what tasks need.
use Rattle.std.specs.Prelude.{ℕ, zero, suc, ◌+◌, ◌==◌, ◌++◌, List, [], Option, Some, None, codes, length, option_map, if◌then◌else◌}
use Rattle.std.specs.Fmt.{decimal}
use Rattle.racp_charts.specs.Texts.{◌⋅◌}
use Rattle.racp_model.specs.Project.{Project, number, request}
use Rattle.racp_show.specs.Called.{name_at}
use Rattle.racp_show.specs.declared.task.Task.{Task}

-- a name, or if there is none a word and a number
abbrev pub called : Option (List ℕ) → List ℕ → ℕ → List ℕ
called (Some name) word number = name
called None word number = word ++ codes " " ++ decimal number

-- what a task is called, and the resource at place k
unfoldable pub task_title : Task → List ℕ
task_title task = called (option_map (λ name. name.now) task.name) (codes "task") task.job

unfoldable pub resource_title : Project → List (List ℕ) → ℕ → List ℕ
resource_title p names k = called (name_at names (length p.jobs + k)) (codes "resource") (number k)

-- what the job at place i needs of the resource at place k, as `2 Masons`
unfoldable pub need_text : Project → List (List ℕ) → ℕ → ℕ → List ℕ
need_text p names i k = decimal (request p i k) ⋅ codes " " ⋅ resource_title p names k

-- needs and one more of so many units, with a comma between two; nothing more if these are none
abbrev pub with_need : List ℕ → ℕ → List ℕ → List ℕ
with_need needs units need =
    if units == 0 then needs else (if length needs == 0 then need else needs ++ (codes ", " ++ need))

-- what the job at place i needs of the resources before place k, and of all of them
abbrev pub needs_before : Project → List (List ℕ) → ℕ → ℕ → List ℕ
needs_before p names i zero = []
needs_before p names i (suc k) = with_need (needs_before p names i k) (request p i k) (need_text p names i k)

unfoldable pub needs_text : Project → List (List ℕ) → ℕ → List ℕ
needs_text p names i = needs_before p names i p.resources
