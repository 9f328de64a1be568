-- The rows of a chart: those of an outline, with what is said of each task.
use Rattle.std.specs.Prelude.{◌≡◌, ℕ, List, All, map, ⊤}
use Rattle.racp_model.specs.Project.{Project, place}
use Rattle.racp_model.specs.Terms.{Terms}
use Rattle.racp_show.specs.Outlines.{Line, Outlined}
use Rattle.racp_show.specs.Outlines.Line.{PhaseLine, TaskLine}
use Rattle.racp_show.specs.Tasks.{IsRoom, IsTask}
use Rattle.racp_show.specs.declared.latest.Room.{Room}
use Rattle.racp_show.specs.declared.row.Row.{Row}
use Rattle.racp_show.specs.declared.row.Row.TheVariants.{Heading, Bar}

-- the line of an outline that a row shows
abbrev pub shown : Row → Line
shown (Heading depth title) = PhaseLine depth title.now
shown (Bar depth task) = TaskLine depth task.job

-- if a row is that of a task, what it says of it is right
abbrev pub IsRow : Project → List ℕ → Room → List (List ℕ) → ℕ → Row → Type 0
IsRow p starts room names tasks (Heading depth title) = ⊤
IsRow p starts room names tasks (Bar depth task) = IsTask p starts room names tasks (place task.job) task

-- the rows of an outline
pub record AreRows (p : Project) (terms : Terms) (starts : List ℕ) (names : List (List ℕ)) (outline : Outlined)
    (rows : List Row) : Type 0 where
  pub room : Room
  pub right : IsRoom p terms room
  pub listed : map shown rows ≡ outline.rows
  pub each : All (IsRow p starts room names outline.tasks) rows
