-- By what a plan is told.
use Rattle.std.specs.Prelude.{ℕ, List}
use Rattle.racp_calendar.specs.declared.calendar.Calendar.{Calendar}
use Rattle.racp_model.specs.Project.{Project}
use Rattle.racp_export.specs.declared.ground.Ground.{Ground}

-- which days its times are, its project, what jobs and resources are called, when jobs start, how many units there are of each
-- resource, and the deadline
pub record Told : Type 0 where
  pub calendar : Calendar
  pub project : Project
  pub names : List (List ℕ)
  pub starts : List ℕ
  pub capacities : List ℕ
  pub deadline : ℕ

abbrev pub told_by : Ground → Told
told_by site = record {
  calendar = site.calendar;
  project = site.net.now;
  names = site.names.now;
  starts = site.starts.now;
  capacities = site.capacities.now;
  deadline = site.deadline;
}
