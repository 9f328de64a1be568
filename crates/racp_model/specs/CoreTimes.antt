-- Core times: what runs at a time wherever the jobs start in a window (Le Pape 1994).
use Rattle.std.specs.Prelude.{ℕ, ◌+◌, ◌<◌, ◌≤◌, ◌&&◌, Bool, length, slice_index, nat_le, nat_lt, if◌then◌else◌}
use Rattle.racp_model.specs.Project.{Project, duration, request}
use Rattle.racp_model.specs.Schedule.{sum_below}
use Rattle.racp_model.specs.Window.{Bounds}

-- t is a core time of job i: it is active at t wherever it starts in its window, since t is not before its upper bound
-- and is before its end from its lower bound
pub record IsCoreTime (p : Project) (window : Bounds) (t i : ℕ) : Type 0 where
  pub started : slice_index window.upper i ≤ t
  pub runs : t < slice_index window.lower i + duration p i

-- the test of that
abbrev pub is_core_time : Project → Bounds → ℕ → ℕ → Bool
is_core_time p window t i = nat_le (slice_index window.upper i) t && nat_lt t (slice_index window.lower i + duration p i)

-- what job i uses of resource k at time t wherever it starts: its request at its core times
unfoldable pub core_use : Project → Bounds → ℕ → ℕ → ℕ → ℕ
core_use p window k t i = if is_core_time p window t i then request p i k else 0

-- what all jobs together use of resource k at time t wherever they start
abbrev pub core_usage : Project → Bounds → ℕ → ℕ → ℕ
core_usage p window k t = sum_below (length p.jobs) (core_use p window k t)
