-- A law of core usage. It is the contract of a public function.
use Rattle.std.specs.Prelude.{ℕ, ◌+◌, ◌<◌, List, length, slice_index}
use Rattle.racp_model.specs.Project.{Project, request}
use Rattle.racp_model.specs.Schedule.{IsActive}
use Rattle.racp_model.specs.Window.{Bounds, Answers}
use Rattle.racp_model.specs.CoreTimes.{IsCoreTime, core_usage}

-- if the core usage of a resource at a time and the request of a job exceed the capacity, and it is no core time of
-- the job, then the job is not active at that time in any answer
abbrev pub CoreLeavesNoRoom : Type 0
CoreLeavesNoRoom =
    (p : Project) (capacities : List ℕ) (window : Bounds) (starts : List ℕ) (k t i : ℕ) →
    Answers p capacities window starts → k < p.resources → i < length p.jobs → (IsCoreTime p window t i → ⊥) →
    slice_index capacities k < core_usage p window k t + request p i k → IsActive p starts t i → ⊥
