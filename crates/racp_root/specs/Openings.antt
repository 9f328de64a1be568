-- What the times of an order leave: the root window, or why no starts are in time.
use Rattle.std.specs.Prelude.{◌≡◌, ℕ, ◌≤◌}
use Rattle.racp_model.specs.Project.{Project, number}
use Rattle.racp_model.specs.Path.{IsCriticalLength}
use Rattle.racp_model.specs.Terms.{Terms, release_of, due_of}
use Rattle.racp_model.specs.Plan.{IsTooLong, IsTooLateAt}
use Rattle.racp_model.specs.Window.{Bounds, IsRootWindow}
use Rattle.racp_root.specs.declared.opening.Opening.{Opening}
use Rattle.racp_root.specs.declared.opening.Opening.TheVariants.{Root, TooLong, TooLate}

-- the root window of the project, and its critical length, which does not exceed the deadline
pub record IsRoot (p : Project) (terms : Terms) (critical : ℕ) (window : Bounds) : Type 0 where
  pub length : IsCriticalLength p (release_of terms) critical
  pub fits : critical ≤ terms.deadline
  pub window_is : IsRootWindow p (release_of terms) (due_of terms) window

-- the critical length and the root window; or the first reason for which no starts are in time: the critical length, or a due time
abbrev pub IsOpening : Project → Terms → Opening → Type 0
IsOpening p terms (Root critical window) = IsRoot p terms critical window
IsOpening p terms (TooLong critical) = IsTooLong p terms critical
IsOpening p terms (TooLate job) = (i : ℕ) × (number i ≡ job) × IsTooLateAt p terms i
