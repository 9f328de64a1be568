-- Contracts of private functions: one bound of a window that is moved.
use Rattle.std.specs.Prelude.{◌≡◌, ℕ, ◌<◌, Bool, true, false, slice_index, set}
use Rattle.racp_model.specs.Window.{Bounds}

-- the lower bound of job i is raised to a time, or the time is above its upper bound
abbrev pub IsRaised : Bounds → ℕ → ℕ → Bounds → Bool → Type 0
IsRaised window i time moved true = moved ≡ record window { lower = set window.lower i time }
IsRaised window i time moved false = slice_index window.upper i < time

-- its upper bound is lowered to a time, or the time is below its lower bound
abbrev pub IsReduced : Bounds → ℕ → ℕ → Bounds → Bool → Type 0
IsReduced window i time moved true = moved ≡ record window { upper = set window.upper i time }
IsReduced window i time moved false = time < slice_index window.lower i
