-- How high a usage is drawn.
use Rattle.std.specs.Prelude.{◌≡◌, ℕ, ◌*◌, ◌<◌, ◌≤◌}
use Rattle.std.specs.Int.{div_ceil}

-- a usage up to the capacity in this many equal steps of it, rounded up
pub record IsLevel (steps units capacity level : ℕ) : Type 0 where
  pub most : level ≤ steps
  pub rounded : units ≤ capacity → 0 < capacity → level ≡ div_ceil (steps * units) capacity
