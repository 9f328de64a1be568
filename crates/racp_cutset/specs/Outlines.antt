-- Contracts of private functions: what is told of a record and of a node in a few numbers.
use Rattle.std.specs.Prelude.{◌≡◌, ℕ, ◌<◌, ◌≤◌, List, slice_index}
use Rattle.racp_cutset.specs.declared.outline.Outline.{Outline}

-- the outline of what has this time and these capacities: the time, and the units of the first four resources, 0 if there are
-- fewer
pub record IsOutline (at : ℕ) (capacities : List ℕ) (outline : Outline) : Type 0 where
  pub time : outline.time ≡ at
  pub units : (k : ℕ) → k < 4 → slice_index outline.units k ≡ slice_index capacities k

-- no later, and no fewer units: what has the second outline may be covered by what has the first
pub record MayCover (first second : Outline) : Type 0 where
  pub time : first.time ≤ second.time
  pub units : (k : ℕ) → k < 4 → slice_index second.units k ≤ slice_index first.units k
