-- How many units of each resource there can be at the most.
use Rattle.std.specs.Prelude.{◌≡◌, ℕ, ◌<◌, min, List, length, slice_index, Option, Some, None}
use Rattle.racp_model.specs.Project.{Project}
use Rattle.racp_model.specs.Schedule.{roof}
use Rattle.racp_model.specs.Terms.{Terms}

-- x, or the ceiling of the resource at place k if there is one and it is less
abbrev pub cut_to : Option (List ℕ) → ℕ → ℕ → ℕ
cut_to None k x = x
cut_to (Some ceilings) k x = min x (slice_index ceilings k)

-- of each resource, the sum of all requests, or the ceiling if that is less
pub record AreMostUnits (p : Project) (terms : Terms) (units : List ℕ) : Type 0 where
  pub places : length units ≡ p.resources
  pub each : (k : ℕ) → k < p.resources → slice_index units k ≡ cut_to terms.ceilings k (roof p k)
