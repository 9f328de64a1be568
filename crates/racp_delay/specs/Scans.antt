-- Contracts of private functions: those that look for the first conflict from start to start.
use Rattle.std.specs.Prelude.{◌≡◌, ◌⊎◌, ℕ, ◌<◌, ◌≤◌, List, length, slice_index}
use Rattle.racp_model.specs.Project.{Project}

-- the next start after a time, or 4294967295 if there is none: no start after the time is before it
pub record IsNextStart (starts : List ℕ) (time next : ℕ) : Type 0 where
  pub first : (i : ℕ) → i < length starts → time < slice_index starts i → next ≤ slice_index starts i
  pub some : ((i : ℕ) × (i < length starts) × (time < slice_index starts i) × (slice_index starts i ≡ next)) ⊎
      (next ≡ 4294967295)

-- the load of some resource is more than its capacity
abbrev pub AreTooMuch : Project → List ℕ → List ℕ → Type 0
AreTooMuch p capacities loads = (k : ℕ) × (k < p.resources) × (slice_index capacities k < slice_index loads k)
