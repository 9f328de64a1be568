-- Contracts of private functions: the tests that the check of a plan makes.
use Rattle.std.specs.Prelude.{◌≡◌, ℕ, List, Option, Some, None, length, slice_index, ◌<◌, ◌≤◌}
use Rattle.racp_model.specs.Project.{Project, number}
use Rattle.racp_model.specs.Schedule.{KeepsPrecedence, IsWithinCapacities, usage}
use Rattle.racp_model.specs.Terms.{Terms, IsWithinCeilings}
use Rattle.racp_check.specs.PlanFaults.{IsFirstBroken, IsFirstOver, IsFirstAboveCeiling, IsFirstEarly}

-- the numbers of the first two jobs that are out of order, or none if precedence is kept
abbrev pub IsBrokenAnswer : Project → List ℕ → Option (ℕ × ℕ) → Type 0
IsBrokenAnswer p starts (Some pair) = (i j : ℕ) × (number i ≡ pair.0) × (number j ≡ pair.1) × IsFirstBroken p starts i j
IsBrokenAnswer p starts None = KeepsPrecedence p starts

-- the number of the first resource that is used above its capacity at time t, or none if none is
abbrev pub IsOverAtAnswer : Project → List ℕ → List ℕ → ℕ → Option ℕ → Type 0
IsOverAtAnswer p capacities starts t (Some resource) =
    (k : ℕ) × (number k ≡ resource) × (k < p.resources) × (slice_index capacities k < usage p starts k t) ×
    ((q : ℕ) → q < k → usage p starts q t ≤ slice_index capacities q)
IsOverAtAnswer p capacities starts t None = (q : ℕ) → q < p.resources → usage p starts q t ≤ slice_index capacities q

-- the number of the first resource that is used above its capacity at the first time at which one is, with that time,
-- or none if the capacities are kept
abbrev pub IsOverAnswer : Project → List ℕ → List ℕ → Option (ℕ × ℕ) → Type 0
IsOverAnswer p capacities starts (Some over) = (k : ℕ) × (number k ≡ over.0) × IsFirstOver p capacities starts k over.1
IsOverAnswer p capacities starts None = IsWithinCapacities p capacities starts

-- the number of the first resource of which the capacity is above its ceiling, or none if none is
abbrev pub IsAboveAnswer : Project → Terms → List ℕ → Option ℕ → Type 0
IsAboveAnswer p terms capacities (Some resource) =
    (k : ℕ) × (number k ≡ resource) × IsFirstAboveCeiling p terms capacities k
IsAboveAnswer p terms capacities None = IsWithinCeilings terms capacities

-- the number of the first job that starts before its release time, or none if none does
abbrev pub IsFirstEarlyAnswer : Project → (ℕ → ℕ) → List ℕ → Option ℕ → Type 0
IsFirstEarlyAnswer p release starts (Some job) = (i : ℕ) × (number i ≡ job) × IsFirstEarly p release starts i
IsFirstEarlyAnswer p release starts None = (i : ℕ) → i < length p.jobs → release i ≤ slice_index starts i
