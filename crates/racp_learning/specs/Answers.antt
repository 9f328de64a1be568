-- What answers a question: bounds on all variables of a problem.
use Rattle.std.specs.Prelude.{◌≡◌, ◌⊎◌, ℕ, ◌+◌, ◌<◌, ◌≤◌, List, slice_index}
use Rattle.racp_model.specs.Project.{Project}
use Rattle.racp_model.specs.Terms.{Terms, cost}
use Rattle.racp_model.specs.Window.{Bounds}
use Rattle.racp_clauses.specs.Solutions.{Problem, IsSchedule, IsWithin, values, units_place, cost_place}
use Rattle.racp_clauses.specs.Clauses.{AreFalseWithin, IsRefuted}
use Rattle.racp_clauses.specs.declared.literal.Literal.{Literal}
use Rattle.racp_learning.specs.declared.told.Tally.{Tally}
use Rattle.racp_learning.specs.declared.told.Told.{Told}
use Rattle.racp_learning.specs.declared.told.Told.TheVariants.{Found, Refuted, Open}
use Rattle.racp_learning.specs.declared.told.Reason.TheVariants.{Budget, Stopped, Memory}

-- the units of each resource lie within bounds
abbrev pub UnitsLie : Project → Bounds → List ℕ → Type 0
UnitsLie p bounds units = (k : ℕ) → k < p.resources →
    (slice_index bounds.lower (units_place p k) ≤ slice_index units k) ×
    (slice_index units k ≤ slice_index bounds.upper (units_place p k))

-- so does what they cost
abbrev pub CostLies : Project → Terms → Bounds → List ℕ → Type 0
CostLies p terms bounds units =
    (slice_index bounds.lower (cost_place p) ≤ cost terms units) ×
    (cost terms units ≤ slice_index bounds.upper (cost_place p))

-- starts and units that they fit, whose values lie within the bounds
pub record IsAnswer (p : Project) (terms : Terms) (bounds : Bounds) (starts units : List ℕ) : Type 0 where
  pub schedule : IsSchedule p starts units
  pub within : IsWithin bounds (values terms starts units)

-- what a search tells of a question is true: starts and units answer it; a clause, which holds, is false within its bounds,
-- so that no solution lies within them
abbrev pub IsTrueOf : Problem → Bounds → Told (List Literal) → Type 0
IsTrueOf q bounds (Found starts units) = IsAnswer q.network q.terms bounds starts units
IsTrueOf q bounds (Refuted clause) = AreFalseWithin bounds clause × IsRefuted q bounds
IsTrueOf q bounds (Open reason) = Unit {0}

-- a search was not stopped
abbrev pub IsUnstopped : Told (List Literal) → Type 0
IsUnstopped (Found starts units) = Unit {0}
IsUnstopped (Refuted clause) = Unit {0}
IsUnstopped (Open Budget) = Unit {0}
IsUnstopped (Open Stopped) = ⊥
IsUnstopped (Open Memory) = Unit {0}

-- a count has grown by so much, or is the greatest that there is
abbrev pub HasGrown : ℕ → ℕ → ℕ → Type 0
HasGrown before by after = (before + by ≤ after) ⊎ (after ≡ 18446744073709551615)

-- since an earlier tally a search has met so many conflicts, or lost 16 clauses; or it counts no further
abbrev pub IsSpent : Tally → ℕ → Tally → Type 0
IsSpent before conflicts after =
    HasGrown before.conflicts conflicts after.conflicts ⊎
    (HasGrown before.lost 16 after.lost ⊎ (after.halts ≡ 18446744073709551615))

-- a search left a question open for its budget alone where that was spent
abbrev pub IsOpenIfSpent : Tally → ℕ → Tally → Told (List Literal) → Type 0
IsOpenIfSpent before conflicts after (Found starts units) = Unit {0}
IsOpenIfSpent before conflicts after (Refuted clause) = Unit {0}
IsOpenIfSpent before conflicts after (Open Budget) = IsSpent before conflicts after
IsOpenIfSpent before conflicts after (Open Stopped) = Unit {0}
IsOpenIfSpent before conflicts after (Open Memory) = Unit {0}

-- it was not left open for its budget
abbrev pub IsUnspent : Told (List Literal) → Type 0
IsUnspent (Found starts units) = Unit {0}
IsUnspent (Refuted clause) = Unit {0}
IsUnspent (Open Budget) = ⊥
IsUnspent (Open Stopped) = Unit {0}
IsUnspent (Open Memory) = Unit {0}
