-- What the jobs use of a resource over time.
use Rattle.std.specs.Prelude.{◌≡◌, ℕ, ◌*◌, ◌/◌, ◌<◌, ◌≤◌, ◌==◌, List, AllPairs, fold, nat_le, if◌then◌else◌}
use Rattle.racp_model.specs.Project.{Project}
use Rattle.racp_model.specs.Schedule.{usage}
use Rattle.racp_show.specs.declared.usage.Step.{Step}

-- the greatest usage of resource k at the times from `from` to before `to`
pub record IsGreatestUsage (p : Project) (starts : List ℕ) (k from to units : ℕ) : Type 0 where
  pub most : (t : ℕ) → from ≤ t → t < to → usage p starts k t ≤ units
  pub reached : (t : ℕ) × (from ≤ t) × (t < to) × (usage p starts k t ≡ units)

-- the units of the last of some steps that begins at time t or earlier, and 0 before all of them
unfoldable pub units_at : List Step → ℕ → ℕ
units_at steps t = fold (λ units step. if nat_le step.from t then step.units else units) 0 steps

-- the usage of resource k in steps: each begins after the one before, and at each time as much is used as the last step
-- says that has begun
pub record AreSteps (p : Project) (starts : List ℕ) (k : ℕ) (steps : List Step) : Type 0 where
  pub rising : AllPairs (λ a b. a.from < b.from) steps
  pub each : (t : ℕ) → units_at steps t ≡ usage p starts k t

-- a part in percent of the whole, rounded down, and 0 of nothing
abbrev pub percent : ℕ → ℕ → ℕ
percent part whole = if whole == 0 then 0 else 100 * part / whole
