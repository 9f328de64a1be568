-- Contracts of private functions: how much of a resource the jobs that stay can use, by common divisors of requests.
use Rattle.std.specs.Prelude.{◌≡◌, ℕ, ◌<◌, ◌≤◌, List, [], ◌∷◌, length, slice_index, slice_get, Some}
use Rattle.std.specs.Int.{◌∣◌}
use Rattle.racp_model.specs.Project.{Project, place, request}
use Rattle.racp_delay.specs.Alternatives.{Splits}
use Rattle.racp_delay.specs.Found.{AreWithin, Each, with_load}
use Rattle.racp_delay.specs.declared.choosing.Choice.{Choice}

-- for each resource, a number that divides what each of some jobs requests
abbrev pub AreDivisors : Project → List ℕ → List ℕ → Type 0
AreDivisors p jobs row =
    (k : ℕ) → k < p.resources → Each (λ job. slice_index row k ∣ request p (place job) k) jobs

-- rows of such numbers: at a place, where there is one, those of as many last jobs
abbrev pub AreRows : Project → List ℕ → List (List ℕ) → Type 0
AreRows p [] rows = Unit {0}
AreRows p (job ∷ jobs) rows =
    ((row : List ℕ) → slice_get rows (length (job ∷ jobs)) ≡ Some row → AreDivisors p (job ∷ jobs) row) ×
    AreRows p jobs rows

-- the kept, and jobs that run with them, use no more of a resource than a number that is at most what is left
pub record IsReach (c : Choice) (k reach : ℕ) : Type 0 where
  pub most : (gone stay : List ℕ) → Splits c.undecided.now gone stay →
      AreWithin c.net.now c.capacities.now (with_load c.net.now (slice_index c.kept) stay) →
      with_load c.net.now (slice_index c.kept) stay k ≤ reach
  pub left : reach ≤ slice_index c.left k
