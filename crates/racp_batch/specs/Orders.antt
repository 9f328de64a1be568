-- The order that a case asks for.
use Rattle.std.specs.Prelude.{◌≡◌, ℕ, Option, None, length, replicate, slice_index}
use Rattle.racp_model.specs.Project.{Project}
use Rattle.racp_model.specs.Path.{IsCriticalLength}
use Rattle.racp_model.specs.Terms.{Terms}
use Rattle.racp_prices.specs.Factors.{deadline_by}

-- this many times the critical length, rounded down, if a deadline may be as late
abbrev pub IsDeadlineBy : Project → ℕ → Option ℕ → Type 0
IsDeadlineBy p factor found = (critical : ℕ) ×
    IsCriticalLength p (slice_index (replicate (length p.jobs) 0)) critical × (found ≡ deadline_by factor critical)

-- one price for all resources, and a deadline: nothing is owned, there are no ceilings, and no job has a release or due time of its own
abbrev pub terms_by : Project → ℕ → ℕ → Terms
terms_by p price deadline = record {
  deadline = deadline;
  prices = replicate p.resources price;
  owned = replicate p.resources 0;
  ceilings = None;
  release = replicate (length p.jobs) 0;
  due = replicate (length p.jobs) deadline;
}
