-- The status that tells of an answer, or why there is none.
use Rattle.std.specs.Prelude.{◌≡◌, ◌⊎◌, ℕ}
use Rattle.racp_search_commands.specs.Statuses.{IsStatusOfSearch}
use Rattle.racp_plan_commands.specs.Statuses.{IsStatusOfPlan}
use Rattle.racp_input_commands.specs.Statuses.{IsStatusOfInput}
use Rattle.racp_host.specs.Statuses.{IsStatusOf}
use Rattle.racp_host.specs.declared.failure.Failure.{Failure}

-- some answer to some texts has this status; nothing is said of which. That of an explanation is 0
abbrev pub IsStatusOfAnswer : ℕ → Type 0
IsStatusOfAnswer status = IsStatusOfSearch status ⊎ IsStatusOfPlan status ⊎ IsStatusOfInput status ⊎ (status ≡ 0)

-- some answer, or some reason why there is none, has this status
abbrev pub IsStatus : ℕ → Type 0
IsStatus status = IsStatusOfAnswer status ⊎ ((failure : Failure) × IsStatusOf failure status)
