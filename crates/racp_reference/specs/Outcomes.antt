-- What planning and deciding by definition answer.
use Rattle.std.specs.Prelude.{◌≡◌, ℕ, List, Option, Some, None}
use Rattle.racp_model.specs.Project.{Project, number}
use Rattle.racp_model.specs.Terms.{Terms, IsLexBefore}
use Rattle.racp_model.specs.Plan.{IsLeast, IsTooLong, IsTooLateAt, IsOverCeilings}
use Rattle.racp_model.specs.Window.{Bounds, Answers, IsNo}
use Rattle.racp_plan.specs.Plans.{IsPlanOf}
use Rattle.racp_reference.specs.declared.plan.Outcome.{Outcome}
use Rattle.racp_reference.specs.declared.plan.Outcome.TheVariants.{Plan as ThePlan, TooLong, TooLate, OverCeilings}

-- the lexicographically least starts that answer a question, or none if it is infeasible
abbrev pub IsFirstAnswer : Project → List ℕ → Bounds → Option (List ℕ) → Type 0
IsFirstAnswer p capacities window (Some starts) = IsLeast IsLexBefore (Answers p capacities window) starts
IsFirstAnswer p capacities window None = IsNo p capacities window

-- the plan of an order, or why there is none
abbrev pub IsOutcome : Project → Terms → Outcome → Type 0
IsOutcome p terms (ThePlan plan) = IsPlanOf p terms plan
IsOutcome p terms (TooLong critical) = IsTooLong p terms critical
IsOutcome p terms (TooLate job) = (i : ℕ) × (number i ≡ job) × IsTooLateAt p terms i
IsOutcome p terms OverCeilings = IsOverCeilings p terms
