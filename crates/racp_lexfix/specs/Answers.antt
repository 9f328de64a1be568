-- What planning answers.
use Rattle.std.specs.Prelude.{◌≡◌, ℕ}
use Rattle.racp_model.specs.Project.{Project, number}
use Rattle.racp_model.specs.Terms.{Terms}
use Rattle.racp_model.specs.Plan.{IsTooLong, IsTooLateAt, IsOverCeilings}
use Rattle.racp_plan.specs.Plans.{IsPlanOf}
use Rattle.racp_lexfix.specs.declared.answer.Answer.{Answer}
use Rattle.racp_lexfix.specs.declared.answer.Answer.TheVariants.{Plan as ThePlan, Impossible, Due, Ceiling}

-- the plan of an order, or the first reason for which there is none: the critical length, a due time, the ceilings
abbrev pub IsAnswer : Project → Terms → Answer → Type 0
IsAnswer p terms (ThePlan plan) = IsPlanOf p terms plan
IsAnswer p terms (Impossible longest) = IsTooLong p terms longest
IsAnswer p terms (Due job) = (i : ℕ) × (number i ≡ job) × IsTooLateAt p terms i
IsAnswer p terms Ceiling = IsOverCeilings p terms
