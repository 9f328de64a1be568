-- What becomes of an order and of its changes.
use Rattle.std.specs.Prelude.{◌≡◌, ℕ, ◌≤◌, Bool, true, false, List, All, map}
use Rattle.racp_model.specs.Project.{Project, number}
use Rattle.racp_model.specs.Terms.{Terms, cost}
use Rattle.racp_model.specs.Plan.{IsEnough, IsTooLong, IsTooLateAt, IsOverCeilings}
use Rattle.racp_whatif.specs.Needs.{IsNeedAnswer}
use Rattle.racp_plan.specs.Plans.{IsPlanOf}
use Rattle.racp_whatif.specs.Changes.{changed, changes_of}
use Rattle.racp_whatif.specs.declared.change.Change.{Change}
use Rattle.racp_whatif.specs.declared.outcome.Outcome.{Outcome}
use Rattle.racp_whatif.specs.declared.outcome.Outcome.TheVariants.{Plan as ThePlan, TooLong, TooLate, NoneEnough, Open}
use Rattle.racp_whatif.specs.declared.outcome.Finding.{Finding}

-- the plan of an order; or the first reason for which there is none, if the ceilings are, with a need above one that is seen; or, of a plan
-- that is not known, what capacities that are enough cost at least: only where planning may stop
abbrev pub IsOutcome : (may_stop : Type 0) → Project → Terms → Outcome → Type 0
IsOutcome may_stop p terms (ThePlan plan) = IsPlanOf p terms plan
IsOutcome may_stop p terms (TooLong critical) = IsTooLong p terms critical
IsOutcome may_stop p terms (TooLate job) = (i : ℕ) × (number i ≡ job) × IsTooLateAt p terms i
IsOutcome may_stop p terms (NoneEnough need) = IsOverCeilings p terms × IsNeedAnswer p terms need
IsOutcome may_stop p terms (Open least) = may_stop × ((enough : List ℕ) → IsEnough p terms enough → least ≤ cost terms enough)

-- what becomes of the order with the finding's change
abbrev pub IsFinding : (may_stop : Type 0) → Project → Terms → Finding → Type 0
IsFinding may_stop p terms finding = IsOutcome may_stop p (changed finding.change terms) finding.outcome

-- the change of a finding
abbrev pub change_of : Finding → Change
change_of finding = finding.change

-- a finding for each change that is asked about an order and capacities, in their order
pub record AreFindings (may_stop : Type 0) (p : Project) (terms : Terms) (capacities : List ℕ) (findings : List Finding) : Type 0 where
  pub changes : map change_of findings ≡ changes_of terms capacities
  pub right : All (IsFinding may_stop p terms) findings

-- whether what becomes of the order is known: its plan, or that there is none
abbrev pub is_settled : Outcome → Bool
is_settled (ThePlan plan) = true
is_settled (TooLong critical) = true
is_settled (TooLate job) = true
is_settled (NoneEnough need) = true
is_settled (Open least) = false

abbrev pub is_known : Finding → Bool
is_known finding = is_settled finding.outcome
