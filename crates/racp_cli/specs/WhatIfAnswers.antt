-- What `whatif` answers to the texts of a network, an order, perhaps a plan, and names.
use Rattle.std.specs.Prelude.{◌≡◌, ◌⊎◌, ◌+◌, ℕ, Bool, List, IsUtf8, Option, Some, None, Ok, false, length, true, ⊤, if◌then◌else◌}
use Rattle.std.specs.List.{list_all}
use Rattle.racp_model.specs.Project.{Project}
use Rattle.racp_model.specs.Terms.{Terms}
use Rattle.racp_plan.specs.declared.plan.Plan.{Plan}
use Rattle.racp_plan.specs.Plans.{IsPlanOf}
use Rattle.racp_by_questions.specs.Crowds.{MayStop}
use Rattle.racp_by_questions.specs.Stops.{AreAboveFloors, IsNotAfterEnough}
use Rattle.racp_check.specs.PlanFaults.{IsChecked}
use Rattle.racp_show.specs.Called.{are_names_for, names_of}
use Rattle.racp_whatif.specs.Lines.{findings_text}
use Rattle.racp_whatif.specs.Outcomes.{AreFindings, is_known}
use Rattle.racp_whatif.specs.declared.outcome.Finding.{Finding}
use Rattle.racp_cli.specs.Checks.{AreRead, HasRightHead}
use Rattle.racp_cli.specs.Crowds.{IsNoThreadLine}
use Rattle.racp_cli.specs.CurveAnswers.{IsAnswerAbout, IsTextOfReason}
use Rattle.racp_cli.specs.ShowAnswers.{IsFaulty, count_line, names_line}
use Rattle.racp_cli.specs.Texts.{stopped_line}

-- the lines that tell findings beside a plan; nothing is said here of JSON, whose values racp_whatif speaks of
abbrev pub IsFindingsText : Bool → List (List ℕ) → ℕ → Plan → List Finding → List ℕ → Type 0
IsFindingsText false names jobs base findings text = text ≡ findings_text names jobs base findings
IsFindingsText true names jobs base findings text = ⊤

-- 4 if what becomes of some changed order is not known, since planning was stopped
abbrev pub findings_status : List Finding → ℕ
findings_status findings = if list_all is_known findings then 0 else 4

-- beside a plan: a finding for each change that is asked about the order and the plan's capacities; one is left open only where
-- planning may stop
pub record IsToldBeside (turns : ℕ) (quiet is_json : Bool) (network : Project) (terms : Terms) (base : Plan) (names : List (List ℕ)) (status : ℕ)
    (text : List ℕ) : Type 0 where
  pub findings : List Finding
  pub right : AreFindings (MayStop network quiet turns) network terms base.capacities findings
  pub with_status : status ≡ findings_status findings
  pub with_text : IsFindingsText is_json names (length network.jobs) base findings text

-- the same, or that a worker could not be started
abbrev pub IsBeside : ℕ → Bool → Bool → Project → Terms → Plan → List (List ℕ) → ℕ → List ℕ → Type 0
IsBeside turns quiet is_json network terms base names status text =
    IsToldBeside turns quiet is_json network terms base names status text ⊎ IsNoThreadLine status text

-- the plan of the order was not made, by workers that may stop: the line tells capacities at or above the floors, before which none
-- are enough
pub record IsTextOfStop (turns : ℕ) (quiet : Bool) (network : Project) (terms : Terms) (status : ℕ) (text : List ℕ) : Type 0 where
  pub not_before : List ℕ
  pub may_stop : MayStop network quiet turns
  pub none : IsNotAfterEnough network terms not_before
  pub floors : AreAboveFloors network terms not_before
  pub with_status : status ≡ 4
  pub with_text : text ≡ stopped_line not_before

-- beside the plan of the order; or why there is none, or why it was not made
abbrev pub IsBesideOwn : ℕ → Bool → Bool → Project → Terms → List (List ℕ) → ℕ → List ℕ → Type 0
IsBesideOwn turns quiet is_json network terms names status text =
    ((base : Plan) × IsPlanOf network terms base × IsBeside turns quiet is_json network terms base names status text) ⊎
    (IsTextOfReason network terms status text ⊎
    (IsTextOfStop turns quiet network terms status text ⊎ IsNoThreadLine status text))

-- beside a plan that is given, or else that of the order
abbrev pub IsBesideGiven : ℕ → Bool → Bool → Project → Terms → Option Plan → List (List ℕ) → ℕ → List ℕ → Type 0
IsBesideGiven turns quiet is_json network terms None names status text =
    IsBesideOwn turns quiet is_json network terms names status text
IsBesideGiven turns quiet is_json network terms (Some base) names status text =
    IsBeside turns quiet is_json network terms base names status text

-- the same, if there are no names or one for each job and resource
abbrev pub IsBesideCounted : ℕ → Bool → Bool → Project → Terms → Option Plan → List (List ℕ) → ℕ → List ℕ → Type 0
IsBesideCounted turns quiet is_json network terms given names status text =
    ((are_names_for names (length network.jobs + network.resources) ≡ true) ×
    IsBesideGiven turns quiet is_json network terms given names status text) ⊎
    ((are_names_for names (length network.jobs + network.resources) ≡ false) × (status ≡ 5) × (text ≡ count_line))

-- the same with these names, or that they are none
abbrev pub IsBesideNamed : ℕ → Bool → Bool → Project → Terms → Option Plan → List ℕ → ℕ → List ℕ → Type 0
IsBesideNamed turns quiet is_json network terms given names status text =
    (IsUtf8 names × IsBesideCounted turns quiet is_json network terms given (names_of names) status text) ⊎
    ((IsUtf8 names → ⊥) × (status ≡ 5) × (text ≡ names_line))

-- beside a plan that is given, and with which nothing is wrong
pub record IsBesideRight (turns : ℕ) (quiet is_json : Bool) (net order plan names : List ℕ) (status : ℕ) (text : List ℕ)
    : Type 0 where
  pub network : Project
  pub terms : Terms
  pub found : Plan
  pub are_read : AreRead net order plan network terms found
  pub head : HasRightHead network terms found
  pub checked : IsChecked network terms found (Ok tt)
  pub named : IsBesideNamed turns quiet is_json network terms (Some found) names status text

-- what is right for the texts: findings beside the plan, if nothing is wrong with it, and else what `check` says; without a plan,
-- findings beside that of the order; memory may run out at any texts
abbrev pub IsWhatIfAnswer : ℕ → Bool → Bool → List ℕ → List ℕ → Option (List ℕ) → List ℕ → ℕ → List ℕ → Type 0
IsWhatIfAnswer turns quiet is_json net order None names status text =
    IsAnswerAbout (λ network terms status text. IsBesideNamed turns quiet is_json network terms None names status text) net order status text
IsWhatIfAnswer turns quiet is_json net order (Some plan) names status text =
    IsBesideRight turns quiet is_json net order plan names status text ⊎ IsFaulty net order plan status text
