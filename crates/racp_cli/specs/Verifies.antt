-- What `verify` answers to the texts of a network, an order, a plan and a certificate.
use Rattle.std.specs.Prelude.{◌≡◌, ◌↔◌, ◌⊎◌, ℕ, Bool, true, false, IsTrue, List, [], length, Option, Some, None, Result, Ok, Err}
use Rattle.std.specs.Prelude.{MatchBool, bytes_eq, codes}
use Rattle.std.specs.List.{before_first}
use Rattle.racp_model.specs.Project.{Project}
use Rattle.racp_model.specs.Terms.{Terms, AreTermsOf}
use Rattle.racp_model.specs.Plan.{IsPlan}
use Rattle.racp_text.specs.Cuts.{is_line_feed}
use Rattle.racp_plan.specs.declared.plan.Plan.{Plan}
use Rattle.racp_trees.specs.Certificates.{IsCertificate}
use Rattle.racp_derivations.specs.Texts.{IsDerivationText}
use Rattle.racp_check.specs.PlanFaults.{IsChecked}
use Rattle.racp_check.specs.Leastness.{HasNoneEnoughBefore, IsLongEnough}
use Rattle.racp_cli.specs.Texts.{stopped_line, verified_line, unproved_line}
use Rattle.racp_cli.specs.Checks.{AreRead, HasRightHead, IsCheck, check_text, check_status}
use Rattle.racp_cli.specs.declared.check.Checked.{Checked}
use Rattle.racp_cli.specs.declared.check_fault.CheckFault.{CheckFault}

-- what the texts of a network, an order and a plan are read as, if nothing is wrong with the plan; or what `check` says
abbrev pub AreChecked : List ℕ → List ℕ → List ℕ → Result Checked CheckFault → Type 0
AreChecked net order text (Ok found) =
    AreTermsOf found.net found.order × (length found.plan.capacities ≡ found.net.resources) ×
    AreRead net order text found.net found.order found.plan × HasRightHead found.net found.order found.plan ×
    IsChecked found.net found.order found.plan (Ok tt)
AreChecked net order text (Err fault) = IsCheck net order text (Err fault)

-- whether a text is a certificate by trees for the plan; if it is, no capacities that are enough stand before the plan's, and
-- the critical length is at most the deadline
pub record IsTreeVerdict (network : Project) (terms : Terms) (plan : Plan) (proof : List ℕ) (proved : Bool) : Type 0 where
  pub exact : IsTrue proved ↔ IsCertificate network terms plan.capacities proof
  pub leastness : IsTrue proved → HasNoneEnoughBefore network terms plan.capacities
  pub in_time : IsTrue proved → IsLongEnough network terms

-- whether a text is a certificate by clauses for the plan; if it is, its capacities and starts are the plan of the order
pub record IsClauseVerdict (network : Project) (terms : Terms) (plan : Plan) (proof : List ℕ) (proved : Bool) : Type 0 where
  pub exact : IsTrue proved ↔ IsDerivationText network terms plan.capacities plan.starts proof
  pub is_plan : IsTrue proved → IsPlan network terms plan.capacities plan.starts

-- what stands before the first line feed of a text is `proof 2`
unfoldable pub is_by_clauses : List ℕ → Bool
is_by_clauses proof = bytes_eq (before_first is_line_feed proof) (codes "proof 2")

-- whether a text is a certificate for the plan: one by clauses, if its first line is `proof 2`, or else one by trees
abbrev pub IsVerdict : Project → Terms → Plan → List ℕ → Bool → Type 0
IsVerdict network terms plan proof proved =
    MatchBool (is_by_clauses proof) (IsClauseVerdict network terms plan proof proved)
    (IsTreeVerdict network terms plan proof proved)

-- what is right for the texts of a network, an order, a plan and a certificate: if nothing is wrong with the plan, whether the
-- last text is a certificate for it; else what `check` says
abbrev pub IsVerify : List ℕ → List ℕ → List ℕ → List ℕ → Result Bool CheckFault → Type 0
IsVerify net order text proof (Ok proved) =
    (network : Project) × (terms : Terms) × (plan : Plan) × AreRead net order text network terms plan ×
    HasRightHead network terms plan × IsChecked network terms plan (Ok tt) × IsVerdict network terms plan proof proved
IsVerify net order text proof (Err fault) = IsCheck net order text (Err fault)

-- the text that is written
abbrev pub verify_text : Result Bool CheckFault → List ℕ
verify_text (Ok true) = verified_line
verify_text (Ok false) = unproved_line
verify_text (Err fault) = check_text (Err fault)

-- the status
abbrev pub verify_status : Result Bool CheckFault → ℕ
verify_status (Ok true) = 0
verify_status (Ok false) = 8
verify_status (Err fault) = check_status (Err fault)

-- status and text stand for what is right for the inputs
pub record IsVerifyAnswer (net order text proof : List ℕ) (status : ℕ) (written : List ℕ) : Type 0 where
  pub answer : Result Bool CheckFault
  pub right : IsVerify net order text proof answer
  pub with_status : verify_status answer ≡ status
  pub with_text : verify_text answer ≡ written

-- the same, or that it was stopped, which a quiet stop does not do
abbrev pub IsVerifyUntil : Bool → List ℕ → List ℕ → List ℕ → List ℕ → Result (Option Bool) CheckFault → Type 0
IsVerifyUntil quiet net order text proof (Ok (Some proved)) = IsVerify net order text proof (Ok proved)
IsVerifyUntil quiet net order text proof (Ok None) = IsTrue quiet → ⊥
IsVerifyUntil quiet net order text proof (Err fault) = IsVerify net order text proof (Err fault)

-- the text that is written then
abbrev pub until_text : Result (Option Bool) CheckFault → List ℕ
until_text (Ok (Some proved)) = verify_text (Ok proved)
until_text (Ok None) = stopped_line []
until_text (Err fault) = verify_text (Err fault)

-- and the status
abbrev pub until_status : Result (Option Bool) CheckFault → ℕ
until_status (Ok (Some proved)) = verify_status (Ok proved)
until_status (Ok None) = 4
until_status (Err fault) = verify_status (Err fault)

-- status and text stand for what is right for the inputs; or it was stopped, which a quiet stop does not do
abbrev pub IsVerifyAnswerUntil : Bool → List ℕ → List ℕ → List ℕ → List ℕ → ℕ → List ℕ → Type 0
IsVerifyAnswerUntil quiet net order text proof status written =
    IsVerifyAnswer net order text proof status written ⊎
    ((IsTrue quiet → ⊥) × (status ≡ 4) × (written ≡ stopped_line []))
