-- What `soonest` answers to the texts of a network and an order.
use Rattle.std.specs.Prelude.{◌≡◌, ◌⊎◌, ℕ, Bool, List}
use Rattle.racp_model.specs.Project.{Project}
use Rattle.racp_model.specs.Terms.{Terms}
use Rattle.racp_by_questions.specs.Crowds.{MayStop}
use Rattle.racp_by_questions.specs.declared.stop.PlanStop.{PlanStop}
use Rattle.racp_by_questions.specs.declared.stop.PlanStop.TheVariants.{Stopped, Memory, NoThread}
use Rattle.racp_soonest.specs.Soonest.{IsSoonestAnswer as IsAnswerOf, IsSpan}
use Rattle.racp_soonest.specs.Teams.{order_of_team}
use Rattle.racp_soonest.specs.Texts.{soonest_text, span_line}
use Rattle.racp_soonest.specs.declared.soonest.Soonest.{Soonest}
use Rattle.racp_soonest.specs.declared.soonest.Soonest.TheVariants.{Plan as ThePlan, NoPlan}
use Rattle.racp_soonest.specs.declared.soonest.Span.{Span}
use Rattle.racp_cli.specs.Crowds.{IsNoThreadLine}
use Rattle.racp_cli.specs.CurveAnswers.{IsAnswerAbout}
use Rattle.racp_cli.specs.Texts.{no_thread_line}

-- 0 for a plan, 3 where there is none
abbrev pub soonest_status : Soonest → ℕ
soonest_status (ThePlan plan) = 0
soonest_status (NoPlan reason) = 3

-- the soonest plan of the team's order, or why there is none for its own deadline
pub record IsTextOfSoonest (network : Project) (terms : Terms) (status : ℕ) (text : List ℕ) : Type 0 where
  pub soonest : Soonest
  pub right : IsAnswerOf network (order_of_team terms) soonest
  pub with_text : text ≡ soonest_text terms.deadline soonest
  pub with_status : status ≡ soonest_status soonest

-- workers were stopped, which may stop: between which deadlines the least one lies
pub record IsTextOfSpan (turns : ℕ) (quiet : Bool) (network : Project) (terms : Terms) (status : ℕ) (text : List ℕ) : Type 0 where
  pub span : Span
  pub right : IsSpan network (order_of_team terms) span
  pub may_stop : MayStop network quiet turns
  pub with_text : text ≡ span_line span
  pub with_status : status ≡ 4

-- what is told: the soonest plan, or why there is none; or that workers were stopped; or that one could not be started
abbrev pub IsToldSoonest : ℕ → Bool → Project → Terms → ℕ → List ℕ → Type 0
IsToldSoonest turns quiet network terms status text =
    IsTextOfSoonest network terms status text ⊎
    (IsTextOfSpan turns quiet network terms status text ⊎ IsNoThreadLine status text)

-- what is right for two texts
abbrev pub IsSoonestAnswer : ℕ → Bool → List ℕ → List ℕ → ℕ → List ℕ → Type 0
IsSoonestAnswer turns quiet = IsAnswerAbout (IsToldSoonest turns quiet)

-- the status and the text if the search ended early, but not if memory ran out
abbrev pub IsStoppedSoonest : Span → PlanStop → ℕ → List ℕ → Type 0
IsStoppedSoonest span (Stopped not_before) status text = (4 ≡ status) × (span_line span ≡ text)
IsStoppedSoonest span Memory status text = ⊥
IsStoppedSoonest span NoThread status text = (7 ≡ status) × (no_thread_line ≡ text)
