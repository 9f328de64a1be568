-- What is told where the search for the least deadline ended.
use Rattle.std.proofs.Common.{Bool, ℕ, List, sym, inl, inr}
use Rattle.racp_model.specs.Project.{Project}
use Rattle.racp_model.specs.Terms.{Terms}
use Rattle.racp_by_questions.specs.Crowds.{MayStop}
use Rattle.racp_by_questions.specs.declared.stop.PlanStop.{PlanStop}
use Rattle.racp_by_questions.specs.declared.stop.PlanStop.TheVariants.{Stopped, Memory, NoThread}
use Rattle.racp_soonest.specs.Soonest.{IsSpan, IsStopOf}
use Rattle.racp_soonest.specs.Teams.{order_of_team}
use Rattle.racp_soonest.specs.declared.soonest.Span.{Span}
use Rattle.racp_cli.specs.SoonestAnswers.{IsStoppedSoonest, IsToldSoonest}

-- what is written of a span, and why no more is known
pub span_told : (turns : ℕ) (quiet : Bool) (network : Project) (terms : Terms) (span : Span) (stop : PlanStop) (status : ℕ) (text : List ℕ) → IsSpan network (order_of_team terms) span → IsStopOf (MayStop network quiet turns) stop →
    IsStoppedSoonest span stop status text → IsToldSoonest turns quiet network terms status text
span_told turns quiet network terms span (Stopped not_before) status text right reason told = inr (inl (record {
  span = span;
  right = right;
  may_stop = reason;
  with_text = sym told.1;
  with_status = sym told.0;
}))
span_told turns quiet network terms span Memory status text right reason told = absurd told
span_told turns quiet network terms span NoThread status text right reason told = inr (inr (sym told.0, sym told.1))
