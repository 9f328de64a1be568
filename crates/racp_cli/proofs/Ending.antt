-- Where following a curve ended early.
use Rattle.std.proofs.Common.{Bool, ℕ, List, sym, inl, inr}
use Rattle.std.specs.Prelude.{⊤}
use Rattle.racp_model.specs.Project.{Project}
use Rattle.racp_model.specs.Terms.{Terms}
use Rattle.racp_by_questions.specs.Crowds.{MayStop}
use Rattle.racp_by_questions.specs.declared.stop.PlanStop.{PlanStop}
use Rattle.racp_by_questions.specs.declared.stop.PlanStop.TheVariants.{Stopped, Memory, NoThread}
use Rattle.racp_curve.specs.declared.step.Step.{Step}
use Rattle.racp_curve.specs.Curves.{IsCurveStop}
use Rattle.racp_cli.specs.CurveAnswers.{IsToldByCrowd}
use Rattle.racp_cli.specs.declared.curve.CurveForm.{CurveForm}
use Rattle.racp_cli.specs.Responses.{IsEndedText}

-- what is written of steps so far, and why there are no more
pub ended_told : (turns : ℕ) (quiet : Bool) (form : CurveForm) (network : Project) (terms : Terms) (steps : List Step) (stop : PlanStop) (status : ℕ) (text : List ℕ) → IsCurveStop network terms (MayStop network quiet turns) ⊤ steps stop → IsEndedText form steps stop status text →
    IsToldByCrowd turns quiet form network terms status text
ended_told turns quiet form network terms steps (Stopped not_before) status text ended told = inr (inl (record {
  steps = steps;
  not_before = not_before;
  may_stop = ended.reason.0;
  are_steps = ended.are_steps;
  none = ended.reason.1;
  with_text = sym told.1;
  with_status = sym told.0;
}))
ended_told turns quiet form network terms steps Memory status text ended told = absurd told
ended_told turns quiet form network terms steps NoThread status text ended told = inr (inr (sym told.0, sym told.1))
