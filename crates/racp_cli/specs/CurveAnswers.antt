-- What `curve` answers to the texts of a network and an order.
use Rattle.std.specs.Prelude.{◌≡◌, ◌⊎◌, ℕ, ◌+◌, Bool, List, [], ◌∷◌, ◌++◌, Option, Result, map}
use Rattle.racp_model.specs.Project.{Project}
use Rattle.racp_model.specs.Terms.{Terms}
use Rattle.racp_by_questions.specs.Crowds.{MayStop}
use Rattle.racp_lexfix.specs.Answers.{IsAnswer}
use Rattle.racp_lexfix.specs.Laws.{IsNoPlan}
use Rattle.racp_lexfix.specs.Printing.{AreTextsOf}
use Rattle.racp_lexfix.specs.Texts.{answer_text}
use Rattle.racp_lexfix.specs.declared.answer.Answer.{Answer}
use Rattle.racp_curve.specs.Curves.{first_deadline, AreSteps, AreNotAfterEnough, IsCurve}
use Rattle.racp_curve.specs.Texts.{curve_text, step_lines}
use Rattle.racp_curve.specs.declared.step.Step.{Step}
use Rattle.racp_charts.specs.Pictures.{IsCostPicture}
use Rattle.racp_charts.specs.declared.costs.Corner.{Corner}
use Rattle.racp_cli.specs.declared.curve.CurveForm.{CurveForm}
use Rattle.racp_cli.specs.declared.curve.CurveForm.TheVariants.{Lines, Picture}
use Rattle.racp_cli.specs.Texts.{stopped_line}
use Rattle.racp_cli.specs.Crowds.{IsNoThreadLine}
use Rattle.racp_cli.specs.Plans.{IsNetworkLine, IsOrderLine, IsMemoryLine}
use Rattle.racp_streams.specs.Streams.{Reader, IsRun, ToTwo}
use Rattle.racp_streams.specs.declared.fault.StreamFault.{StreamFault}

-- the corner of a step in a picture: its deadline and its cost
abbrev pub corner_of : Step → Corner
corner_of step = record { deadline = step.deadline; cost = step.cost }

-- the lines of a curve, or a picture of a corner for each step, up to a last deadline, as a calendar tells them
abbrev pub IsCurveText : CurveForm → ℕ → List Step → List ℕ → Type 0
IsCurveText Lines last steps text = text ≡ curve_text steps
IsCurveText (Picture calendar) last steps text = IsCostPicture calendar (map corner_of steps) last text

-- the curve of an order, as lines or as a picture
pub record IsTextOfCurve (form : CurveForm) (network : Project) (terms : Terms) (status : ℕ) (text : List ℕ) : Type 0 where
  pub steps : List Step
  pub right : IsCurve network terms steps
  pub with_text : IsCurveText form terms.deadline steps text
  pub with_status : status ≡ 0

-- why there is no plan for an order, as a line
pub record IsTextOfReason (network : Project) (terms : Terms) (status : ℕ) (text : List ℕ) : Type 0 where
  pub reason : Answer
  pub none : IsNoPlan reason
  pub right : IsAnswer network terms reason
  pub with_text : text ≡ answer_text terms.deadline reason
  pub with_status : status ≡ 3

abbrev pub IsToldCurve : CurveForm → Project → Terms → ℕ → List ℕ → Type 0
IsToldCurve form network terms status text =
    IsTextOfCurve form network terms status text ⊎ IsTextOfReason network terms status text

-- what is right for two texts: what is told of the network and the order that they are read as; or why the first of them that is
-- refused is; memory may run out at any texts
abbrev pub IsAnswerAbout : (Project → Terms → ℕ → List ℕ → Type 0) → List ℕ → List ℕ → ℕ → List ℕ → Type 0
IsAnswerAbout IsTold net order status text =
    ((network : Project) × (terms : Terms) × AreTextsOf net order network terms × IsTold network terms status text) ⊎
    (IsNetworkLine net status text ⊎ (IsOrderLine net order status text ⊎ IsMemoryLine status text))

-- the curve of the order, or why there is no plan
abbrev pub IsCurveAnswer : CurveForm → List ℕ → List ℕ → ℕ → List ℕ → Type 0
IsCurveAnswer form = IsAnswerAbout (IsToldCurve form)

-- the lines of the steps so far, and a line of capacities; the line alone in place of a picture
abbrev pub stopped_text : CurveForm → List Step → List ℕ → List ℕ
stopped_text Lines steps capacities = step_lines steps ++ stopped_line capacities
stopped_text (Picture calendar) steps capacities = stopped_line capacities

-- workers were stopped, which may stop: the steps so far, and capacities before which none stand that are enough for a deadline
-- before the first of these steps
pub record IsTextOfStop (turns : ℕ) (quiet : Bool) (form : CurveForm) (network : Project) (terms : Terms) (status : ℕ) (text : List ℕ) : Type 0 where
  pub steps : List Step
  pub not_before : List ℕ
  pub may_stop : MayStop network quiet turns
  pub are_steps : AreSteps network terms steps
  pub none : AreNotAfterEnough network terms (first_deadline (terms.deadline + 1) steps) not_before
  pub with_text : text ≡ stopped_text form steps not_before
  pub with_status : status ≡ 4

-- what workers tell: what is told on one thread; or that they were stopped; or that one could not be started
abbrev pub IsToldByCrowd : ℕ → Bool → CurveForm → Project → Terms → ℕ → List ℕ → Type 0
IsToldByCrowd turns quiet form network terms status text =
    IsToldCurve form network terms status text ⊎
    (IsTextOfStop turns quiet form network terms status text ⊎ IsNoThreadLine status text)

-- the curve of the order by workers, or why there is no plan, or why they ended early
abbrev pub IsCurveCrowdAnswer : ℕ → Bool → CurveForm → List ℕ → List ℕ → ℕ → List ℕ → Type 0
IsCurveCrowdAnswer turns quiet form = IsAnswerAbout (IsToldByCrowd turns quiet form)

-- a run of `curve`
abbrev pub IsCurveRun : CurveForm → Reader → Reader → Option (List ℕ) → Option (List ℕ) → Result ℕ StreamFault → Type 0
IsCurveRun form net order = IsRun (ToTwo (IsCurveAnswer form)) (net ∷ (order ∷ []))

-- a run of `curve` by workers
abbrev pub IsCurveCrowdRun : ℕ → Bool → CurveForm → Reader → Reader → Option (List ℕ) → Option (List ℕ) → Result ℕ StreamFault → Type 0
IsCurveCrowdRun turns quiet form net order = IsRun (ToTwo (IsCurveCrowdAnswer turns quiet form)) (net ∷ (order ∷ []))
