use Rattle.std.proofs.Common.{◌≡◌}
use Rattle.std.proofs.lemmas.Result.{IfErr-weaker}
use Rattle.racp_by_questions.specs.declared.stop.PlanStop.TheVariants.{Memory}
use Rattle.racp_curve.specs.Curves.{AreSteps, IsCurveStop}
use Rattle.racp_curve.proofs.Telling.{memory_alone}
use Rattle.racp_curve.proofs.alone.curve_named.Goals as goal

pub returns-clause-steps : goal.returns-clause-steps
returns-clause-steps g c =
    IfErr-weaker c.curve.result (λ end. IsCurveStop c.args.ground.now.net.now c.args.ground.now.order.now ⊥ ⊥ end.steps.items end.stop) (λ end. AreSteps c.args.ground.now.net.now c.args.ground.now.order.now end.steps.items) (λ end h. h.are_steps) c.curve.ensures.stop

pub returns-clause-stop : goal.returns-clause-stop
returns-clause-stop g c =
    IfErr-weaker c.curve.result (λ end. IsCurveStop c.args.ground.now.net.now c.args.ground.now.order.now ⊥ ⊥ end.steps.items end.stop) (λ end. end.stop ≡ Memory) (λ end h. memory_alone _ end.stop h.reason) c.curve.ensures.stop
