use Rattle.std.proofs.Common.{inr, subst}
use Rattle.racp_prove.specs.Proving.{MayEndPlanning}
use Rattle.racp_by_questions.specs.declared.stop.PlanStop.{PlanStop}
use Rattle.racp_prove.proofs.Certified.{answer_proved}
use Rattle.racp_prove.proofs.by_trees.prove_and_keep.Goals as goal

pub returns-in-Ok-clause-proof : goal.returns-in-Ok-clause-proof
returns-in-Ok-clause-proof g c =
    answer_proved (g.P.Stop.is_quiet c.args.stop.now) c.args.task.now.net.now c.args.task.now.order.now c.in-Ok.answer c.answer_proof.result c.in-Ok.ensures.answer c.answer_proof.ensures.proof

pub returns-in-Err-Stopped-clause-proof : goal.returns-in-Err-Stopped-clause-proof
returns-in-Err-Stopped-clause-proof g c =
    let line = c.in_ok-unproved-in-Err-Stopped.ensures.line in
    inr (subst (λ (end : PlanStop). MayEndPlanning (g.P.Stop.is_quiet c.args.stop.now) end) c.in-Err-Stopped.field-0-is c.in-Err-Stopped.ensures.stop, line.0, line.1)
