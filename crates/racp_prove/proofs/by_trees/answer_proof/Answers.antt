use Rattle.racp_prove.proofs.Certified.{proof_of_none}
use Rattle.racp_prove.proofs.by_trees.answer_proof.Goals as goal

pub returns-in_ok-printed-in_default-clause-proof : goal.returns-in_ok-printed-in_default-clause-proof
returns-in_ok-printed-in_default-clause-proof g c =
    proof_of_none c.args.task.now.net.now c.args.task.now.order.now c.args.answer.now c.in_ok-printed-in_default.printed.text.items c.in_ok-printed-in_default.printed.status c.in_default.not-Plan c.in_ok-printed-in_default.ensures.status c.in_ok-printed-in_default.ensures.text
