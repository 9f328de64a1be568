use Rattle.std.proofs.Common.{◌∙◌, sym}
use Rattle.racp_cli.proofs.Verifying.{by_clauses, by_trees}
use Rattle.racp_cli.proofs.verdict.is_proved.Goals as goal

pub returns-then-is_by_clauses-clause-verdict : goal.returns-then-is_by_clauses-clause-verdict
returns-then-is_by_clauses-clause-verdict g c =
    by_clauses c.args.found.now.net c.args.found.now.order c.args.found.now.plan c.args.proof.now c.establishes_by_text_until.result (sym c.is_by_clauses.ensures ∙ c.if-is_by_clauses.true)
    c.establishes_by_text_until.ensures.exact c.establishes_by_text_until.ensures.plan

pub returns-clause-verdict : goal.returns-clause-verdict
returns-clause-verdict g c =
    by_trees c.args.found.now.net c.args.found.now.order c.args.found.now.plan c.args.proof.now c.check_proof_until.result (sym c.is_by_clauses.ensures ∙ c.if-is_by_clauses.false)
    c.check_proof_until.ensures.exact c.check_proof_until.ensures.leastness c.check_proof_until.ensures.in_time
