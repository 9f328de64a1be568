use Rattle.racp_by_questions.proofs.Deciding.{is_a_yes, is_a_no}
use Rattle.racp_by_questions.proofs.bounds.is_yes.Goals.{in-Yes, in-None}
use Rattle.racp_by_questions.proofs.bounds.is_yes.Goals as goal

pub returns-clause-decided : goal.returns-clause-decided
returns-clause-decided g c =
    elim c.match-branch-3.branch [
      | in-Yes w ↦ rw w.result-is (is_a_yes c.args.net.now c.args.capacities.now c.args.window.now _ c.in_ok-first.field-0 c.in_ok-question.ensures c.in_ok-first.ensures.answer w.in-Yes.index w.in-Yes.starts w.in-Yes.is)
      | in-None w ↦ rw w.result-is (is_a_no c.args.net.now c.args.capacities.now c.args.window.now _ c.in_ok-first.field-0 c.in_ok-question.ensures c.in_ok-first.ensures.answer w.in-None.is)
    ]
