use Rattle.std.proofs.Common.{◌-◌, arith, sym}
use Rattle.racp_by_questions.proofs.Foreseeing.{formed-empty, formed-pushed}
use Rattle.racp_by_questions.proofs.ahead.foresee.Goals.{in-Some+in_ok-push_back, in_default}
use Rattle.racp_by_questions.proofs.ahead.foresee.Goals as goal

pub loop-back-init : goal.loop-back-init
loop-back-init g c = formed-empty c.args.subject.now.net.now c.new-ahead.result.items c.new-ahead.result.items c.new-ahead.ensures.items

pub first_question-requires-clause-span : goal.first_question-requires-clause-span
first_question-requires-clause-span g c =
    c.requires.pending c.index-span.result.now
    (c.len-in-loop-back.result - 1 - c.loop-back.back, omega (arith, c.len-in-loop-back.ensures, c.len.ensures, c.min-back-end.ensures, c.loop-back-test.true), sym c.index-span.ensures)

pub loop-back-preserved : goal.loop-back-preserved
loop-back-preserved g c = elim c.match-branch-2.branch [
  | in-Some+in_ok-push_back w ↦ rw w.ahead-is (formed-pushed c.args.subject.now.net.now c.loop-back.ahead.items w.push_back.new.self.items c.in_ok-question.field-0 w.in-Some.question c.loop-back.invariant c.in_ok-question.ensures w.in-Some.is w.in_ok-push_back.ensures.items)
  | in_default w ↦ rw w.ahead-is c.loop-back.invariant
]
