use Rattle.std.proofs.Common.{subst}
use Rattle.std.proofs.lemmas.Result.{err_from_is_err_and}
use Rattle.racp_root.specs.Openings.{IsOpening}
use Rattle.racp_root.specs.declared.opening.Opening.TheVariants.{Root}
use Rattle.racp_lexfix.proofs.FirstFloors.{over}
use Rattle.racp_lexfix.proofs.planning.plan_after.Goals as goal

pub opening_of-requires : goal.opening_of-requires
opening_of-requires g c = c.args.task.now.terms

pub returns-in_err-critical-clause-network : goal.returns-in_err-critical-clause-network
returns-in_err-critical-clause-network g c = c.requires.named

pub returns-in_err-critical-clause-answer : goal.returns-in_err-critical-clause-answer
returns-in_err-critical-clause-answer g c = rw ((err_from_is_err_and c.from_residual.result c.from_residual.ensures.1).1) tt

pub returns-in_err-critical-clause-stop : goal.returns-in_err-critical-clause-stop
returns-in_err-critical-clause-stop g c =
    let p = err_from_is_err_and c.from_residual.result c.from_residual.ensures.1 in
    rw (p.1, p.2) tt

pub decided-requires-clause-named : goal.decided-requires-clause-named
decided-requires-clause-named g c = c.requires.named

pub decided-requires-clause-optimum : goal.decided-requires-clause-optimum
decided-requires-clause-optimum g c = c.requires.optimum

pub decided-requires-clause-heard : goal.decided-requires-clause-heard
decided-requires-clause-heard g c = c.requires.heard

pub decided-requires-clause-root : goal.decided-requires-clause-root
decided-requires-clause-root g c =
    let opening : IsOpening c.args.task.now.net.now c.args.task.now.order.now (Root c.in-Root.critical c.in-Root.window) = subst (IsOpening c.args.task.now.net.now c.args.task.now.order.now) c.in-Root.is c.in_ok-critical.ensures in
    opening.window_is

pub answer_of-requires-clause-critical : goal.answer_of-requires-clause-critical
answer_of-requires-clause-critical g c =
    let opening : IsOpening c.args.task.now.net.now c.args.task.now.order.now (Root c.in-Root.critical c.in-Root.window) = subst (IsOpening c.args.task.now.net.now c.args.task.now.order.now) c.in-Root.is c.in_ok-critical.ensures in
    opening.length

pub answer_of-requires-clause-over : goal.answer_of-requires-clause-over
answer_of-requires-clause-over g c = λ none.
    let opening : IsOpening c.args.task.now.net.now c.args.task.now.order.now (Root c.in-Root.critical c.in-Root.window) = subst (IsOpening c.args.task.now.net.now c.args.task.now.order.now) c.in-Root.is c.in_ok-critical.ensures in
    over c.args.task.now.net.now c.args.task.now.order.now c.in-Root.window opening.window_is none

pub returns-in-TooLong-clause-network : goal.returns-in-TooLong-clause-network
returns-in-TooLong-clause-network g c = c.requires.named

pub returns-in-TooLong-clause-answer : goal.returns-in-TooLong-clause-answer
returns-in-TooLong-clause-answer g c = subst (IsOpening c.args.task.now.net.now c.args.task.now.order.now) c.in-TooLong.is c.in_ok-critical.ensures

pub returns-in-TooLong-clause-stop : goal.returns-in-TooLong-clause-stop
returns-in-TooLong-clause-stop g c = tt

pub returns-in-TooLate-clause-network : goal.returns-in-TooLate-clause-network
returns-in-TooLate-clause-network g c = c.requires.named

pub returns-in-TooLate-clause-answer : goal.returns-in-TooLate-clause-answer
returns-in-TooLate-clause-answer g c = subst (IsOpening c.args.task.now.net.now c.args.task.now.order.now) c.in-TooLate.is c.in_ok-critical.ensures

pub returns-in-TooLate-clause-stop : goal.returns-in-TooLate-clause-stop
returns-in-TooLate-clause-stop g c = tt

pub returns-in_err-decided-in-Root-clause-network : goal.returns-in_err-decided-in-Root-clause-network
returns-in_err-decided-in-Root-clause-network g c = c.decided.ensures.network

pub returns-in_err-decided-in-Root-clause-answer : goal.returns-in_err-decided-in-Root-clause-answer
returns-in_err-decided-in-Root-clause-answer g c = rw ((err_from_is_err_and c.from_residual-in_err-decided-in-Root.result c.from_residual-in_err-decided-in-Root.ensures.1).1) tt

pub returns-in_err-decided-in-Root-clause-stop : goal.returns-in_err-decided-in-Root-clause-stop
returns-in_err-decided-in-Root-clause-stop g c =
    let p = err_from_is_err_and c.from_residual-in_err-decided-in-Root.result c.from_residual-in_err-decided-in-Root.ensures.1 in
    rw (p.1, p.2) c.in_err-decided-in-Root.ensures.stop
