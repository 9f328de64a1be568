use Rattle.std.proofs.lemmas.Result.{IfOk-weaker}
use Rattle.racp_by_questions.specs.Searched.{IsBetterKnown}
use Rattle.racp_by_questions.proofs.Halves.{better-trans}
use Rattle.racp_by_questions.proofs.halving.ask_about.Goals as goal

pub returns-in_ok-foresee-in-Open-clause-better : goal.returns-in_ok-foresee-in-Open-clause-better
returns-in_ok-foresee-in-Open-clause-better g c =
    let s = c.args.subject.now in
    let old = c.args.known.now in
    let next = c.ask.new.self in
    let new = c.ask-in-Open.new.self in
    IfOk-weaker c.ask-in-Open.result (λ x. IsBetterKnown s next new) (λ x. IsBetterKnown s old new) (λ x then. better-trans s old next new c.in_ok-ask.ensures.better then) c.ask-in-Open.ensures.better
