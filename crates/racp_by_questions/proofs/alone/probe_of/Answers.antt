use Rattle.std.proofs.Common.{◌≡◌, [], subst}
use Rattle.racp_search.specs.Truth.{rest_windows}
use Rattle.racp_search.specs.declared.finding.Rest.{Rest}
use Rattle.racp_by_questions.proofs.Probing.{some_left}
use Rattle.racp_by_questions.proofs.alone.probe_of.Goals as goal

pub returns-in-None-clause-probe : goal.returns-in-None-clause-probe
returns-in-None-clause-probe g c =
    let window = c.args.finding.piece.question.window in
    subst (λ (rest : Rest). rest_windows window rest ≡ [] → ⊥) c.rest.ensures.rest (some_left window c.rest.result.now c.if-open.ensures)
