use Rattle.std.proofs.Common.{IfOk, subst, sym}
use Rattle.racp_model.specs.Project.{Project}
use Rattle.racp_model.specs.declared.question.Question.{Question}
use Rattle.racp_search.specs.Truth.{IsDecision}
use Rattle.racp_search.proofs.entry_points.decide_named.Goals as goal

pub returns : goal.returns
returns g c =
    let asked = c.args.question.now in
    subst (λ (p : Project). IfOk c.search_all.result (IsDecision p asked.capacities asked.window)) (sym c.requires.named)
    (subst (λ (q : Question). IfOk c.search_all.result (IsDecision g.N.OfNetwork.network q.capacities q.window)) c.new-subject.ensures c.search_all.ensures)
