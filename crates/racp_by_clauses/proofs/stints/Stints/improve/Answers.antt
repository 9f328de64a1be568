use Rattle.std.proofs.Common.{Option, subst}
use Rattle.std.specs.Prelude.{IfSome}
use Rattle.racp_model.specs.Project.{Project}
use Rattle.racp_model.specs.Terms.{Terms}
use Rattle.racp_drafts.specs.Drafts.{IsDraft}
use Rattle.racp_drafts.specs.declared.draft.Draft.{Draft}
use Rattle.racp_by_clauses.proofs.stints.Stints.improve.Goals as goal

pub tell_draft-requires-clause-draft : goal.tell_draft-requires-clause-draft
tell_draft-requires-clause-draft g c =
    let q = g.P.OfProblem.problem in
    let net = c.args.task.net.now in
    let order = c.args.task.order.now in
    let draft = c.in-Some-2.draft in
    let told : IsDraft net order draft = subst (λ (found : Option Draft). IfSome found (IsDraft net order)) c.in-Some-2.is c.in_ok-draft.ensures in
    let of_network : IsDraft q.network order draft = subst (λ (project : Project). IsDraft project order draft) c.requires.is_of.network told in
    subst (λ (terms : Terms). IsDraft q.network terms draft) c.requires.is_of.terms of_network
