use Rattle.std.proofs.Common.{◌≡◌, ◌≤◌, subst, sym}
use Rattle.std.proofs.lemmas.Result.{IfOk-weaker}
use Rattle.racp_model.specs.Limits.{latest_time}
use Rattle.racp_model.specs.Project.{Project}
use Rattle.racp_model.specs.Terms.{Terms, AreTermsOf}
use Rattle.racp_whatif.specs.Changes.{IsChangeFor, with_deadline}
use Rattle.racp_whatif.specs.declared.change.Change.{Change}
use Rattle.racp_whatif.proofs.Moving.{deadline_terms}
use Rattle.racp_whatif.proofs.changing.changed.Goals as goal

pub returns-in-Deadline-clause-terms : goal.returns-in-Deadline-clause-terms
returns-in-Deadline-clause-terms c =
    let order = c.args.order.now in
    let deadline = c.in-Deadline.deadline in
    let small : deadline ≤ latest_time = subst (λ (change : Change). IsChangeFor order change) c.in-Deadline.is c.requires in
    IfOk-weaker c.with_deadline.result (λ other. other ≡ with_deadline deadline order) (λ other. (p : Project) → AreTermsOf p order → AreTermsOf p other)
    (λ other same p are. subst (λ (terms : Terms). AreTermsOf p terms) (sym same) (deadline_terms p order deadline small are)) c.with_deadline.ensures
