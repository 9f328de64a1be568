use Rattle.std.proofs.Common.{◌≡◌, length, All, List, subst, sym}
use Rattle.std.proofs.lemmas.Result.{IfOk-weaker}
use Rattle.racp_model.specs.Project.{Project}
use Rattle.racp_model.specs.Terms.{AreTermsOf}
use Rattle.racp_whatif.specs.declared.change.Change.{Change}
use Rattle.racp_whatif.specs.Changes.{IsChangeFor, changes_of}
use Rattle.racp_whatif.proofs.Fitting.{changes_for}
use Rattle.racp_whatif.proofs.changes.changes_of.Goals as goal

pub returns-clause-right : goal.returns-clause-right
returns-clause-right c =
    let terms = c.args.order.now in
    let capacities = c.args.capacities.now in
    IfOk-weaker c.listed.result (λ changes. changes.items ≡ changes_of terms capacities) (λ changes. (p : Project) → AreTermsOf p terms → length capacities ≡ p.resources → All (IsChangeFor terms) changes.items)
    (λ changes is p are places. subst (λ (list : List Change). All (IsChangeFor terms) list) (sym is) (changes_for p terms capacities are places)) c.listed.ensures
