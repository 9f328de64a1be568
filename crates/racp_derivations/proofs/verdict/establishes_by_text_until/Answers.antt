use Rattle.std.proofs.Common.{◌≡◌, ◌↔◌, IsTrue, true, false, subst}
use Rattle.std.specs.Prelude.{Option, MatchOption}
use Rattle.std.proofs.lemmas.Result.{IfOk-weaker}
use Rattle.racp_model.specs.Window.{Bounds}
use Rattle.racp_derivations.specs.Texts.{IsOrderRoot, ShowsIn}
use Rattle.racp_derivations.proofs.Rooted.{shown-so}
use Rattle.racp_derivations.proofs.verdict.establishes_by_text_until.Goals as goal

pub returns-in_default-clause-exact : goal.returns-in_default-clause-exact
returns-in_default-clause-exact g c =
    let none : (root : Bounds) → IsOrderRoot c.args.net.now c.args.order.now root → ⊥ =
    subst (λ (o : Option Bounds). MatchOption o ((root : Bounds) → IsOrderRoot c.args.net.now c.args.order.now root → ⊥) (λ root. IsOrderRoot c.args.net.now c.args.order.now root)) c.in_default.is c.in_ok-root.ensures.root in
    ((λ (x : IsTrue false). let clash : false ≡ true = x in cc clash), λ h. absurd (none h.root h.is_root))

pub returns-clause-exact : goal.returns-clause-exact
returns-clause-exact g c =
    let root : IsOrderRoot c.args.net.now c.args.order.now c.in-Some.root =
    subst (λ (o : Option Bounds). MatchOption o ((root : Bounds) → IsOrderRoot c.args.net.now c.args.order.now root → ⊥) (λ root. IsOrderRoot c.args.net.now c.args.order.now root)) c.in-Some.is c.in_ok-root.ensures.root in
    IfOk-weaker c.establishes_in.result (λ yes'. IsTrue yes' ↔ ShowsIn c.args.net.now c.args.order.now c.in-Some.root c.args.plan.now.capacities c.args.plan.now.starts c.args.text.now) _
    (λ yes' e. shown-so c.args.net.now c.args.order.now c.in-Some.root c.args.plan.now.capacities c.args.plan.now.starts c.args.text.now root yes' e) c.establishes_in.ensures.exact
