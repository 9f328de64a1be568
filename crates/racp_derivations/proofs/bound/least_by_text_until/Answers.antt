use Rattle.std.proofs.Common.{subst}
use Rattle.std.specs.Prelude.{Option, MatchOption}
use Rattle.std.proofs.lemmas.Result.{IfOk-weaker}
use Rattle.racp_model.specs.Window.{Bounds}
use Rattle.racp_derivations.specs.Texts.{IsOrderRoot}
use Rattle.racp_derivations.specs.BoundTexts.{IsLeastIn}
use Rattle.racp_derivations.proofs.TellingBounds.{least-so}
use Rattle.racp_derivations.proofs.bound.least_by_text_until.Goals as goal

pub returns-in_default-clause-exact : goal.returns-in_default-clause-exact
returns-in_default-clause-exact g c =
    let none : (root : Bounds) → IsOrderRoot c.args.net.now c.args.order.now root → ⊥ =
    subst (λ (o : Option Bounds). MatchOption o ((root : Bounds) → IsOrderRoot c.args.net.now c.args.order.now root → ⊥) (λ root. IsOrderRoot c.args.net.now c.args.order.now root)) c.in_default.is c.in_ok-root.ensures.root in
    λ least h. none h.root h.is_root

pub returns-clause-exact : goal.returns-clause-exact
returns-clause-exact g c =
    let root : IsOrderRoot c.args.net.now c.args.order.now c.in-Some.root =
    subst (λ (o : Option Bounds). MatchOption o ((root : Bounds) → IsOrderRoot c.args.net.now c.args.order.now root → ⊥) (λ root. IsOrderRoot c.args.net.now c.args.order.now root)) c.in-Some.is c.in_ok-root.ensures.root in
    IfOk-weaker c.least_in.result (IsLeastIn c.args.net.now c.args.order.now c.in-Some.root c.args.text.now) _
    (λ found e. least-so c.args.net.now c.args.order.now c.in-Some.root c.args.text.now root found e) c.least_in.ensures.exact
