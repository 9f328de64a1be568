use Rattle.std.proofs.Common.{◌≡◌, List, [], ℕ, ap, ◌∙◌, subst}
use Rattle.std.proofs.lemmas.Result.{IfOk-weaker}
use Rattle.racp_model.specs.Terms.{Terms}
use Rattle.racp_candidates.specs.Vectors.{terms_of, AreVectorsInOrder}
use Rattle.racp_candidates.proofs.Boxes.{order_by}
use Rattle.racp_candidates.proofs.vectors.frontier_of.Goals as goal

pub returns : goal.returns
returns c =
    let prices : c.in_ok-prices.prices.items ≡ c.args.order.now.prices = c.in_ok-prices.ensures ∙ (c.deref.ensures.value ∙ ap (λ (t : Terms). t.prices) c.order.view_is) in
    let owned : c.in_ok-owned.owned.items ≡ c.args.order.now.owned = c.in_ok-owned.ensures ∙ (c.deref-2.ensures.value ∙ ap (λ (t : Terms). t.owned) c.order.view_is) in
    IfOk-weaker c.new.result
    (λ vectors. AreVectorsInOrder (terms_of c.in_ok-prices.prices.items c.in_ok-owned.owned.items) c.in_ok-floors.floors.items c.into_vec.result.items vectors)
    (λ vectors. AreVectorsInOrder c.args.order.now c.args.floors.now c.args.roofs vectors)
    (λ vectors h.
    let g : AreVectorsInOrder c.args.order.now c.in_ok-floors.floors.items c.into_vec.result.items vectors =
    order_by c.in_ok-floors.floors.items [] c.args.order.now c.in_ok-prices.prices.items c.in_ok-owned.owned.items c.into_vec.result.items vectors prices owned h in
    subst (λ (floors : List ℕ). AreVectorsInOrder c.args.order.now floors c.args.roofs vectors) c.in_ok-floors.ensures
    (subst (λ (roofs : List ℕ). AreVectorsInOrder c.args.order.now c.in_ok-floors.floors.items roofs vectors) c.into_vec.ensures g))
    c.new.ensures
