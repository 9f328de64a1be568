use Rattle.std.proofs.Common.{◌≡◌, ◌∙◌, ℕ, ◌*◌, ◌-◌, ◌<◌, ap, arith, length, rules, slice_index, sym}
use Rattle.std.proofs.lemmas.List.{get_or_read_under}
use Rattle.racp_model.specs.Terms.{Terms}
use Rattle.racp_model.proofs.lemmas.Sums.{sum_below-step}
use Rattle.racp_prices.proofs.cost.cost_of.Goals as goal

pub loop-k-preserved : goal.loop-k-preserved
loop-k-preserved c =
    let order = c.order.inside in
    let k : ℕ = c.loop-k.k in
    let resources : ℕ = c.args.net.now.resources in
    let resource : k < resources = omega (arith, c.loop-k-test.true, c.resource_count-k-end.ensures.count) in
    let price : c.index.result.now ≡ slice_index order.prices.items k = get_or_read_under order.prices.items k resources c.index.result.now 0 c.index.ensures resource (sym (ap (λ (t : Terms). length t.prices) c.order.view_is ∙ c.requires.terms.price_places)) in
    let owned : c.index-in-loop-k.result.now ≡ slice_index order.owned.items k = get_or_read_under order.owned.items k resources c.index-in-loop-k.result.now 0 c.index-in-loop-k.ensures resource (sym (ap (λ (t : Terms). length t.owned) c.order.view_is ∙ c.requires.terms.owned_places)) in
    let term : ℕ → ℕ = λ k. slice_index order.prices.items k * (slice_index c.args.capacities.now k - slice_index order.owned.items k) in
    let more : c.index.result.now * c.saturating_sub.result ≡ term k = cc (price, owned, c.saturating_sub.ensures) in
    record { sum = omega (arith, c.loop-k.invariant.sum, more, sum_below-step k term); small = search rules }
