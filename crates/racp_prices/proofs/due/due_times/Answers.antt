use Rattle.std.proofs.Common.{◌≡◌, ◌∙◌, ap, min, rules}
use Rattle.std.proofs.lemmas.Iterator.{YieldsList-from_map, YieldsList-from_slice, items_from_collect}
use Rattle.racp_model.specs.Terms.{Terms}
use Rattle.racp_prices.proofs.due.due_times.Goals as goal

pub returns : goal.returns
returns c =
    let order = c.args.order.now in
    let due : c.deref.result.now ≡ order.due = c.deref.ensures.value ∙ ap (λ (t : Terms). t.due) c.order.view_is in
    let deadline : c.order.inside.deadline ≡ order.deadline = ap (λ (t : Terms). t.deadline) c.order.view_is in
    items_from_collect c.collect.result c.collect.ensures.ran
    (YieldsList-from_map _ (λ time. min time order.deadline) (YieldsList-from_slice order.due cc) c.map.ensures.closure (λ x r q k. search rules))
