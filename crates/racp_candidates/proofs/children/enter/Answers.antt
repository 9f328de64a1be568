use Rattle.std.proofs.Common.{◌∙◌, ap}
use Rattle.racp_model.specs.Terms.{cost}
use Rattle.racp_candidates.specs.Vectors.{terms_of}
use Rattle.racp_candidates.proofs.Entered.{entered}
use Rattle.racp_candidates.proofs.children.enter.Goals as goal

pub returns : goal.returns
returns c =
    entered c.args.prices.now c.args.owned.now _ _ _ (c.cost_of-cost.ensures ∙ ap (cost (terms_of c.args.prices.now c.args.owned.now)) c.deref.ensures.value)
    c.in_ok-push.ensures.permutation c.in_ok-push.ensures.heap_order
