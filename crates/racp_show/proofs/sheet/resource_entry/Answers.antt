use Rattle.std.proofs.Common.{◌∙◌, ℕ, ◌+◌, List, ap, refl, slice_index, subst}
use Rattle.racp_show.specs.Called.{name_at}
use Rattle.racp_show.specs.Uses.{AreSteps}
use Rattle.racp_show.proofs.sheet.resource_entry.Goals as goal

pub returns : goal.returns
returns c = record {
  numbered = refl;
  called = c.resource-name.ensures ∙ ap (λ (n : ℕ). name_at c.args.names.now (n + c.args.k)) c.job_count.ensures.count;
  priced = c.price_of-price.ensures;
  owned_is = c.owned_of-owned.ensures;
  units = ap (λ (units : List ℕ). slice_index units c.args.k) c.as_slice-2.ensures;
  used = subst (λ (starts : List ℕ). AreSteps c.args.net.now starts c.args.k c.in_ok-usage.usage.items) c.as_slice.ensures c.in_ok-usage.ensures;
}
