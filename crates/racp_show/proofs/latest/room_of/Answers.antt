use Rattle.std.proofs.Common.{◌∙◌, ℕ, List, ap, slice_index, subst}
use Rattle.racp_model.specs.Path.{IsEarly}
use Rattle.racp_model.specs.Terms.{Terms}
use Rattle.racp_show.proofs.latest.room_of.Goals as goal

pub returns : goal.returns
returns c = record {
  latest = c.in_ok-latest.ensures;
  early = subst (λ (xs : List ℕ). IsEarly c.args.net.now (slice_index xs) c.in_ok-early.early) (c.as_slice.ensures.value ∙ ap (λ (t : Terms). t.release) c.order.view_is) c.in_ok-early.ensures;
  late = c.in_ok-late.ensures;
}
