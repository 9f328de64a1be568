use Rattle.std.proofs.Common.{List, ℕ, slice_index, subst}
use Rattle.racp_model.specs.Path.{IsEarly}
use Rattle.racp_cutset.proofs.node.Node.new.Goals as goal

pub reusing-requires-clause-early : goal.reusing-requires-clause-early
reusing-requires-clause-early g c =
    subst (λ (xs : List ℕ). IsEarly c.args.net.now (slice_index xs) c.in_ok-early.early) c.lower-2.ensures.bounds c.in_ok-early.ensures
