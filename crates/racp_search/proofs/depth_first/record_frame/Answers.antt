use Rattle.std.proofs.Common.{sym, subst}
use Rattle.racp_model.specs.Window.{IsNo}
use Rattle.racp_cutset.specs.Covering.{SearchNode}
use Rattle.racp_search.proofs.depth_first.record_frame.Goals as goal

pub of_reusing-nogood-requires-clause-refuted : goal.of_reusing-nogood-requires-clause-refuted
of_reusing-nogood-requires-clause-refuted g c =
    subst (λ (v : SearchNode). IsNo g.N.OfNetwork.network v.capacities v.window) (sym c.into_parts-node.ensures.node) c.requires

pub returns : goal.returns
returns g c = record { node = c.of_reusing-nogood.result.0; step = c.keep.ensures }
