use Rattle.std.proofs.Common.{ap, subst}
use Rattle.racp_cutset.specs.Covering.{SearchNode}
use Rattle.racp_cutset.specs.Records.{IsPacked}
use Rattle.racp_cutset.proofs.Nodes.{IsKept}
use Rattle.racp_cutset.proofs.Packing.{row_of_record, row_of_node, sooner_rows}
use Rattle.racp_cutset.proofs.nogood.Nogood.is_sooner_than.Goals as goal

pub returns : goal.returns
returns g c =
    let own = c.self.inside in
    let rows = c.node.inside in
    let a : IsPacked g.N.OfNetwork.network own.capacities own.upper own.bounds.items own.started own.time c.args.self.now = subst (IsPacked g.N.OfNetwork.network own.capacities own.upper own.bounds.items own.started own.time) c.self.view_is c.self.invariant.1 in
    let k : IsKept g.N.OfNetwork.network c.args.node.now rows.ends.items rows.started rows.bounds.items = subst (λ v. IsKept g.N.OfNetwork.network v rows.ends.items rows.started rows.bounds.items) c.node.view_is c.node.invariant in
    let first = row_of_record g.N.OfNetwork.network own.capacities own.upper own.bounds.items own.started c.deref.result.now own.time c.args.self.now a c.deref.ensures.value in
    let second = row_of_node g.N.OfNetwork.network c.args.node.now rows.ends.items rows.started rows.bounds.items c.deref-2.result.now k c.deref-2.ensures.value in
    let tests = sooner_rows g.N.OfNetwork.network c.args.self.now c.args.node.now c.deref.result.now c.deref-2.result.now rows.time first second (ap (λ (v : SearchNode). v.time) c.node.view_is) c.requires in
    (λ e. tests.0 (c.is_sooner_row.ensures.0 e), λ h. c.is_sooner_row.ensures.1 (tests.1 h))
