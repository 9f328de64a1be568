use Rattle.std.proofs.Common.{subst}
use Rattle.racp_cutset.specs.Records.{IsPacked}
use Rattle.racp_cutset.proofs.Nodes.{IsKept}
use Rattle.racp_cutset.proofs.Packing.{cutset_of_node}
use Rattle.racp_cutset.proofs.nogood.Nogood.has_cutset_of.Goals as goal

pub returns : goal.returns
returns g c =
    let own = c.self.inside in
    let rows = c.node.inside in
    let a : IsPacked g.N.OfNetwork.network own.capacities own.upper own.bounds.items own.started own.time c.args.self.now = subst (IsPacked g.N.OfNetwork.network own.capacities own.upper own.bounds.items own.started own.time) c.self.view_is c.self.invariant.1 in
    let k : IsKept g.N.OfNetwork.network c.args.node.now rows.ends.items rows.started rows.bounds.items = subst (λ v. IsKept g.N.OfNetwork.network v rows.ends.items rows.started rows.bounds.items) c.node.view_is c.node.invariant in
    let tests = cutset_of_node g.N.OfNetwork.network own.capacities own.upper own.bounds.items own.started own.time c.args.self.now c.args.node.now rows.ends.items rows.started rows.bounds.items a k c.requires in
    (λ e. tests.0 (c.eq.ensures.same.0 e), λ h. c.eq.ensures.same.1 (tests.1 h))
