use Rattle.std.proofs.Common.{◌≡◌, length}
use Rattle.racp_cutset.proofs.Packing.{tells_rows}
use Rattle.racp_cutset.proofs.nogood.Nogood.has_capacities_of.Goals as goal

pub returns : goal.returns
returns g c =
    let packed = c.self.invariant.1 in
    let own : c.as_slice.result.now ≡ c.args.self.now.capacities = cc (c.as_slice.ensures, c.self.view_is, packed.of_resources) in
    let other : c.as_slice-2.result.now ≡ c.args.node.now.capacities = cc (c.as_slice-2.ensures, c.node.view_is) in
    let places : length c.as_slice.result.now ≡ g.N.OfNetwork.network.resources = cc (c.as_slice.ensures, packed.of_resources, packed.node.resources) in
    tells_rows g.N.OfNetwork.network.resources c.as_slice.result.now c.as_slice-2.result.now c.args.self.now.capacities c.args.node.now.capacities c.is_at_least.result own other places c.is_at_least.ensures
