use Rattle.std.proofs.Common.{◌≡◌, length}
use Rattle.racp_cutset.proofs.Packing.{tells_rows}
use Rattle.racp_cutset.proofs.nogood.Nogood.has_upper_of.Goals as goal

pub returns : goal.returns
returns g c =
    let packed = c.self.invariant.1 in
    let jobs = length g.N.OfNetwork.network.jobs in
    let own : c.as_slice.result.now ≡ c.args.self.now.window.upper = cc (c.as_slice.ensures, c.self.view_is, packed.of_upper) in
    let other : c.upper.result.now ≡ c.args.node.now.window.upper = cc (c.upper.ensures.bounds, c.node.view_is) in
    let places : length c.as_slice.result.now ≡ jobs = cc (c.as_slice.ensures, packed.of_upper, packed.node.upper) in
    tells_rows jobs c.as_slice.result.now c.upper.result.now c.args.self.now.window.upper c.args.node.now.window.upper c.is_at_least.result own other places c.is_at_least.ensures
