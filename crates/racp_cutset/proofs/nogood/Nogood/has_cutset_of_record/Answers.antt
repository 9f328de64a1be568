use Rattle.std.proofs.Common.{subst}
use Rattle.racp_cutset.specs.Records.{IsPacked}
use Rattle.racp_cutset.proofs.Packing.{cutset_of_record}
use Rattle.racp_cutset.proofs.nogood.Nogood.has_cutset_of_record.Goals as goal

pub returns : goal.returns
returns g c =
    let own = c.self.inside in
    let rows = c.other.inside in
    let a : IsPacked g.N.OfNetwork.network own.capacities own.upper own.bounds.items own.started own.time c.args.self.now = subst (IsPacked g.N.OfNetwork.network own.capacities own.upper own.bounds.items own.started own.time) c.self.view_is c.self.invariant.1 in
    let b : IsPacked g.N.OfNetwork.network rows.capacities rows.upper rows.bounds.items rows.started rows.time c.args.other.now = subst (IsPacked g.N.OfNetwork.network rows.capacities rows.upper rows.bounds.items rows.started rows.time) c.other.view_is c.other.invariant.1 in
    let tests = cutset_of_record g.N.OfNetwork.network own.capacities own.upper own.bounds.items own.started rows.capacities rows.upper rows.bounds.items rows.started own.time rows.time c.args.self.now c.args.other.now a b c.requires in
    (λ e. tests.0 (c.eq.ensures.same.0 e), λ h. c.eq.ensures.same.1 (tests.1 h))
