use Rattle.std.proofs.Common.{◌∙◌, sym, subst}
use Rattle.racp_cutset.specs.Records.{IsPacked}
use Rattle.racp_cutset.proofs.Packing.{upper_of_rows}
use Rattle.racp_cutset.proofs.nogood.Nogood.has_upper_of_record.Goals as goal

pub returns : goal.returns
returns g c =
    let own = c.self.inside in
    let rows = c.other.inside in
    let a : IsPacked g.N.OfNetwork.network own.capacities own.upper own.bounds.items own.started own.time c.args.self.now = subst (IsPacked g.N.OfNetwork.network own.capacities own.upper own.bounds.items own.started own.time) c.self.view_is c.self.invariant.1 in
    let b : IsPacked g.N.OfNetwork.network rows.capacities rows.upper rows.bounds.items rows.started rows.time c.args.other.now = subst (IsPacked g.N.OfNetwork.network rows.capacities rows.upper rows.bounds.items rows.started rows.time) c.other.view_is c.other.invariant.1 in
    let tests = upper_of_rows g.N.OfNetwork.network c.args.self.now c.args.other.now c.as_slice.result.now c.as_slice-2.result.now a.node (c.as_slice.ensures ∙ sym a.of_upper) (c.as_slice-2.ensures ∙ sym b.of_upper) in
    (λ e. tests.0 (c.is_at_least.ensures.0 e), λ h. c.is_at_least.ensures.1 (tests.1 h))
