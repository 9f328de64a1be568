use Rattle.std.proofs.Common.{subst, sym}
use Rattle.racp_cutset.specs.Records.{IsPacked}
use Rattle.racp_cutset.proofs.Packing.{row_of_record, sooner_rows}
use Rattle.racp_cutset.proofs.nogood.Nogood.is_sooner_than_record.Goals as goal

pub returns : goal.returns
returns g c =
    let own = c.self.inside in
    let rows = c.other.inside in
    let a : IsPacked g.N.OfNetwork.network own.capacities own.upper own.bounds.items own.started own.time c.args.self.now = subst (IsPacked g.N.OfNetwork.network own.capacities own.upper own.bounds.items own.started own.time) c.self.view_is c.self.invariant.1 in
    let b : IsPacked g.N.OfNetwork.network rows.capacities rows.upper rows.bounds.items rows.started rows.time c.args.other.now = subst (IsPacked g.N.OfNetwork.network rows.capacities rows.upper rows.bounds.items rows.started rows.time) c.other.view_is c.other.invariant.1 in
    let first = row_of_record g.N.OfNetwork.network own.capacities own.upper own.bounds.items own.started c.deref.result.now own.time c.args.self.now a c.deref.ensures.value in
    let second = row_of_record g.N.OfNetwork.network rows.capacities rows.upper rows.bounds.items rows.started c.deref-2.result.now rows.time c.args.other.now b c.deref-2.ensures.value in
    let tests = sooner_rows g.N.OfNetwork.network c.args.self.now c.args.other.now c.deref.result.now c.deref-2.result.now rows.time first second (sym b.of_time) c.requires in
    (λ e. tests.0 (c.is_sooner_row.ensures.0 e), λ h. c.is_sooner_row.ensures.1 (tests.1 h))
