use Rattle.std.proofs.Common.{◌∙◌, ap}
use Rattle.racp_cutset.specs.Covering.{SearchNode}
use Rattle.racp_cutset.specs.Records.{settled}
use Rattle.racp_cutset.proofs.Packing.{record_of, recorded, told_is, told_covers}
use Rattle.racp_cutset.proofs.nogood.Nogood.of_reusing.Goals as goal

pub invariant_of-nogood-inside : goal.invariant_of-nogood-inside
invariant_of-nogood-inside g c =
    let own = c.node.inside in
    let v : SearchNode = record { capacities = own.question.capacities; window = own.question.window; early = own.early; time = own.time } in
    let r = record_of g.N.OfNetwork.network v c.args.node own.ends.items own.started own.bounds.items c.trimmed.result c.into_bounds-lower.result.1 c.node.view_is c.node.invariant c.trimmed.ensures c.into_bounds-lower.ensures.upper c.requires.fits c.requires.refuted in
    ((settled g.N.OfNetwork.network v, ∣ r.1 ∣₁), tt)

pub invariant_of-nogood : goal.invariant_of-nogood
invariant_of-nogood g c =
    let own = c.node.inside in
    let v : SearchNode = record { capacities = own.question.capacities; window = own.question.window; early = own.early; time = own.time } in
    let r = record_of g.N.OfNetwork.network v c.args.node own.ends.items own.started own.bounds.items c.trimmed.result c.into_bounds-lower.result.1 c.node.view_is c.node.invariant c.trimmed.ensures c.into_bounds-lower.ensures.upper c.requires.fits c.requires.refuted in
    recorded g.N.OfNetwork.network c.trimmed.result c.into_bounds-lower.result.1 own.bounds.items own.started v.time c.nogood-2-1.given.0 (settled g.N.OfNetwork.network v) r.0 r.1 r.2

pub returns-clause-record : goal.returns-clause-record
returns-clause-record g c =
    let own = c.node.inside in
    let v : SearchNode = record { capacities = own.question.capacities; window = own.question.window; early = own.early; time = own.time } in
    let r = record_of g.N.OfNetwork.network v c.args.node own.ends.items own.started own.bounds.items c.trimmed.result c.into_bounds-lower.result.1 c.node.view_is c.node.invariant c.trimmed.ensures c.into_bounds-lower.ensures.upper c.requires.fits c.requires.refuted in
    told_is g.N.OfNetwork.network c.trimmed.result c.into_bounds-lower.result.1 own.bounds.items own.started v.time c.nogood-2-1.given.0 (settled g.N.OfNetwork.network v) r.1 ∙ ap (settled g.N.OfNetwork.network) c.node.view_is

pub returns-clause-covers : goal.returns-clause-covers
returns-clause-covers g c =
    let own = c.node.inside in
    let v : SearchNode = record { capacities = own.question.capacities; window = own.question.window; early = own.early; time = own.time } in
    let r = record_of g.N.OfNetwork.network v c.args.node own.ends.items own.started own.bounds.items c.trimmed.result c.into_bounds-lower.result.1 c.node.view_is c.node.invariant c.trimmed.ensures c.into_bounds-lower.ensures.upper c.requires.fits c.requires.refuted in
    told_covers g.N.OfNetwork.network c.trimmed.result c.into_bounds-lower.result.1 own.bounds.items own.started v.time c.nogood-2-1.given.0 v c.args.node r.1 c.node.view_is
