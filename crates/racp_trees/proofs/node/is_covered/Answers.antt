use Rattle.std.proofs.Common.{[], refl}
use Rattle.racp_trees.specs.Records.{IsRecordOf}
use Rattle.racp_trees.proofs.Covered.{node_at, no_conflict, no_record, row_of, alike, covered_is}
use Rattle.racp_trees.proofs.node.is_covered.Goals as goal

pub returns-in_default : goal.returns-in_default
returns-in_default c upper nodes high are =
    (λ y. absurd (cc y), λ h. absurd (no_conflict c.args.ground.now.net.now c.args.ground.now.capacities.now c.args.node.now.lower.now c.args.node.now.early.now c.args.closed.now c.args.number c.requires.early c.in_default.ensures upper nodes h))

pub returns-in_default-record : goal.returns-in_default-record
returns-in_default-record c upper nodes high are =
    (λ y. absurd (cc y), λ h. absurd (no_record c.args.ground.now.net.now c.args.ground.now.capacities.now c.args.node.now.lower.now c.args.node.now.early.now c.args.closed.now c.args.number c.requires.early c.requires.place c.in_default-record.ensures upper nodes are h))

pub covers-requires : goal.covers-requires
covers-requires c =
    let p = c.args.ground.now.net.now in
    let row : IsRecordOf p (node_at c.args.ground.now.capacities.now c.args.node.now.lower.now [] c.args.node.now.early.now c.in-Some.clash.time) c.in_ok-row.row =
    row_of p c.args.ground.now.capacities.now c.args.node.now.lower.now c.args.node.now.early.now c.args.closed.now c.args.number c.requires.early c.as_slice.result.now c.args.node.now.early.now c.in-Some.clash.time c.in_ok-row.row [] c.as_slice.ensures refl (c.in_ok-row.ensures []) in
    alike p c.args.ground.now.capacities.now c.args.node.now.lower.now c.args.node.now.early.now c.args.closed.now c.args.number c.requires.early c.in-Some-record.by.now c.in_ok-row.row c.in-Some.clash.time [] c.requires.capacities (c.requires.rows c.args.number c.in-Some-record.by.now c.in-Some-record.ensures) row

pub returns : goal.returns
returns c =
    let p = c.args.ground.now.net.now in
    covered_is p c.args.ground.now.capacities.now c.args.node.now.lower.now c.args.node.now.early.now c.args.closed.now c.args.number c.requires.early c.in-Some-record.by.now c.in_ok-row.row c.in-Some.clash.time c.in-Some.clash.active c.covers.result
    c.requires.capacities c.requires.lower c.in-Some.ensures c.in-Some-record.ensures c.covers.ensures
    (λ upper. row_of p c.args.ground.now.capacities.now c.args.node.now.lower.now c.args.node.now.early.now c.args.closed.now c.args.number c.requires.early c.as_slice.result.now c.args.node.now.early.now c.in-Some.clash.time c.in_ok-row.row upper c.as_slice.ensures refl (c.in_ok-row.ensures upper))
