use Rattle.std.proofs.Common.{ℕ, List, length, refl, subst}
use Rattle.racp_trees.specs.Records.{AreWaits, AreTold, IsRecordOf}
use Rattle.racp_trees.specs.declared.record.Record.{Record}
use Rattle.racp_trees.proofs.Covered.{node_at}
use Rattle.racp_trees.proofs.Waiting.{record-told}
use Rattle.racp_trees.proofs.record.Record.new.Goals as goal

pub returns : goal.returns
returns c upper =
    let bounds : List ℕ = c.in_ok-bounds.bounds.items in
    let waits : AreWaits bounds c.args.time (length bounds) c.in_ok-waits.waits.items =
    subst (λ (xs : List ℕ). AreWaits xs c.args.time (length xs) c.in_ok-waits.waits.items) c.deref.ensures.value c.in_ok-waits.ensures in
    let told : AreTold bounds c.in_ok-waits.waits.items c.in_ok-far.far.value.items =
    subst (λ (xs : List ℕ). AreTold bounds xs c.in_ok-far.far.value.items) c.deref-2.ensures.value c.in_ok-far.ensures in
    let row : Record = record { capacities = c.in_ok-capacities.capacities; started = c.started_before.result; time = c.args.time; waits = c.in_ok-waits.waits; far = c.in_ok-far.far } in
    let node = λ (early : List ℕ). node_at c.args.capacities.now c.args.node.now.lower.now upper early c.args.time in
    subst (λ (early : List ℕ). IsRecordOf c.args.net.now (node early) row) c.as_slice-early.ensures
    (record-told c.args.net.now (node c.as_slice-early.result.now) row bounds c.in_ok-capacities.ensures refl c.started_before.ensures c.in_ok-bounds.ensures.bounds waits told)
