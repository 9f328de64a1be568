use Rattle.std.proofs.Common.{◌∙◌, ap, arith}
use Rattle.racp_tables.specs.Assigned.{told, units_for}
use Rattle.racp_tables.specs.declared.assigned.Assigned.{Assigned}
use Rattle.racp_tables.proofs.Shares.{named_more}
use Rattle.racp_tables.proofs.assigned.units_named.Goals as goal

pub loop-other-preserved : goal.loop-other-preserved
loop-other-preserved c =
    c.saturating_add-sum.ensures
    ∙ named_more c.args.assigned.now c.loop-other.other-index c.other-item.result c.args.name.now c.loop-other.sum c.units_for.result (omega arith) c.loop-other.invariant
    (c.units_for.ensures ∙ ap (λ (a : Assigned). units_for c.args.name.now (told a)) c.other-item.is)
