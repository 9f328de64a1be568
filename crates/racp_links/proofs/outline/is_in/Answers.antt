use Rattle.std.proofs.Common.{◌∙◌, arith}
use Rattle.racp_links.proofs.Outlines.{settled}
use Rattle.racp_links.proofs.outline.is_in.Goals as goal

pub returns : goal.returns
returns c =
    settled c.args.parents.now c.args.whole c.loop-at.invariant.steps.0 c.loop-at.at c.requires.outline (omega (arith, c.loop-at-test.false))
    ∙ c.loop-at.invariant.steps.2
