use Rattle.std.proofs.Common.{List, ℕ, Vec, Option, subst}
use Rattle.std.specs.Global.{Global}
use Rattle.racp_trees.specs.Enough.{AreEnoughBlocks, IsGapAnswer}
use Rattle.racp_trees.proofs.Gathering.{added_so, certifying_first, certifying_more, certifying_ends}
use Rattle.racp_trees.proofs.certifying.push_blocks.Goals as goal

pub loop-init : goal.loop-init
loop-init g c =
    certifying_first c.args.given.now.claim.net.now c.args.given.now.root.now c.new-blocks.result.items c.args.text.now.items c.args.maker.now.reader c.new-blocks.ensures.items c.requires.begun c.requires.number c.requires.closed c.requires.branches

pub returns-in_default : goal.returns-in_default
returns-in_default g c =
    let enough : AreEnoughBlocks c.args.given.now.claim.net.now c.args.given.now.claim.order.now c.args.given.now.claim.roofs.now c.args.given.now.claim.capacities.now c.loop.blocks.items =
    subst (λ (bs : List (Vec ℕ Global)). AreEnoughBlocks c.args.given.now.claim.net.now c.args.given.now.claim.order.now c.args.given.now.claim.roofs.now c.args.given.now.claim.capacities.now bs) c.deref.ensures.value
    (subst (λ (o : Option (Vec ℕ Global)). IsGapAnswer c.args.given.now.claim c.deref.result.now o) c.in_default.is c.in-Ok.ensures.gap) in
    added_so c.push_end.result (λ written. certifying_ends c.args.given.now.claim.net.now c.args.given.now.root.now c.loop.blocks.items c.loop.text.items c.loop.maker.reader c.loop.invariant c.args.given.now.claim.order.now c.args.given.now.claim.roofs.now c.args.given.now.claim.capacities.now c.push_end.new.text.items
    c.requires.given.root c.requires.given.roofs enough written) c.push_end.ensures

pub loop-preserved : goal.loop-preserved
loop-preserved g c =
    let added = c.in_ok-push_next.ensures c.if-not-branch.false in
    certifying_more c.args.given.now.claim.net.now c.args.given.now.root.now c.loop.blocks.items c.loop.text.items c.loop.maker.reader c.loop.invariant added.block c.push_next.new.text.items c.push_next.new.maker.reader c.push_next.new.blocks.items
    added.behind added.places added.made
