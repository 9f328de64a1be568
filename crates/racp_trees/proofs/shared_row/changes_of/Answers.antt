use Rattle.std.proofs.Common.{◌+◌, List, refl, subst, sym, arith}
use Rattle.racp_trees.proofs.Changing.{AreChanges, changes_more, changes_all}
use Rattle.racp_trees.specs.declared.shared_row.Change.{Change}
use Rattle.racp_trees.proofs.shared_row.changes_of.Goals as goal

pub loop-i-preserved : goal.loop-i-preserved
loop-i-preserved c =
    subst (λ (changes : List Change). AreChanges c.args.from.now c.args.to.now (c.loop-i.i + 1) changes) (sym c.in_ok-push.ensures.items)
    (changes_more c.args.from.now c.args.to.now c.loop-i.i c.loop-i.changes.items _ c.loop-i.invariant c.loop-i-test.true refl refl)

pub returns : goal.returns
returns c = changes_all c.args.from.now c.args.to.now c.loop-i.i c.loop-i.changes.items c.loop-i.invariant (omega (arith, c.loop-i-test.false))
