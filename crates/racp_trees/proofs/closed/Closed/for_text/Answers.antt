use Rattle.std.proofs.Common.{arith, subst}
use Rattle.racp_trees.specs.Reading.{IsNamedAt}
use Rattle.racp_trees.proofs.Naming.{scanning_put, scanning_pass, scanning_end}
use Rattle.racp_trees.proofs.closed.Closed.for_text.Goals as goal
use Rattle.racp_trees.proofs.closed.Closed.for_text.Goals.{in-Some+in_ok-add_place, in_default}

pub loop-at-preserved : goal.loop-at-preserved
loop-at-preserved c = elim c.match-named_at.branch [
  | in-Some+in_ok-add_place w ↦ rw w.records-is
      (scanning_put c.args.text.now c.loop-at.at c.loop-at.records _ c.loop-at.invariant w.in-Some.node (subst (λ found. IsNamedAt c.args.text.now c.loop-at.at found) w.in-Some.is c.named_at.ensures) w.in_ok-add_place.ensures)
  | in_default w ↦ rw w.records-is (scanning_pass c.args.text.now c.loop-at.at c.loop-at.records c.loop-at.invariant (subst (λ found. IsNamedAt c.args.text.now c.loop-at.at found) w.in_default.is c.named_at.ensures))
]

pub returns : goal.returns
returns c = record { named = λ node is. scanning_end c.args.text.now c.loop-at.at c.loop-at.records node c.loop-at.invariant (omega (arith, c.loop-at-test.false)) is; empty = λ node kept. c.loop-at.invariant.empty node kept }
