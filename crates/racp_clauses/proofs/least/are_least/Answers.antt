use Rattle.std.proofs.Common.{◌+◌, arith, rules, subst, sym, refl}
use Rattle.racp_clauses.specs.Least.{AreLeast}
use Rattle.racp_clauses.proofs.Showing.{AreShown, shown-first, shown-root, shown-clause}
use Rattle.racp_clauses.proofs.Stepping.{IsReady}
use Rattle.racp_clauses.proofs.least.are_least.Goals.{then-lower-row+in-Some, else-lower-row}
use Rattle.racp_clauses.proofs.least.are_least.Goals as goal

pub loop-t-init : goal.loop-t-init
loop-t-init g c =
    let least : AreLeast g.N.OfProblem.problem 0 c.args.row.now = λ x l m. absurd (omega (arith, m)) in
    let ready : IsReady c.args.net.now c.args.root.now c.args.row.now c.args.turns c.args.clauses.now 0 0 = λ all s l m. omega arith in
    (least, ready, shown-first c.args.net.now c.args.root.now c.args.row.now c.args.clauses.now 0 refl)

pub loop-t-preserved : goal.loop-t-preserved
loop-t-preserved g c =
    let least : AreLeast g.N.OfProblem.problem (c.loop-t.t + 1) c.args.row.now = search rules in
    let ready : IsReady c.args.net.now c.args.root.now c.args.row.now c.args.turns c.args.clauses.now (c.loop-t.t + 1) c.if-lower-row.next = search rules in
    let shown : AreShown c.args.net.now c.args.root.now c.args.row.now c.args.clauses.now (c.loop-t.t + 1) c.if-lower-row.next =
    elim c.if-lower-row.branch [
      | then-lower-row+in-Some w ↦
          subst (AreShown c.args.net.now c.args.root.now c.args.row.now c.args.clauses.now (c.loop-t.t + 1)) (sym w.next-is)
          (shown-clause c.args.net.now c.args.root.now c.args.row.now c.args.clauses.now c.loop-t.t c.loop-t.next c.loop-t.invariant.2 c.place_at-x.result c.place_at-x.ensures w.in-Some.at w.in-Some.ensures.out)
      | else-lower-row w ↦
          subst (AreShown c.args.net.now c.args.root.now c.args.row.now c.args.clauses.now (c.loop-t.t + 1)) (sym w.next-is)
          (shown-root c.args.net.now c.args.root.now c.args.row.now c.args.clauses.now c.loop-t.t c.loop-t.next c.loop-t.invariant.2 c.place_at-x.result c.place_at-x.ensures (omega (arith, w.if-lower-row.false, c.lower.ensures.bound)))
    ] in
    (least, ready, shown)
