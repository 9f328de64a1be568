use Rattle.std.proofs.Common.{◌∙◌, sym}
use Rattle.std.proofs.lemmas.Bool.{MatchBool-at_true, MatchBool-at_false}
use Rattle.racp_derivations.proofs.Splitting.{reading-missing, reading-end, reading-off, reading-on}
use Rattle.racp_derivations.proofs.reading.read_lines.Goals as goal

pub returns-in_default-clause-clauses : goal.returns-in_default-clause-clauses
returns-in_default-clause-clauses g c =
    reading-missing c.args.given.now.net.now c.args.given.now.order.now c.args.checking.now c.args.text.now c.loop.checking c.loop.rest.now c.loop.counter c.loop.invariant c.in_default.ensures

pub returns-then-is_last-clause-clauses : goal.returns-then-is_last-clause-clauses
returns-then-is_last-clause-clauses g c =
    reading-end c.args.given.now.net.now c.args.given.now.order.now c.args.checking.now c.args.text.now c.loop.checking c.loop.rest.now c.loop.counter c.loop.invariant
    c.in-Some.line.now c.in-Some.more.now c.in-Some.ensures (sym c.is_last.ensures ∙ c.if-is_last.true) c.is_empty.result c.is_empty.ensures

pub returns-then-not-branch-clause-clauses : goal.returns-then-not-branch-clause-clauses
returns-then-not-branch-clause-clauses g c =
    reading-off c.args.given.now.net.now c.args.given.now.order.now c.args.checking.now c.args.text.now c.loop.checking c.loop.rest.now c.loop.counter c.loop.invariant
    c.in-Some.line.now c.in-Some.more.now c.in-Some.ensures (sym c.is_last.ensures ∙ c.if-is_last.false) (MatchBool-at_false _ _ c.if-not-branch.true c.in_ok-take_line.ensures)

pub loop-preserved : goal.loop-preserved
loop-preserved g c =
    reading-on c.args.given.now.net.now c.args.given.now.order.now c.args.checking.now c.args.text.now c.loop.checking c.loop.rest.now c.loop.counter c.loop.invariant
    c.in-Some.line.now c.in-Some.more.now c.in-Some.ensures (sym c.is_last.ensures ∙ c.if-is_last.false) c.take_line.new.self (MatchBool-at_true _ _ c.if-not-branch.false c.in_ok-take_line.ensures)
