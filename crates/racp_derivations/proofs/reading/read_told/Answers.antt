use Rattle.std.proofs.Common.{◌∙◌, sym}
use Rattle.std.proofs.lemmas.Bool.{MatchBool-at_true, MatchBool-at_false}
use Rattle.racp_derivations.proofs.TellingBounds.{told-missing, told-off, told-on, told-none}
use Rattle.racp_derivations.proofs.reading.read_told.Goals as goal

pub returns-in_default-clause-bounded : goal.returns-in_default-clause-bounded
returns-in_default-clause-bounded g c = told-missing c.args.given.now.net.now c.args.given.now.order.now c.args.checking.now c.args.text.now c.in_default.ensures

pub returns-in_default-least_on-clause-bounded : goal.returns-in_default-least_on-clause-bounded
returns-in_default-least_on-clause-bounded g c =
    told-off c.args.given.now.net.now c.args.given.now.order.now c.args.checking.now c.args.text.now c.in-Some.line.now c.in-Some.rest.now c.in-Some.ensures (sym c.least_on.ensures ∙ c.in_default-least_on.is)

pub returns-then-branch-clause-bounded : goal.returns-then-branch-clause-bounded
returns-then-branch-clause-bounded g c =
    told-on c.args.given.now.net.now c.args.given.now.order.now c.args.checking.now c.args.text.now c.in-Some.line.now c.in-Some.rest.now c.in-Some.ensures
    c.in-Some-least_on.least (sym c.least_on.ensures ∙ c.in-Some-least_on.is) c.read_lines.new.checking.clauses (MatchBool-at_true _ _ c.if-branch.true c.in_ok-read_lines.ensures.clauses)

pub returns-clause-bounded : goal.returns-clause-bounded
returns-clause-bounded g c =
    told-none c.args.given.now.net.now c.args.given.now.order.now c.args.checking.now c.args.text.now c.in-Some.line.now c.in-Some.rest.now c.in-Some.ensures
    c.in-Some-least_on.least (sym c.least_on.ensures ∙ c.in-Some-least_on.is) (MatchBool-at_false _ _ c.if-branch.false c.in_ok-read_lines.ensures.clauses)
