use Rattle.std.proofs.Common.{◌≡◌, ◌∙◌, sym, subst, List}
use Rattle.std.specs.Prelude.{Option, Some, None, IfOk, MatchBool}
use Rattle.racp_clauses.specs.declared.literal.Literal.{Literal}
use Rattle.racp_derivations.proofs.Splitting.{head-missing, head-on, head-off}
use Rattle.racp_derivations.proofs.reading.read_text.Goals as goal

pub returns-in_default-clause-clauses : goal.returns-in_default-clause-clauses
returns-in_default-clause-clauses g c = head-missing c.args.given.now.net.now c.args.given.now.order.now c.args.checking.now c.args.text.now c.in_default.ensures

pub returns-then-not-is_head-clause-clauses : goal.returns-then-not-is_head-clause-clauses
returns-then-not-is_head-clause-clauses g c =
    head-off c.args.given.now.net.now c.args.given.now.order.now c.args.checking.now c.args.text.now c.in-Some.first.now c.in-Some.rest.now c.in-Some.ensures (sym c.is_head.ensures ∙ c.if-not-is_head.true)

pub returns-clause-clauses : goal.returns-clause-clauses
returns-clause-clauses g c =
    subst (λ (o : Option (List (List Literal))). IfOk c.read_lines.result (λ yes. MatchBool yes (o ≡ Some c.read_lines.new.checking.clauses) (o ≡ None)))
    (head-on c.args.given.now.net.now c.args.given.now.order.now c.args.checking.now c.args.text.now c.in-Some.first.now c.in-Some.rest.now c.in-Some.ensures (sym c.is_head.ensures ∙ c.if-not-is_head.false))
    c.read_lines.ensures.clauses
