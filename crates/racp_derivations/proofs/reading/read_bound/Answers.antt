use Rattle.std.proofs.Common.{◌≡◌, ◌∙◌, sym, subst}
use Rattle.std.specs.Prelude.{Option, Some, None, IfOk, MatchOption}
use Rattle.racp_derivations.specs.BoundTexts.{Bounded, told_bound}
use Rattle.racp_derivations.proofs.TellingBounds.{bound-missing, bound-on, bound-off}
use Rattle.racp_derivations.proofs.reading.read_bound.Goals as goal

pub returns-in_default-clause-bounded : goal.returns-in_default-clause-bounded
returns-in_default-clause-bounded g c = bound-missing c.args.given.now.net.now c.args.given.now.order.now c.args.checking.now c.args.text.now c.in_default.ensures

pub returns-then-not-is_head-clause-bounded : goal.returns-then-not-is_head-clause-bounded
returns-then-not-is_head-clause-bounded g c =
    bound-off c.args.given.now.net.now c.args.given.now.order.now c.args.checking.now c.args.text.now c.in-Some.first.now c.in-Some.rest.now c.in-Some.ensures (sym c.is_head.ensures ∙ c.if-not-is_head.true)

pub returns-clause-bounded : goal.returns-clause-bounded
returns-clause-bounded g c =
    subst (λ (o : Option Bounded). IfOk c.read_told.result (λ found. MatchOption found (o ≡ None) (λ least. o ≡ Some (told_bound least c.read_told.new.checking.clauses))))
    (bound-on c.args.given.now.net.now c.args.given.now.order.now c.args.checking.now c.args.text.now c.in-Some.first.now c.in-Some.rest.now c.in-Some.ensures (sym c.is_head.ensures ∙ c.if-not-is_head.false))
    c.read_told.ensures.bounded
