use Rattle.std.proofs.Common.{ℕ, List, Option, sym, subst}
use Rattle.std.specs.Prelude.{MatchOption}
use Rattle.racp_model.specs.Plan.{NoneIsEnough}
use Rattle.racp_clauses.specs.Roots.{AreNeeded}
use Rattle.racp_by_questions.specs.Stages.{AreFirstEnds}
use Rattle.racp_by_questions.specs.declared.bounds.Ends.{Ends}
use Rattle.racp_lexfix.proofs.FirstFloors.{floors_needed}
use Rattle.racp_lexfix.proofs.roots.root_bounds.Goals as goal

pub returns-in_default : goal.returns-in_default
returns-in_default c =
    subst (λ (o : Option Ends). MatchOption o (NoneIsEnough c.args.net.now c.args.order.now) (AreFirstEnds c.args.net.now c.args.order.now c.args.window.now)) c.in_default.is c.in_ok-ends.ensures

pub root_of-requires-clause-floors : goal.root_of-requires-clause-floors
root_of-requires-clause-floors c =
    let first : AreFirstEnds c.args.net.now c.args.order.now c.args.window.now c.in-Some.ends =
    subst (λ (o : Option Ends). MatchOption o (NoneIsEnough c.args.net.now c.args.order.now) (AreFirstEnds c.args.net.now c.args.order.now c.args.window.now)) c.in-Some.is c.in_ok-ends.ensures in
    let needed = floors_needed c.args.net.now c.args.order.now c.args.window.now c.in-Some.ends first in
    subst (λ (floors : List ℕ). AreNeeded c.args.net.now c.args.order.now floors) (sym c.as_slice.ensures) needed

pub returns : goal.returns
returns c =
    let first : AreFirstEnds c.args.net.now c.args.order.now c.args.window.now c.in-Some.ends =
    subst (λ (o : Option Ends). MatchOption o (NoneIsEnough c.args.net.now c.args.order.now) (AreFirstEnds c.args.net.now c.args.order.now c.args.window.now)) c.in-Some.is c.in_ok-ends.ensures in
    record { is_open = c.in_ok-bounds.ensures.open; floors = first.least }
