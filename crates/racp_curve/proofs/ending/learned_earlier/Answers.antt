use Rattle.std.proofs.Common.{subst}
use Rattle.racp_model.specs.Terms.{Terms}
use Rattle.racp_model.specs.Plan.{NoneIsEnough}
use Rattle.racp_drafts.specs.Drafts.{IsDraft}
use Rattle.racp_by_clauses.specs.Optima.{IsFeasible}
use Rattle.racp_by_clauses.specs.declared.feasible.Feasible.{Feasible}
use Rattle.racp_by_clauses.specs.declared.feasible.Feasible.TheVariants.{Fits, NoneFits}
use Rattle.racp_curve.specs.Curves.{order_by}
use Rattle.racp_curve.specs.Following.{order_within}
use Rattle.racp_curve.proofs.Ceilings.{draft_sooner, none_within}
use Rattle.racp_curve.proofs.ending.learned_earlier.Goals as goal

pub returns-in-Fits : goal.returns-in-Fits
returns-in-Fits g c =
    let p = c.args.ground.now.net.now in
    let terms = c.args.ground.now.order.now in
    let found : IsFeasible p c.in_ok-other.other (Fits c.in-Fits.draft) = subst (λ (f : Feasible). IsFeasible p c.in_ok-other.other f) c.in-Fits.is c.in_ok-draft.ensures in
    let is : IsDraft p (order_within c.args.capacities.now (order_by c.args.deadline terms)) c.in-Fits.draft = subst (λ (t : Terms). IsDraft p t c.in-Fits.draft) c.in_ok-other.ensures found in
    draft_sooner p terms c.args.deadline c.args.capacities.now c.in-Fits.draft c.end_of.result is c.requires.places c.requires.ceilings c.end_of.ensures.within c.end_of.ensures.ends

pub returns-in-NoneFits : goal.returns-in-NoneFits
returns-in-NoneFits g c =
    let p = c.args.ground.now.net.now in
    let terms = c.args.ground.now.order.now in
    let found : IsFeasible p c.in_ok-other.other NoneFits = subst (λ (f : Feasible). IsFeasible p c.in_ok-other.other f) c.in-NoneFits.is c.in_ok-draft.ensures in
    let none : NoneIsEnough p (order_within c.args.capacities.now (order_by c.args.deadline terms)) = subst (λ (t : Terms). NoneIsEnough p t) c.in_ok-other.ensures found in
    none_within p terms c.args.deadline c.args.capacities.now none
