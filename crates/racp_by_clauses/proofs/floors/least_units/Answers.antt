use Rattle.std.proofs.Common.{◌≡◌, ℕ, ◌-◌, List, length, ap, arith, subst, sym}
use Rattle.racp_model.specs.Project.{Project}
use Rattle.racp_clauses.specs.Solutions.{Problem, units_place}
use Rattle.racp_clauses.specs.Clauses.{Holds}
use Rattle.racp_clauses.specs.declared.literal.Literal.{Literal}
use Rattle.racp_clauses.specs.declared.literal.Literal.TheVariants.{AtLeast}
use Rattle.racp_by_clauses.specs.Optima.{AreLeastUnits}
use Rattle.racp_by_clauses.proofs.LeastUnits.{clause-units}
use Rattle.racp_by_clauses.proofs.floors.least_units.Goals as goal

pub returns-in-AtLeast : goal.returns-in-AtLeast
returns-in-AtLeast g c =
    let q : Problem = g.P.OfProblem.problem in
    let k : ℕ = c.in-AtLeast.x - c.job_count-jobs.result in
    let jobs : c.job_count-jobs.result ≡ length q.network.jobs = omega (arith, c.job_count-jobs.ensures.count, ap (λ (p : Project). length p.jobs) c.requires.network) in
    let here : c.in-AtLeast.x ≡ units_place q.network k = omega (arith, jobs, c.if-jobs-x.true) in
    let holds : Holds q c.literals-literals.result.now = subst (λ (clause : List Literal). Holds q clause) (sym c.literals-literals.ensures.literals) c.literals-literals.ensures.holds in
    let one : length c.literals-literals.result.now ≡ 1 = omega arith in
    let least : AreLeastUnits q k c.in-AtLeast.least =
    clause-units c.clauses_hold_of_fitting.ensures q c.literals-literals.result.now (AtLeast 0 0) c.in-AtLeast.x k c.in-AtLeast.least c.requires.is_open holds one c.in-AtLeast.is here in
    λ enough e r. omega (arith, least enough e r)
