-- A child's lower bounds are higher than its window's.
use Rattle.std.proofs.Common.{◌≡◌, ◌≢◌, ℕ, ◌+◌, ◌<◌, ◌≤◌, List, [], ◌∷◌, length, slice_index, arith, refl, ap, subst, Contains, max}
use Rattle.racp_model.specs.Project.{Project, duration, number, place}
use Rattle.racp_model.specs.Schedule.{sum_below}
use Rattle.racp_model.proofs.lemmas.Sums.{sum_below-lt}
use Rattle.racp_model.proofs.lemmas.Relations.{member_first}
use Rattle.racp_delay.specs.Alternatives.{Splits, load, IsMinimalDelayingAlternative}
use Rattle.racp_delay.specs.Found.{Each}
use Rattle.racp_delay.specs.Branching.{IsConflict}
use Rattle.racp_delay.specs.Laws.{ChildIsHigher, SomeJobGoes}
use Rattle.racp_delay.proofs.Each.{each-member}
use Rattle.racp_delay.proofs.Splitting.{each-kept, each-gone, all_stay}
use Rattle.racp_delay.proofs.ActiveLoads.{IsActiveJob, each-active, load_is_usage}
use Rattle.racp_delay.proofs.Branching.{child_inside}

-- some job goes
pub some_goes : (p : Project) (capacities early : List ℕ) (t : ℕ) (active gone kept : List ℕ) → IsConflict p capacities early t active → Splits active gone kept → IsMinimalDelayingAlternative p capacities active gone → gone ≢ []
some_goes p capacities early t active gone kept conflict s m e =
    let d = m.delays in
    let P : List ℕ → Type 0 = λ x. Splits active x d.0 in
    let all : d.0 ≡ active = all_stay (subst P e d.1) in
    let k : ℕ = conflict.first.exceeds.0 in
    let fits : load p k d.0 ≤ slice_index capacities k = d.2 k conflict.first.exceeds.1 in
    omega (arith, conflict.first.exceeds.2, load_is_usage p early t k active conflict.set, ap (load p k) all)

-- the sum of a child's lower bounds is greater
pub child_higher : ChildIsHigher
child_higher p capacities window early t active gone kept child is_early conflict s some c =
    let runs : Each (IsActiveJob p early t) active = each-active p early t active conflict.set in
    let first = c.first.some in
    let ends : IsActiveJob p early t first.0 = each-member (IsActiveJob p early t) kept first.0 (each-kept (IsActiveJob p early t) s runs) first.1 in
    let goes_on : t < slice_index early (place first.0) + duration p (place first.0) = ends.1.runs in
    let later : t < c.end = omega (arith, first.2) in
    at_head gone some (each-gone (IsActiveJob p early t) s runs) later c.raised
  where
    at_head : (jobs : List ℕ) → jobs ≢ [] → Each (IsActiveJob p early t) jobs → t < c.end
        → ((i : ℕ) → i < length p.jobs → Contains jobs (number i) → slice_index child.lower i ≡ max (slice_index window.lower i) c.end)
        → sum_below (length p.jobs) (slice_index window.lower) < sum_below (length p.jobs) (slice_index child.lower)
    at_head [] some h l f = absurd (some refl)
    at_head (job ∷ jobs) some h l f =
        let i : ℕ = place job in
        let job_is : job ≡ number i = omega (arith, h.0.0.0) in
        let within : i < length p.jobs = omega (arith, h.0.0.0, h.0.0.1) in
        let started : slice_index early i ≤ t = h.0.1.started in
        let bound : slice_index window.lower i ≤ slice_index early i = is_early.above i within in
        let up : slice_index child.lower i ≡ max (slice_index window.lower i) c.end = f i within (member_first job jobs (number i) job_is) in
        sum_below-lt (length p.jobs) (slice_index window.lower) (slice_index child.lower) i (child_inside p early window gone kept child c).lower within (omega arith)

pub some_job_goes : SomeJobGoes
some_job_goes p capacities early t active gone conflict m = some_goes p capacities early t active gone m.delays.0 conflict m.delays.1 m
