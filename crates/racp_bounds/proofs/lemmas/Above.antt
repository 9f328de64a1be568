-- Capacities that admit are at or above each lower bound, and so at or above the floors; cut to the roofs they still admit.
use Rattle.std.proofs.Common.{ℕ, ◌<◌, ◌≤◌, inl, inr, List, length, slice_index, arith}
use Rattle.std.proofs.lemmas.Bool.{cases_lt}
use Rattle.racp_model.specs.Project.{Project, duration, request}
use Rattle.racp_model.specs.Schedule.{IsActive, EndsBy, FitsInTime, Admits, use_of, usage, energy}
use Rattle.racp_model.specs.Window.{Bounds, LiesIn, IsRootWindow}
use Rattle.racp_model.proofs.lemmas.Sums.{sum_below-mono, sum_below-bound, sum_below-term}
use Rattle.racp_model.proofs.lemmas.Usage.{use_of-active, usage-roof}
use Rattle.racp_model.proofs.lemmas.CoreTimes.{active_at_core, core_use-use}
use Rattle.racp_model.proofs.lemmas.Cuts.{cut_admitting}
use Rattle.racp_cpm.proofs.lemmas.Roots.{root_in_time}
use Rattle.racp_model.specs.CoreTimes.{core_use}
use Rattle.racp_bounds.specs.Floors.{IsAtBounds, IsFloor, AreRoofs}
use Rattle.racp_bounds.specs.Laws.{CoreIsActive, AdmittingIsAboveFloors, CutToRoofsAdmits, FloorsAreBelowRoofs}
use Rattle.racp_bounds.proofs.Energy.{div_ceil-le}
use Rattle.racp_bounds.proofs.Used.{energy_used}

-- at its core times a job is active in all starts in the window
pub core_active : CoreIsActive
core_active = active_at_core

-- a job that runs for some time uses its request at its start
pub request-used : (p : Project) (starts : List ℕ) (k i : ℕ) → i < length p.jobs → 0 < duration p i → request p i k ≤ usage p starts k (slice_index starts i)
request-used p starts k i l runs =
    let active : IsActive p starts (slice_index starts i) i = record { started = omega arith; runs = omega arith } in
    omega (arith, use_of-active p starts k (slice_index starts i) i active, sum_below-term (length p.jobs) (use_of p starts k (slice_index starts i)) i l)

-- what starts in the window that end by the deadline never exceed is at or above the lower bounds
pub at_bounds : (p : Project) (root : Bounds) (deadline k units : ℕ) (starts : List ℕ) → LiesIn p root starts → EndsBy p (λ _. deadline) starts →
    ((t : ℕ) → usage p starts k t ≤ units) → IsAtBounds p root deadline k units
at_bounds p root deadline k units starts lies ends within = record {
  requests = λ i l runs. omega (arith, request-used p starts k i l runs, within (slice_index starts i));
  energy = λ some. div_ceil-le (energy p k) deadline units some
      (omega (arith, energy_used p starts k deadline ends, sum_below-bound deadline units (usage p starts k) (λ t l. within t)));
  core = λ t. omega (arith, sum_below-mono (length p.jobs) (core_use p root k t) (use_of p starts k t) (λ i l. core_use-use p root starts k t i lies l), within t);
}

-- and so at or above the floor
pub floor-least : (p : Project) (root : Bounds) (deadline k floor units : ℕ) → IsFloor p root deadline k floor → IsAtBounds p root deadline k units → floor ≤ units
floor-least p root deadline k floor units h at = elim (cases_lt units floor) [
  | inl less ↦ absurd (h.least units at less)
  | inr least ↦ least
]

-- capacities that admit are at or above the floors
pub admitting_above : AdmittingIsAboveFloors
admitting_above p release due root deadline floors capacities h by floors_are admits k l =
    let starts = admits.0 in
    let fits : FitsInTime p release due capacities starts = admits.1 in
    let lies : LiesIn p root starts = (root_in_time p release due root starts h fits.places fits.fits.precedence).1 fits.in_time in
    floor-least p root deadline k (slice_index floors k) (slice_index capacities k) (floors_are.each k l)
    (at_bounds p root deadline k (slice_index capacities k) starts lies (λ i m. omega (arith, fits.in_time.ends i m, by i m)) (λ t. fits.fits.within k t l))

-- cut to the roofs, a vector that admits still admits
pub cut_roofs : CutToRoofsAdmits
cut_roofs p release due roofs whole other are h admits = cut_admitting p release due whole other (λ k l. omega (arith, h k l, are.each k l)) admits

-- the roofs admit where there is a root window: the early starts fit them
pub roofs_admit : (p : Project) (release due : ℕ → ℕ) (root : Bounds) (roofs : List ℕ) → IsRootWindow p release due root → AreRoofs p roofs → Admits p release due roofs
roofs_admit p release due root roofs h are = (
  root.lower,
  record {
    places = h.early.places;
    in_time = record { released = h.early.above; ends = h.ends };
    fits = record { precedence = h.early.precedence; within = λ k t l. omega (arith, usage-roof p root.lower k t, are.each k l) };
  },
)

-- so no floor is above its roof
pub below_roofs : FloorsAreBelowRoofs
below_roofs p release due root deadline floors roofs h by floors_are are =
    let admits = roofs_admit p release due root roofs h are in
    (admits, admitting_above p release due root deadline floors roofs h by floors_are admits)
