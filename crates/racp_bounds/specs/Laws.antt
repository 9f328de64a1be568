-- Laws of floors and roofs. Each is the contract of a public function.
use Rattle.std.specs.Prelude.{◌≡◌, ℕ, ◌<◌, ◌≤◌, min, List, length, slice_index}
use Rattle.racp_model.specs.Project.{Project}
use Rattle.racp_model.specs.Schedule.{IsActive, EndsBy, Admits, sum_below, usage, energy}
use Rattle.racp_model.specs.Terms.{Terms, AreTermsOf, release_of, due_of, IsBefore}
use Rattle.racp_model.specs.Plan.{IsLeast, IsEnough}
use Rattle.racp_model.specs.Window.{Bounds, LiesIn, IsRootWindow}
use Rattle.racp_prices.specs.Units.{AreMostUnits}
use Rattle.racp_candidates.specs.Box.{IsInBox}
use Rattle.racp_model.specs.CoreTimes.{IsCoreTime}
use Rattle.racp_bounds.specs.Floors.{AreFloors, AreRoofs}
use Rattle.racp_bounds.specs.Sharp.{AreSharpened, AreRefutedPairs, AreSharpenedBefore}

-- over all times before the deadline, starts that end by it use the energy
abbrev pub EnergyIsUsed : Type 0
EnergyIsUsed =
    (p : Project) (starts : List ℕ) (k deadline : ℕ) → EndsBy p (λ _. deadline) starts →
    sum_below deadline (usage p starts k) ≡ energy p k

-- at its core times a job is active in all starts in the window
abbrev pub CoreIsActive : Type 0
CoreIsActive =
    (p : Project) (root : Bounds) (starts : List ℕ) (t i : ℕ) → LiesIn p root starts → i < length p.jobs →
    IsCoreTime p root t i →
    IsActive p starts t i

-- each vector that admits is at or above the floors
abbrev pub AdmittingIsAboveFloors : Type 0
AdmittingIsAboveFloors =
    (p : Project) (release due : ℕ → ℕ) (root : Bounds) (deadline : ℕ) (floors capacities : List ℕ) →
    IsRootWindow p release due root → ((i : ℕ) → i < length p.jobs → due i ≤ deadline) →
    AreFloors p root deadline floors →
    Admits p release due capacities → (k : ℕ) → k < p.resources → slice_index floors k ≤ slice_index capacities k

-- cut to the roofs, a vector that admits still admits
abbrev pub CutToRoofsAdmits : Type 0
CutToRoofsAdmits =
    (p : Project) (release due : ℕ → ℕ) (roofs whole cut : List ℕ) → AreRoofs p roofs →
    ((k : ℕ) → k < p.resources → slice_index cut k ≡ min (slice_index whole k) (slice_index roofs k)) →
    Admits p release due whole → Admits p release due cut

-- if there is a root window, the roofs admit, so no floor is above its roof
abbrev pub FloorsAreBelowRoofs : Type 0
FloorsAreBelowRoofs =
    (p : Project) (release due : ℕ → ℕ) (root : Bounds) (deadline : ℕ) (floors roofs : List ℕ) →
    IsRootWindow p release due root → ((i : ℕ) → i < length p.jobs → due i ≤ deadline) →
    AreFloors p root deadline floors → AreRoofs p roofs →
    Admits p release due roofs × ((k : ℕ) → k < p.resources → slice_index floors k ≤ slice_index roofs k)

-- each vector that admits and is within the roofs is at or above floors of which some are sharpened
abbrev pub AdmittingIsAboveSharpened : Type 0
AdmittingIsAboveSharpened =
    (p : Project) (release due : ℕ → ℕ) (root : Bounds) (deadline n : ℕ) (floors roofs reached vector : List ℕ) →
    IsRootWindow p release due root → ((i : ℕ) → i < length p.jobs → due i ≤ deadline) →
    AreFloors p root deadline floors →
    length roofs ≡ p.resources → AreSharpenedBefore p root floors roofs n reached →
    ((k : ℕ) → k < p.resources → slice_index vector k ≤ slice_index roofs k) → Admits p release due vector →
    (k : ℕ) → k < p.resources → slice_index reached k ≤ slice_index vector k

-- each vector that admits and is within the roofs lies in the box of the sharpened floors and the refuted pairs
abbrev pub AdmittingIsInBox : Type 0
AdmittingIsInBox =
    (p : Project) (release due : ℕ → ℕ) (root : Bounds) (deadline : ℕ) (floors roofs sharp : List ℕ)
    (pairs : List (ℕ × ℕ)) (vector : List ℕ) →
    IsRootWindow p release due root → ((i : ℕ) → i < length p.jobs → due i ≤ deadline) →
    AreFloors p root deadline floors →
    length roofs ≡ p.resources → AreSharpened p root floors roofs sharp → AreRefutedPairs p root sharp roofs pairs →
    length vector ≡ p.resources →
    ((k : ℕ) → k < p.resources → slice_index vector k ≤ slice_index roofs k) → Admits p release due vector →
    IsInBox sharp roofs pairs vector

-- cut to the roofs, each vector that admits lies in that box
abbrev pub CutLiesInBox : Type 0
CutLiesInBox =
    (p : Project) (release due : ℕ → ℕ) (root : Bounds) (deadline : ℕ) (floors roofs sharp : List ℕ)
    (pairs : List (ℕ × ℕ)) (whole cut : List ℕ) →
    IsRootWindow p release due root → ((i : ℕ) → i < length p.jobs → due i ≤ deadline) →
    AreFloors p root deadline floors → AreRoofs p roofs →
    AreSharpened p root floors roofs sharp → AreRefutedPairs p root sharp roofs pairs → length cut ≡ p.resources →
    ((k : ℕ) → k < p.resources → slice_index cut k ≡ min (slice_index whole k) (slice_index roofs k)) →
    Admits p release due whole → IsInBox sharp roofs pairs cut

-- cut to the most units of an order, capacities that are enough for it lie in the box of these units
abbrev pub EnoughCutLiesInBox : Type 0
EnoughCutLiesInBox =
    (p : Project) (terms : Terms) (root : Bounds) (floors most sharp : List ℕ) (pairs : List (ℕ × ℕ))
    (whole cut : List ℕ) →
    IsRootWindow p (release_of terms) (due_of terms) root → AreFloors p root terms.deadline floors →
    AreMostUnits p terms most →
    AreSharpened p root floors most sharp → AreRefutedPairs p root sharp most pairs → length cut ≡ p.resources →
    ((k : ℕ) → k < p.resources → slice_index cut k ≡ min (slice_index whole k) (slice_index most k)) →
    IsEnough p terms whole → IsInBox sharp most pairs cut

-- the first of all capacities that are enough for an order lies in that box uncut, whatever its prices and owned units, which no
-- other premise speaks of
abbrev pub PlanIsInBox : Type 0
PlanIsInBox =
    (p : Project) (terms : Terms) (root : Bounds) (floors most sharp : List ℕ) (pairs : List (ℕ × ℕ)) (vector : List ℕ)
    → AreTermsOf p terms →
    IsRootWindow p (release_of terms) (due_of terms) root → AreFloors p root terms.deadline floors →
    AreMostUnits p terms most →
    AreSharpened p root floors most sharp → AreRefutedPairs p root sharp most pairs →
    IsLeast (IsBefore terms) (IsEnough p terms) vector → IsInBox sharp most pairs vector
