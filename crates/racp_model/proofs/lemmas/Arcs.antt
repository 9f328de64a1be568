-- The pairs of a project, by the places of their jobs.
use Rattle.std.proofs.Common.{◌≡◌, ℕ, ◌+◌, ◌-◌, ◌<◌, ◌≤◌, List, length, slice_index, slice_index_or, arith, subst, ap, ◌∙◌, Contains}
use Rattle.std.proofs.lemmas.List.{get_or_default}
use Rattle.std.proofs.lemmas.List.Elements.{Contains-get_or}
use Rattle.racp_model.specs.Project.{Project, number, duration, Precedes, AreNumbers, IsNumber, IsSound, Rises}
use Rattle.racp_model.specs.Topology.{IsTopological}
use Rattle.racp_model.specs.Ranks.{from_at, to_at, RisesAlong}

-- the first job of a pair is among the jobs
pub from_at-below : (arcs : List (ℕ × ℕ)) (n k : ℕ) → AreNumbers n arcs → k < length arcs → from_at arcs k < n
unfolding from_at
from_at-below arcs n k numbers l =
    let h : IsNumber n (slice_index_or arcs k (1, 1)).0 × IsNumber n (slice_index_or arcs k (1, 1)).1 = numbers k (1, 1) l in
    omega (arith, h.0.0, h.0.1)

-- and so is the second
pub to_at-below : (arcs : List (ℕ × ℕ)) (n k : ℕ) → AreNumbers n arcs → k < length arcs → to_at arcs k < n
unfolding to_at
to_at-below arcs n k numbers l =
    let h : IsNumber n (slice_index_or arcs k (1, 1)).0 × IsNumber n (slice_index_or arcs k (1, 1)).1 = numbers k (1, 1) l in
    omega (arith, h.1.0, h.1.1)

-- the place of a pair's first job, from its number
pub from_at-number : (arcs : List (ℕ × ℕ)) (k place : ℕ) (d : ℕ × ℕ) → k < length arcs → number place ≡ (slice_index_or arcs k d).0 → place ≡ from_at arcs k
unfolding from_at
from_at-number arcs k place d l e = omega (arith, e, ap (λ (a : ℕ × ℕ). a.0) (get_or_default arcs k (1, 1) d l))

-- and of the second job
pub to_at-number : (arcs : List (ℕ × ℕ)) (k place : ℕ) (d : ℕ × ℕ) → k < length arcs → number place ≡ (slice_index_or arcs k d).1 → place ≡ to_at arcs k
unfolding to_at
to_at-number arcs k place d l e = omega (arith, e, ap (λ (a : ℕ × ℕ). a.1) (get_or_default arcs k (1, 1) d l))

-- the pair at a place orders its two jobs
pub at_precedes : (p : Project) (k : ℕ) → AreNumbers (length p.jobs) p.arcs → k < length p.arcs → Precedes p (from_at p.arcs k) (to_at p.arcs k)
unfolding from_at to_at
at_precedes p k numbers l =
    let h : IsNumber (length p.jobs) (slice_index_or p.arcs k (1, 1)).0 × IsNumber (length p.jobs) (slice_index_or p.arcs k (1, 1)).1 = numbers k (1, 1) l in
    let from : (slice_index_or p.arcs k (1, 1)).0 ≡ (slice_index_or p.arcs k (1, 1)).0 - 1 + 1 = omega (arith, h.0.0) in
    let to : (slice_index_or p.arcs k (1, 1)).1 ≡ (slice_index_or p.arcs k (1, 1)).1 - 1 + 1 = omega (arith, h.1.0) in
    let P : ℕ → Type 0 = λ a. Contains p.arcs (a, (slice_index_or p.arcs k (1, 1)).1) in
    let Q : ℕ → Type 0 = λ b. Contains p.arcs ((slice_index_or p.arcs k (1, 1)).0 - 1 + 1, b) in
    subst Q to (subst P from (Contains-get_or p.arcs k (1, 1) l))

-- and each order of two jobs is that of the pair at a place
pub some_at : (p : Project) (i j : ℕ) → Precedes p i j → (k : ℕ) × (k < length p.arcs) × (from_at p.arcs k ≡ i) × (to_at p.arcs k ≡ j)
unfolding from_at to_at
some_at p i j c =
    let at : slice_index_or p.arcs c.0 (1, 1) ≡ (i + 1, j + 1) = get_or_default p.arcs c.0 (1, 1) (i + 1, j + 1) c.1 ∙ c.2 in
    let from : (slice_index_or p.arcs c.0 (1, 1)).0 ≡ i + 1 = ap (λ (a : ℕ × ℕ). a.0) at in
    let to : (slice_index_or p.arcs c.0 (1, 1)).1 ≡ j + 1 = ap (λ (a : ℕ × ℕ). a.1) at in
    (c.0, c.1, omega (arith, from), omega (arith, to))

-- a rank that rises along each pair of numbers rises along the relation
pub rises_on : (p : Project) (r : ℕ → ℕ) → RisesAlong p.arcs r → Rises p r
rises_on p r h i j c =
    let k = some_at p i j c in
    omega (arith, h k.0 k.1, ap r k.2, ap r k.3)

-- and the other way round
pub rises_along : (p : Project) (r : ℕ → ℕ) → AreNumbers (length p.jobs) p.arcs → Rises p r → RisesAlong p.arcs r
rises_along p r numbers h k l = h (from_at p.arcs k) (to_at p.arcs k) (at_precedes p k numbers l)

-- what holds of each pair of them holds of each two jobs in order
pub each_by_arcs : (p : Project) (pairs : List (ℕ × ℕ)) (Q : ℕ → ℕ → Type 0) → IsTopological p pairs → ((q : ℕ) → q < length pairs → Q (slice_index_or pairs q (0, 0)).0 (slice_index_or pairs q (0, 0)).1) → (i j : ℕ) → Precedes p i j → Q i j
each_by_arcs p pairs Q h each i j c =
    let at : Contains pairs (i, j) = h.complete i j c in
    let same : slice_index_or pairs at.0 (0, 0) ≡ (i, j) = get_or_default pairs at.0 (0, 0) (i, j) at.1 ∙ at.2 in
    let P : ℕ × ℕ → Type 0 = λ a. Q a.0 a.1 in
    subst P same (each at.0 at.1)

-- the two jobs of a pair are among the jobs
pub precedes_in : (p : Project) (i j : ℕ) → IsSound p → Precedes p i j → (i < length p.jobs) × (j < length p.jobs)
precedes_in p i j sound c =
    let h : IsNumber (length p.jobs) (slice_index_or p.arcs c.0 (i + 1, j + 1)).0 × IsNumber (length p.jobs) (slice_index_or p.arcs c.0 (i + 1, j + 1)).1 = sound.named c.0 (i + 1, j + 1) c.1 in
    (omega (arith, h.0.1, ap (λ (a : ℕ × ℕ). a.0) c.2), omega (arith, h.1.1, ap (λ (a : ℕ × ℕ). a.1) c.2))

-- the second job of a pair of places starts only when the first has ended
abbrev pub KeepsPair : Project → List ℕ → ℕ × ℕ → Type 0
KeepsPair p starts pair = slice_index starts pair.0 + duration p pair.0 ≤ slice_index starts pair.1
