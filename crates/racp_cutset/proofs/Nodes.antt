-- What the rows of nodes say of them.
use Rattle.std.proofs.Common.{◌≡◌, ◌↔◌, ℕ, ◌<◌, ◌≤◌, List, length, slice_index, Contains, All, arith, subst}
use Rattle.std.proofs.lemmas.List.Kept.{AllPairs-from_increasing}
use Rattle.racp_model.specs.Project.{Project, place, IsSound}
use Rattle.racp_model.specs.Path.{IsEarly}
use Rattle.racp_model.proofs.lemmas.Relations.{same_from_members}
use Rattle.racp_cpm.proofs.lemmas.Bounded.{some_starts}
use Rattle.racp_cutset.specs.Covering.{SearchNode, IsNode, IsStarted, HasCutsetOf, AreEnds, AreStartedBefore}
use Rattle.racp_cutset.specs.Rows.{AreBounds}
use Rattle.racp_cutset.specs.Told.{started_from_sets}

-- early starts above bounds of at most 20,000,000 are at most 25,120,000
pub early_small : (p : Project) (lower early : List ℕ) → IsSound p → length lower ≡ length p.jobs → All (λ x. x ≤ 20000000) lower → IsEarly p (slice_index lower) early
    → (i : ℕ) → i < length p.jobs → slice_index early i ≤ 25120000
early_small p lower early sound places small h i l =
    let some = some_starts p (slice_index lower) 20000000 sound (λ j m. small j 0 (omega (arith, places))) in
    omega (arith, some.1.small i l, h.least some.0 some.1.above some.1.precedence i l)

-- what is true of each node of the network that its type names
abbrev pub IsKept : Project → SearchNode → List ℕ → List ℕ → List ℕ → Type 0
IsKept p v ends started bounds = IsSound p × IsNode p v × AreEnds p v.early ends × AreStartedBefore v.early v.time started × AreBounds v.early v.time ends v.window.lower bounds

-- bounds of equal rows are bounds of the node
pub same_bounds : (v : SearchNode) (row ends early lower bounds : List ℕ) → row ≡ ends → early ≡ v.early → lower ≡ v.window.lower → AreBounds early v.time row lower bounds → AreBounds v.early v.time ends v.window.lower bounds
same_bounds v row ends early lower bounds is_row is_early is_lower are =
    subst (λ (xs : List ℕ). AreBounds v.early v.time xs v.window.lower bounds) is_row (subst (λ (xs : List ℕ). AreBounds v.early v.time row xs bounds) is_lower (subst (λ (xs : List ℕ). AreBounds xs v.time row lower bounds) is_early are))

-- a node that is made is such a node
pub made : (p q : Project) (v : SearchNode) (lower starts ends started bounds : List ℕ) → p ≡ q → IsSound p
    → length v.capacities ≡ p.resources → length v.window.lower ≡ length p.jobs → length v.window.upper ≡ length p.jobs
    → lower ≡ v.window.lower → IsEarly p (slice_index lower) v.early → starts ≡ v.early → AreEnds p starts ends → AreStartedBefore starts v.time started
    → AreBounds v.early v.time ends v.window.lower bounds → IsKept q v ends started bounds
made p q v lower starts ends started bounds named sound capacities low high is_lower early is_starts are_ends are_started are_bounds =
    let e : IsEarly p (slice_index v.window.lower) v.early = subst (λ (xs : List ℕ). IsEarly p (slice_index xs) v.early) is_lower early in
    let f : AreEnds p v.early ends = subst (λ (xs : List ℕ). AreEnds p xs ends) is_starts are_ends in
    let s : AreStartedBefore v.early v.time started = subst (λ (xs : List ℕ). AreStartedBefore xs v.time started) is_starts are_started in
    let node : IsNode p v = record { resources = capacities; lower = low; upper = high; early = e } in
    subst (λ (r : Project). IsKept r v ends started bounds) named (sound, node, f, s, are_bounds)

-- a member of the one set is in the other
pub started_within : (p : Project) (v w : SearchNode) (s r : List ℕ) → IsNode p v → IsNode p w → AreStartedBefore v.early v.time s → AreStartedBefore w.early w.time r
    → ((i : ℕ) → i < length p.jobs → IsStarted v i → IsStarted w i) → (job : ℕ) → Contains s job → Contains r job
started_within p v w s r hv hw first second into job c =
    let is = (first.members job).0 c in
    (second.members job).1 ((is.0.0, omega (arith, is.0.1, hv.early.places, hw.early.places)), into (place job) (omega (arith, is.0.0, is.0.1, hv.early.places)) is.1)

-- and nodes with the same started jobs have equal sets
pub sets_from_started : (p : Project) (v w : SearchNode) (s r : List ℕ) → IsNode p v → IsNode p w → AreStartedBefore v.early v.time s → AreStartedBefore w.early w.time r
    → ((i : ℕ) → i < length p.jobs → IsStarted v i ↔ IsStarted w i) → s ≡ r
sets_from_started p v w s r hv hw first second same =
    same_from_members (λ x y. x < y) (λ x y a b. absurd (omega arith)) s r (AllPairs-from_increasing s first.rises) (AllPairs-from_increasing r second.rises)
    (started_within p v w s r hv hw first second (λ i l. (same i l).0)) (started_within p w v r s hw hv second first (λ i l. (same i l).1))

-- nodes with equal sets, in the order of their times, have one cutset
pub cutset_tests : (p : Project) (v w : SearchNode) (s r : List ℕ) → IsNode p v → IsNode p w → AreStartedBefore v.early v.time s → AreStartedBefore w.early w.time r → v.time ≤ w.time
    → (s ≡ r) ↔ HasCutsetOf p v w
cutset_tests p v w s r hv hw first second earlier =
    (λ e. record { started = started_from_sets p v w s r hv hw first second e; time = earlier }, λ h. sets_from_started p v w s r hv hw first second h.started)
