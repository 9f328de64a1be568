-- Sharpened floors, and refuted pairs of resources: bounds on the units of each resource that are found by asking questions about
-- the root window.
use Rattle.std.specs.Prelude.{◌≡◌, ◌↔◌, ℕ, ◌+◌, ◌-◌, ◌<◌, ◌≤◌, List, length, slice_index, set, Contains, AllPairs}
use Rattle.racp_model.specs.Project.{Project, number, AreNumbers, IsArcBefore}
use Rattle.racp_model.specs.Schedule.{sum_below}
use Rattle.racp_model.specs.Plan.{IsLeast}
use Rattle.racp_model.specs.Window.{Bounds, IsYes, IsNo}
use Rattle.racp_found.specs.declared.observer.News.{News}
use Rattle.racp_found.specs.declared.observer.News.TheVariants.{Deadline, Floors, Cost, Plan, Work}
use Rattle.racp_questions.specs.FirstYes.{MayGiveUp}
use Rattle.racp_questions.specs.declared.asker.AskStop.{AskStop}
use Rattle.racp_bounds.specs.declared.sharp.Sharp.{Sharp}

-- this many units of resource k, from its first floor on, with which some starts in the root window fit, the other resources having
-- their roofs
pub record IsEnoughOf (p : Project) (root : Bounds) (floors roofs : List ℕ) (k units : ℕ) : Type 0 where
  pub from_floor : slice_index floors k ≤ units
  pub yes : IsYes p (set roofs k units) root

-- the sharpened floor of resource k: the least such number
abbrev pub IsSharpened : Project → Bounds → (floors roofs : List ℕ) → ℕ → ℕ → Type 0
IsSharpened p root floors roofs k = IsLeast ◌<◌ (IsEnoughOf p root floors roofs k)

-- the sharpened floor of each resource
pub record AreSharpened (p : Project) (root : Bounds) (floors roofs sharp : List ℕ) : Type 0 where
  pub places : length sharp ≡ p.resources
  pub each : (k : ℕ) → k < p.resources → IsSharpened p root floors roofs k (slice_index sharp k)

-- resources k and l are refuted: no starts in the root window fit if both have these floors, and the others their roofs
abbrev pub IsRefutedPair : Project → Bounds → (floors roofs : List ℕ) → ℕ → ℕ → Type 0
IsRefutedPair p root floors roofs k l = IsNo p (set (set roofs k (slice_index floors k)) l (slice_index floors l)) root

-- the refuted pairs, by the numbers of their resources, the lesser one first: each once, in lexicographic order
pub record AreRefutedPairs (p : Project) (root : Bounds) (floors roofs : List ℕ) (pairs : List (ℕ × ℕ)) : Type 0 where
  pub named : AreNumbers p.resources pairs
  pub rising : AllPairs IsArcBefore pairs
  pub members : (k l : ℕ) → Contains pairs (number k, number l) ↔
      ((k < l) × (l < p.resources) × IsRefutedPair p root floors roofs k l)

-- sharpened floors, and the pairs that they refute
pub record IsSharp (p : Project) (root : Bounds) (floors roofs : List ℕ) (sharp : Sharp) : Type 0 where
  pub sharpened : AreSharpened p root floors roofs sharp.floors
  pub refuted : AreRefutedPairs p root sharp.floors roofs sharp.pairs.items

-- floors of which those before place n are sharpened, and the others are the first ones
pub record AreSharpenedBefore (p : Project) (root : Bounds) (floors roofs : List ℕ) (n : ℕ) (reached : List ℕ)
    : Type 0 where
  pub places : length reached ≡ p.resources
  pub sharpened : (k : ℕ) → k < n → k < p.resources → IsSharpened p root floors roofs k (slice_index reached k)
  pub first : (k : ℕ) → n ≤ k → k < p.resources → slice_index reached k ≡ slice_index floors k

-- news of such floors
abbrev pub IsReachedNews : Project → Bounds → (floors roofs : List ℕ) → ℕ → News → Type 0
IsReachedNews p root floors roofs n (Deadline deadline) = ⊥
IsReachedNews p root floors roofs n (Floors reached) = AreSharpenedBefore p root floors roofs n reached.now
IsReachedNews p root floors roofs n (Cost least) = ⊥
IsReachedNews p root floors roofs n (Plan capacities starts cost) = ⊥
IsReachedNews p root floors roofs n (Work conflicts clauses) = ⊥

-- how many pairs of this many resources there are: for each resource, one with each that comes after it
abbrev pub pair_count : ℕ → ℕ
pair_count resources = sum_below resources (λ k. resources - (k + 1))

-- why sharpening ended early, after this many series were answered: the floors that were reached, where each series sharpened one more,
-- as long as there were any left; and that the asker may give up, or may stop before it answered a series for each resource and each pair
pub record IsUnsharpened (p : Project) (root : Bounds) (floors roofs : List ℕ) (answered : ℕ)
    (may_stop may_want_thread : Type 0)
    (refusal : List ℕ × AskStop) : Type 0 where
  pub reached : AreSharpenedBefore p root floors roofs answered refusal.0
  pub given_up : MayGiveUp (may_stop × (answered < p.resources + pair_count p.resources)) may_want_thread refusal.1
