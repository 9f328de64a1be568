-- A network of what was given: the same relation, each pair once.
use Rattle.std.proofs.Common.{◌≡◌, ℕ, ◌+◌, List, [], ◌∷◌, ◌++◌, length, slice_index_or, Vec, Ok, Err, inl, inr, refl}
use Rattle.std.specs.Global.{Global}
use Rattle.std.proofs.lemmas.List.Elements.{Contains-get_or, All-contains}
use Rattle.racp_model.specs.Project.{Project, Precedes, IsNumber, AreNumbers, IsWithinLimits, IsSound}
use Rattle.racp_model.specs.Path.{IsChain}
use Rattle.racp_model.specs.Topology.{IsTopological}
use Rattle.racp_model.specs.Ranks.{IsOrdered, IsSortedSet}
use Rattle.racp_model.specs.Made.{IsSameProject, IsMade}
use Rattle.racp_model.specs.declared.fault.NetFault.{NetFault}
use Rattle.racp_model.specs.declared.fault.NetFault.TheVariants.{Limit, BadJob, Cycle, Memory}
use Rattle.racp_model.proofs.lemmas.Arcs.{rises_on, rises_along}
use Rattle.racp_model.proofs.Topological.{topological}
use Rattle.racp_model.proofs.Rings.{ranking_or_ring}

-- the project with its pairs sorted and without repetition
abbrev pub tidy : Project → List (ℕ × ℕ) → Project
tidy given sorted = record given { arcs = sorted }

-- the same pairs name jobs
pub tidy_numbers : (n : ℕ) (given sorted : List (ℕ × ℕ)) → AreNumbers n given → IsSortedSet given sorted → AreNumbers n sorted
tidy_numbers n given sorted numbers h k d l =
    All-contains (λ (arc : ℕ × ℕ). IsNumber n arc.0 × IsNumber n arc.1) given (slice_index_or sorted k d) numbers ((h.same (slice_index_or sorted k d)).0 (Contains-get_or sorted k d l))

-- a chain of one relation is a chain of a wider one
pub chain_widens : (p q : Project) → length p.jobs ≡ length q.jobs → ((i j : ℕ) → Precedes p i j → Precedes q i j) → (chain : List ℕ) → IsChain p chain → IsChain q chain
chain_widens p q same wider [] c = c
chain_widens p q same wider (i ∷ []) c = rw (← same) c
chain_widens p q same wider (i ∷ (j ∷ rest)) c = (wider i j c.0, chain_widens p q same wider (j ∷ rest) c.1)

-- sorting leaves the project the same
pub tidy_same : (given : Project) (sorted : List (ℕ × ℕ)) → IsSortedSet given.arcs sorted → IsSameProject given (tidy given sorted)
tidy_same given sorted h = record {
  resources = refl;
  jobs = refl;
  arcs = h.same;
}

-- where the pairs can be put in order, the project is a network
pub tidy_network : (given : Project) (sorted : List (ℕ × ℕ)) (pairs : Vec (ℕ × ℕ) Global) → IsWithinLimits given.resources given.jobs → AreNumbers (length given.jobs) given.arcs → IsSortedSet given.arcs sorted → IsOrdered sorted (Ok pairs)
    → IsSound (tidy given sorted) × IsTopological (tidy given sorted) pairs.items
tidy_network given sorted pairs limits numbers h ordered =
    let named : AreNumbers (length given.jobs) sorted = tidy_numbers (length given.jobs) given.arcs sorted numbers h in (
      record {
        limits = limits;
        named = named;
        rising = h.rising;
        acyclic = (ordered.0.0, rises_on (tidy given sorted) ordered.0.0 ordered.0.1);
      },
      topological (tidy given sorted) pairs.items named ordered.1,
    )

-- where they cannot, that is the fault of what was given
pub tidy_fault : (given : Project) (sorted : List (ℕ × ℕ)) (fault : NetFault) → IsWithinLimits given.resources given.jobs → AreNumbers (length given.jobs) given.arcs → IsSortedSet given.arcs sorted → IsOrdered sorted (Err fault) → IsMade given (Err fault)
tidy_fault given sorted Limit limits numbers h ordered = absurd ordered
tidy_fault given sorted BadJob limits numbers h ordered = absurd ordered
tidy_fault given sorted Cycle limits numbers h ordered =
    let named : AreNumbers (length given.jobs) sorted = tidy_numbers (length given.jobs) given.arcs sorted numbers h in (
      limits,
      numbers,
      elim (ranking_or_ring (tidy given sorted) named) [
        | inl ranked ↦ absurd (ordered (ranked.0, rises_along (tidy given sorted) ranked.0 named ranked.1))
        | inr ring ↦ (ring.0, ring.1, chain_widens (tidy given sorted) given refl (λ i j c. (h.same (i + 1, j + 1)).0 c) (ring.0 ∷ (ring.1 ++ ring.0 ∷ [])) ring.2)
      ],
    )
tidy_fault given sorted Memory limits numbers h ordered = (limits, numbers, (ordered.0, λ i j c. rises_on (tidy given sorted) ordered.0 ordered.1 i j ((h.same (i + 1, j + 1)).1 c)))
