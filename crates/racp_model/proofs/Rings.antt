-- A project has a ranking or a ring: pair by pair, either a ring is found, or a ranking of the pairs so far, and for each two
-- jobs a way from one to the other or a set of jobs that holds the one and not the other, and that no pair so far leaves.
use Rattle.std.proofs.Common.{◌≡◌, ℕ, zero, suc, ◌+◌, ◌-◌, ◌*◌, ◌<◌, ◌≤◌, ◌⊎◌, inl, inr, min, max, List, [], ◌∷◌, ◌++◌, length, arith, subst, append_assoc}
use Rattle.std.proofs.Math.Nat.{mul-le-mul_left}
use Rattle.std.proofs.lemmas.Bool.{cases_lt}
use Rattle.racp_model.specs.Project.{Project, Precedes, AreNumbers, IsAcyclic, Rises}
use Rattle.racp_model.specs.Path.{IsChain, HasRing}
use Rattle.racp_model.specs.Ranks.{from_at, to_at}
use Rattle.racp_model.proofs.lemmas.Arcs.{to_at-below, at_precedes, rises_on}

-- the rank rises from the first job of a chain to the last
pub chain_rises : (p : Project) (rank : ℕ → ℕ) → Rises p rank → (a b : ℕ) (rest : List ℕ) → IsChain p (a ∷ (rest ++ b ∷ [])) → rank a < rank b
chain_rises p rank rises a b [] h = rises a b h.0
chain_rises p rank rises a b (c ∷ rest) h = omega (arith, rises a c h.0, chain_rises p rank rises c b rest h.1)

-- a project with a ranking has no ring
pub never_both : (p : Project) → IsAcyclic p → HasRing p → ⊥
never_both p acyclic ring = omega (arith, chain_rises p acyclic.0 acyclic.1 ring.0 ring.0 ring.1 ring.2)

-- a way from job a to job b, along which each chain from b on becomes one from a on
abbrev pub Leads : Project → ℕ → ℕ → Type 0
Leads p a b = (way : List ℕ) × ((more : List ℕ) → IsChain p (b ∷ more) → IsChain p (a ∷ (way ++ more)))

-- a set of jobs (1 at those in it, 0 at the others) that has job a and not job b, and that none of the first k pairs leaves
pub record Apart (p : Project) (k a b : ℕ) : Type 0 where
  pub holds : ℕ → ℕ
  pub most : (j : ℕ) → holds j ≤ 1
  pub inside : holds a ≡ 1
  pub outside : holds b ≡ 0
  pub closed : (q : ℕ) → q < k → holds (from_at p.arcs q) ≤ holds (to_at p.arcs q)

-- a ranking along the first k pairs
abbrev pub Ranked : Project → ℕ → Type 0
Ranked p k = (rank : ℕ → ℕ) × ((q : ℕ) → q < k → rank (from_at p.arcs q) < rank (to_at p.arcs q))

-- what holds of the first k places and of the next holds of each of them
pub each_more : (Q : ℕ → Type 0) (k : ℕ) → ((q : ℕ) → q < k → Q q) → Q k → (q : ℕ) → q < suc k → Q q
each_more Q k each next q l = elim (cases_lt q k) [
  | inl before ↦ each q before
  | inr here ↦ let e : k ≡ q = omega arith in subst Q e next
]

-- before the first pair a job alone is a set that has it and no other
pub alone : (p : Project) (a b : ℕ) → 1 ≤ (a - b) + (b - a) → Apart p 0 a b
alone p a b other = record {
  holds = λ j. 1 - ((j - a) + (a - j));
  most = λ j. omega arith;
  inside = omega arith;
  outside = omega arith;
  closed = λ q l. absurd (omega arith);
}

-- before the first pair each job leads to itself alone
pub apart_at_first : (p : Project) (a b : ℕ) → Leads p a b ⊎ Apart p 0 a b
apart_at_first p a b = elim (cases_lt a b) [
  | inl less ↦ inr (alone p a b (omega arith))
  | inr most ↦ elim (cases_lt b a) [
    | inl more ↦ inr (alone p a b (omega arith))
    | inr same ↦
        let e : b ≡ a = omega arith in
        inl ([], λ more h. subst (λ (x : ℕ). IsChain p (x ∷ more)) e h)
  ]
]

-- what two sets share is one that the next pair does not leave, where its first job is not in the second of them
pub both : (p : Project) (k a b : ℕ) → Apart p k a b → Apart p k a (from_at p.arcs k) → Apart p (suc k) a b
both p k a b one two = record {
  holds = λ j. min (one.holds j) (two.holds j);
  most = λ j. omega (arith, one.most j);
  inside = omega (arith, one.inside, two.inside);
  outside = omega (arith, one.outside);
  closed = each_more (λ q. min (one.holds (from_at p.arcs q)) (two.holds (from_at p.arcs q)) ≤ min (one.holds (to_at p.arcs q)) (two.holds (to_at p.arcs q))) k
      (λ q l. omega (arith, one.closed q l, two.closed q l)) (omega (arith, two.outside));
}

-- and what is in one of two sets, where its second job is in the second of them
pub either : (p : Project) (k a b : ℕ) → Apart p k a b → Apart p k (to_at p.arcs k) b → Apart p (suc k) a b
either p k a b one two = record {
  holds = λ j. max (one.holds j) (two.holds j);
  most = λ j. omega (arith, one.most j, two.most j);
  inside = omega (arith, one.inside, two.most a);
  outside = omega (arith, one.outside, two.outside);
  closed = each_more (λ q. max (one.holds (from_at p.arcs q)) (two.holds (from_at p.arcs q)) ≤ max (one.holds (to_at p.arcs q)) (two.holds (to_at p.arcs q))) k
      (λ q l. omega (arith, one.closed q l, two.closed q l)) (omega (arith, one.most (from_at p.arcs k), two.most (from_at p.arcs k), two.inside));
}

-- a way to a job, the pair that it starts, and a way on are one way
pub join : (p : Project) (a b c d : ℕ) → Leads p a c → Precedes p c d → Leads p d b → Leads p a b
join p a b c d first order last = (first.0 ++ (d ∷ last.0), λ more h. rw append_assoc (first.1 (d ∷ (last.0 ++ more)) (order, last.1 more h)))

-- with the next pair too, each two jobs have a way or a set between them
pub apart_at_next : (p : Project) (k : ℕ) → Precedes p (from_at p.arcs k) (to_at p.arcs k) → ((a b : ℕ) → Leads p a b ⊎ Apart p k a b) → (a b : ℕ) → Leads p a b ⊎ Apart p (suc k) a b
apart_at_next p k order each a b = elim (each a b) [
  | inl way ↦ inl way
  | inr one ↦ elim (each a (from_at p.arcs k)) [
    | inr two ↦ inr (both p k a b one two)
    | inl to ↦ elim (each (to_at p.arcs k) b) [
      | inr two ↦ inr (either p k a b one two)
      | inl on ↦ inl (join p a b (from_at p.arcs k) (to_at p.arcs k) to order on)
    ]
  ]
]

-- a ranking that is lifted on a set with the second job of the next pair and without its first rises along that pair too
pub ranked_more : (p : Project) (k : ℕ) → Ranked p k → Apart p k (to_at p.arcs k) (from_at p.arcs k) → Ranked p (suc k)
ranked_more p k ranked set =
    let rank : ℕ → ℕ = ranked.0 in
    let lift : ℕ = rank (from_at p.arcs k) + 1 in (
      λ j. rank j + lift * set.holds j,
      each_more (λ q. rank (from_at p.arcs q) + lift * set.holds (from_at p.arcs q) < rank (to_at p.arcs q) + lift * set.holds (to_at p.arcs q)) k
          (λ q l. omega (arith, ranked.1 q l, mul-le-mul_left lift (set.closed q l)))
          (rw (set.inside, set.outside) (omega arith)),
    )

-- along the first k pairs there is a ring, or a ranking and between each two jobs a way or a set
pub ring_or_ranked : (p : Project) → AreNumbers (length p.jobs) p.arcs → (k : ℕ) → k ≤ length p.arcs → HasRing p ⊎ (Ranked p k × ((a b : ℕ) → Leads p a b ⊎ Apart p k a b))
ring_or_ranked p numbers zero l = inr ((λ j. j, λ q m. absurd (omega arith)), apart_at_first p)
ring_or_ranked p numbers (suc k) l = elim (ring_or_ranked p numbers k (omega arith)) [
  | inl ring ↦ inl ring
  | inr so_far ↦
      let order : Precedes p (from_at p.arcs k) (to_at p.arcs k) = at_precedes p k numbers (omega arith) in
      elim (so_far.1 (to_at p.arcs k) (from_at p.arcs k)) [
        | inl back ↦ inl (to_at p.arcs k, back.0, back.1 (to_at p.arcs k ∷ []) (order, to_at-below p.arcs (length p.jobs) k numbers (omega arith)))
        | inr set ↦ inr (ranked_more p k so_far.0 set, apart_at_next p k order so_far.1)
      ]
]

-- a project whose pairs name its jobs has a ranking or a ring
pub ranking_or_ring : (p : Project) → AreNumbers (length p.jobs) p.arcs → IsAcyclic p ⊎ HasRing p
ranking_or_ring p numbers = elim (ring_or_ranked p numbers (length p.arcs) (omega arith)) [
  | inl ring ↦ inr ring
  | inr all ↦ inl (all.0.0, rises_on p all.0.0 all.0.1)
]
