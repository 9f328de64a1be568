-- Chains and early starts: the greatest early finish is the critical length.
use Rattle.std.proofs.Common.{◌≡◌, ℕ, zero, suc, ◌+◌, ◌-◌, ◌<◌, ◌≤◌, ◌⊎◌, inl, inr, List, [], ◌∷◌, length, slice_index, set, arith, ap, sym, ◌∙◌, subst, get_or-set_same}
use Rattle.std.specs.List.{sum_by}
use Rattle.std.proofs.lemmas.Bool.{cases_lt}
use Rattle.std.proofs.lemmas.List.Sums.{sum_by-cons}
use Rattle.racp_model.specs.Project.{Project, Precedes, IsSound, Rises, duration}
use Rattle.racp_model.specs.Ranks.{from_at, to_at}
use Rattle.racp_model.specs.Schedule.{KeepsPrecedence, EndsBy}
use Rattle.racp_model.specs.Path.{IsEarly, IsChain, span, IsCriticalLength}
use Rattle.racp_model.proofs.lemmas.Arcs.{precedes_in, some_at, at_precedes}
use Rattle.racp_model.proofs.lemmas.Lists.{below_suc, at_set}
use Rattle.racp_cpm.specs.Ends.{IsLastEnd}

-- what the jobs of a list take one after another
abbrev pub work : Project → List ℕ → ℕ
work p jobs = sum_by (duration p) jobs

-- what one job takes
pub work-one : (p : Project) (i : ℕ) → work p (i ∷ []) ≡ duration p i
work-one p i = omega (arith, sum_by-cons (duration p) i [])

-- a job in front adds its duration
pub work-more : (p : Project) (i : ℕ) (rest : List ℕ) → work p (i ∷ rest) ≡ duration p i + work p rest
work-more p i rest = sum_by-cons (duration p) i rest

-- the first job of a chain is a job
pub first_in : (p : Project) (i : ℕ) (rest : List ℕ) → IsSound p → IsChain p (i ∷ rest) → i < length p.jobs
first_in p i [] sound h = h
first_in p i (j ∷ rest) sound h = (precedes_in p i j sound h.0).0

-- in starts that keep precedence no chain ends after the last job
pub chain-ends : (p : Project) (starts : List ℕ) (last : ℕ) → KeepsPrecedence p starts → EndsBy p (λ _. last) starts
    → (i : ℕ) (rest : List ℕ) → IsChain p (i ∷ rest) → slice_index starts i + work p (i ∷ rest) ≤ last
chain-ends p starts last keeps ends i [] h = omega (arith, work-one p i, ends i h)
chain-ends p starts last keeps ends i (j ∷ rest) h = omega (arith, work-more p i (j ∷ rest), chain-ends p starts last keeps ends j rest h.1, keeps i j h.0)

-- the first place where P holds, or Q at each
pub find_below : (P Q : ℕ → Type 0) (n : ℕ) → ((k : ℕ) → k < n → P k ⊎ Q k) → ((k : ℕ) × (k < n) × P k) ⊎ ((k : ℕ) → k < n → Q k)
find_below P Q zero h = inr (λ k l. absurd (omega arith))
find_below P Q (suc n) h = elim (find_below P Q n (λ k l. h k (omega arith))) [
  | inl some ↦ inl (some.0, let l : some.0 < n = some.1 in omega arith, some.2)
  | inr none ↦ elim (h n (omega arith)) [
    | inl here ↦ inl (n, omega arith, here)
    | inr other ↦ inr (below_suc Q n none other)
  ]
]

-- a job that could start a unit earlier: some starts that keep precedence do
pub earlier : (p : Project) (starts : List ℕ) (j : ℕ) → IsSound p → KeepsPrecedence p starts → j < length starts
    → ((i : ℕ) → Precedes p i j → slice_index starts i + duration p i < slice_index starts j) → KeepsPrecedence p (set starts j (slice_index starts j - 1))
earlier p starts j sound keeps in' slack a b order =
    let v : ℕ = slice_index starts j - 1 in
    elim (at_set starts j (slice_index starts j - 1) b in') [
      | inl there ↦ elim (at_set starts j (slice_index starts j - 1) a in') [
        | inl here ↦ absurd (let up = sound.acyclic.1 a b order in omega (arith, up, ap sound.acyclic.0 (here.0 ∙ sym there.0)))
        | inr here ↦
            let P : ℕ → Type 0 = λ x. Precedes p a x in
            omega (arith, here.1, there.1, slack a (subst P there.0 order))
      ]
      | inr there ↦ elim (at_set starts j (slice_index starts j - 1) a in') [
        | inl here ↦ omega (arith, here.1, there.1, keeps a b order, ap (slice_index starts) here.0)
        | inr here ↦ omega (arith, here.1, there.1, keeps a b order)
      ]
    ]

-- a pair holds job j back, or it does not
pub slack_cases : (p : Project) (starts : List ℕ) (j k : ℕ) → ((to_at p.arcs k ≡ j) × (slice_index starts j ≤ slice_index starts (from_at p.arcs k) + duration p (from_at p.arcs k)))
    ⊎ (to_at p.arcs k ≡ j → slice_index starts (from_at p.arcs k) + duration p (from_at p.arcs k) < slice_index starts j)
slack_cases p starts j k = elim (cases_lt (slice_index starts (from_at p.arcs k) + duration p (from_at p.arcs k)) (slice_index starts j)) [
  | inl less ↦ inr (λ _. less)
  | inr most ↦ elim (cases_lt (to_at p.arcs k) j) [
    | inl low ↦ inr (λ e. absurd (omega arith))
    | inr high ↦ elim (cases_lt j (to_at p.arcs k)) [
      | inl up ↦ inr (λ e. absurd (omega arith))
      | inr down ↦ inl (omega arith, most)
    ]
  ]
]

-- an early start is its lower bound, or the end of a job before it
pub tight : (p : Project) (lower : ℕ → ℕ) (starts : List ℕ) (j : ℕ) → IsSound p → IsEarly p lower starts → j < length p.jobs
    → (slice_index starts j ≡ lower j) ⊎ ((i : ℕ) × Precedes p i j × (slice_index starts i + duration p i ≡ slice_index starts j))
tight p lower starts j sound early l = elim (cases_lt (lower j) (slice_index starts j)) [
  | inr low ↦ inl (omega (arith, early.above j l))
  | inl high ↦ elim (find_below (λ k. (to_at p.arcs k ≡ j) × (slice_index starts j ≤ slice_index starts (from_at p.arcs k) + duration p (from_at p.arcs k)))
      (λ k. to_at p.arcs k ≡ j → slice_index starts (from_at p.arcs k) + duration p (from_at p.arcs k) < slice_index starts j) (length p.arcs)
      (λ k o. slack_cases p starts j k)) [
        | inl some ↦
            let order : Precedes p (from_at p.arcs some.0) j = let P : ℕ → Type 0 = λ x. Precedes p (from_at p.arcs some.0) x in subst P some.2.0 (at_precedes p some.0 sound.named some.1) in
            inr (from_at p.arcs some.0, order, omega (arith, some.2.1, early.precedence (from_at p.arcs some.0) j order))
        | inr none ↦
            let in' : j < length starts = omega (arith, early.places) in
            let keeps = earlier p starts j sound early.precedence in' (λ i order.
            let k = some_at p i j order in
            let P : ℕ → Type 0 = λ x. slice_index starts x + duration p x < slice_index starts j in
            subst P k.2 (none k.0 k.1 k.3)) in
            absurd (omega (
              arith,
              early.least (set starts j (slice_index starts j - 1)) (λ i o. elim (at_set starts j (slice_index starts j - 1) i in') [
                | inl here ↦ omega (arith, here.1, ap lower here.0)
                | inr there ↦ omega (arith, there.1, early.above i o)
              ]) keeps j l,
              get_or-set_same starts j (slice_index starts j - 1) 0 in',
            ))
      ]
]

-- a chain from a job to the greatest finish grows at its front, until its first job starts at its lower bound
pub attained : (p : Project) (lower : ℕ → ℕ) (starts : List ℕ) (last : ℕ) → IsSound p → IsEarly p lower starts → (rank : ℕ → ℕ) → Rises p rank
    → (m j : ℕ) (rest : List ℕ) → rank j < m → IsChain p (j ∷ rest) → slice_index starts j + work p (j ∷ rest) ≡ last → (chain : List ℕ) × IsChain p chain × (span p lower chain ≡ last)
attained p lower starts last sound early rank rises zero j rest less chain ends = absurd (omega arith)
attained p lower starts last sound early rank rises (suc m) j rest less chain ends = elim (tight p lower starts j sound early (first_in p j rest sound chain)) [
  | inl at ↦ (j ∷ rest, chain, omega (arith, at, ends))
  | inr before ↦
      let up = rises before.0 j before.1 in
      attained p lower starts last sound early rank rises m before.0 (j ∷ rest) (omega (arith, up)) (before.1, chain) (omega (arith, work-more p before.0 (j ∷ rest), before.2, ends))
]

-- no chain is longer than the greatest early finish
pub chain-most : (p : Project) (lower : ℕ → ℕ) (starts : List ℕ) (last : ℕ) → IsSound p → IsEarly p lower starts → EndsBy p (λ _. last) starts
    → (chain : List ℕ) → IsChain p chain → span p lower chain ≤ last
chain-most p lower starts last sound early ends [] c = absurd c
chain-most p lower starts last sound early ends (i ∷ rest) c = omega (arith, chain-ends p starts last early.precedence ends i rest c, early.above i (first_in p i rest sound c))

-- the greatest early finish is the critical length
pub critical_is : (p : Project) (lower : ℕ → ℕ) (starts : List ℕ) (last : ℕ) → IsSound p → IsEarly p lower starts → IsLastEnd p starts last → IsCriticalLength p lower last
critical_is p lower starts last sound early h = record {
  some = attained p lower starts last sound early sound.acyclic.0 sound.acyclic.1 (suc (sound.acyclic.0 h.some.0)) h.some.0 [] (omega arith) h.some.1 (omega (arith, work-one p h.some.0, h.some.2));
  most = chain-most p lower starts last sound early h.most;
}
