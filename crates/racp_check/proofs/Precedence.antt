-- Pairs in rising order, looked at one by one: the first that is not kept is the least.
use Rattle.std.proofs.Common.{◌≡◌, ℕ, ◌+◌, ◌-◌, ◌<◌, ◌≤◌, inl, inr, List, length, slice_index, slice_index_or, Some, arith, subst, sym, ap, ◌∙◌}
use Rattle.std.proofs.lemmas.Bool.{cases_lt}
use Rattle.std.proofs.lemmas.List.{get_or_default}
use Rattle.racp_model.specs.Project.{Project, number, duration, Precedes, IsNumber, IsArcBefore, IsSound}
use Rattle.racp_model.specs.Schedule.{KeepsPrecedence}
use Rattle.racp_model.specs.Ranks.{from_at, to_at}
use Rattle.racp_model.proofs.lemmas.Arcs.{from_at-number, to_at-number, at_precedes}
use Rattle.racp_check.specs.PlanFaults.{IsFirstBroken}
use Rattle.racp_check.specs.PlanTests.{IsBrokenAnswer}

-- the places of the two jobs of the pair of numbers at k
abbrev pub before_at : List (ℕ × ℕ) → ℕ → ℕ
before_at arcs k = (slice_index_or arcs k (0, 0)).0 - 1

abbrev pub after_at : List (ℕ × ℕ) → ℕ → ℕ
after_at arcs k = (slice_index_or arcs k (0, 0)).1 - 1

-- the pair of numbers at k is kept
abbrev pub IsKeptAt : Project → List ℕ → List (ℕ × ℕ) → ℕ → Type 0
IsKeptAt p starts arcs k = slice_index starts (before_at arcs k) + duration p (before_at arcs k) ≤ slice_index starts (after_at arcs k)

-- the numbers of a pair are those of its places
pub numbers_at : (p : Project) (k : ℕ) → IsSound p → k < length p.arcs →
    (number (before_at p.arcs k) ≡ (slice_index_or p.arcs k (0, 0)).0) × (number (after_at p.arcs k) ≡ (slice_index_or p.arcs k (0, 0)).1)
numbers_at p k sound l =
    let h : IsNumber (length p.jobs) (slice_index_or p.arcs k (0, 0)).0 × IsNumber (length p.jobs) (slice_index_or p.arcs k (0, 0)).1 = sound.named k (0, 0) l in
    (omega (arith, h.0.0), omega (arith, h.1.0))

-- the pair at k orders its two jobs
pub ordered_at : (p : Project) (k : ℕ) → IsSound p → k < length p.arcs → Precedes p (before_at p.arcs k) (after_at p.arcs k)
ordered_at p k sound l =
    let e = numbers_at p k sound l in
    let before : from_at p.arcs k ≡ before_at p.arcs k = omega (arith, from_at-number p.arcs k (before_at p.arcs k) (0, 0) l e.0) in
    let after : to_at p.arcs k ≡ after_at p.arcs k = omega (arith, to_at-number p.arcs k (after_at p.arcs k) (0, 0) l e.1) in
    let P : ℕ → Type 0 = λ i. Precedes p i (to_at p.arcs k) in
    let Q : ℕ → Type 0 = λ j. Precedes p (before_at p.arcs k) j in
    subst Q after (subst P before (at_precedes p k sound.named l))

-- where two jobs in order stand among the pairs
pub places_of : (p : Project) (i j : ℕ) → (c : Precedes p i j) → (before_at p.arcs c.0 ≡ i) × (after_at p.arcs c.0 ≡ j)
places_of p i j c =
    let e : slice_index_or p.arcs c.0 (0, 0) ≡ (i + 1, j + 1) = get_or_default p.arcs c.0 (0, 0) (i + 1, j + 1) c.1 ∙ c.2 in
    (omega (arith, ap (λ (a : ℕ × ℕ). a.0) e), omega (arith, ap (λ (a : ℕ × ℕ). a.1) e))

-- two jobs in order are kept where their pair is
pub kept_by : (p : Project) (starts : List ℕ) (i j : ℕ) → (c : Precedes p i j) → IsKeptAt p starts p.arcs c.0 → slice_index starts i + duration p i ≤ slice_index starts j
kept_by p starts i j c kept =
    let e = places_of p i j c in
    omega (arith, kept, ap (slice_index starts) e.0, ap (duration p) e.0, ap (slice_index starts) e.1)

-- where all pairs are kept, precedence is
pub all_kept : (p : Project) (starts : List ℕ) → ((k : ℕ) → k < length p.arcs → IsKeptAt p starts p.arcs k) → KeepsPrecedence p starts
all_kept p starts kept i j c = kept_by p starts i j c (kept c.0 c.1)

-- a pair before another in order stands before it in the list
pub stands_before : (p : Project) (k a b : ℕ) → IsSound p → k < length p.arcs → (c : Precedes p a b) → IsArcBefore (a, b) (before_at p.arcs k, after_at p.arcs k) → c.0 < k
stands_before p k a b sound l c less = elim (cases_lt c.0 k) [
  | inl before ↦ before
  | inr after ↦
      let e = places_of p a b c in
      let n = numbers_at p k sound l in
      let m = numbers_at p c.0 sound c.1 in
      elim (cases_lt k c.0) [
        | inl apart ↦
            let rises : IsArcBefore (slice_index_or p.arcs k (0, 0)) (slice_index_or p.arcs c.0 (0, 0)) = sound.rising k c.0 (0, 0) apart c.1 in
            elim rises [
              | inl first ↦ elim less [ inl f ↦ absurd (omega arith) | inr s ↦ absurd (omega (arith, s.0)) ]
              | inr second ↦ elim less [ inl f ↦ absurd (omega (arith, second.0)) | inr s ↦ absurd (omega (arith, s.1, second.1)) ]
            ]
        | inr here ↦
            let same : c.0 ≡ k = omega arith in
            elim less [
              | inl f ↦ absurd (omega (arith, ap (before_at p.arcs) same))
              | inr s ↦ absurd (omega (arith, s.1, ap (after_at p.arcs) same))
            ]
      ]
]

-- a pair that is not kept, after pairs that are, is the first
pub first_broken : (p : Project) (starts : List ℕ) (k : ℕ) → IsSound p → k < length p.arcs → ((q : ℕ) → q < k → IsKeptAt p starts p.arcs q) →
    slice_index starts (after_at p.arcs k) < slice_index starts (before_at p.arcs k) + duration p (before_at p.arcs k) →
    IsFirstBroken p starts (before_at p.arcs k) (after_at p.arcs k)
first_broken p starts k sound l kept broken = record {
  pair = ordered_at p k sound l;
  broken = broken;
  first = λ a b c less. kept_by p starts a b c (kept c.0 (stands_before p k a b sound l c less));
}

-- the answer at such a pair, of a list that has the pairs of the project
pub broken_answer : (p : Project) (starts : List ℕ) (arcs : List (ℕ × ℕ)) (k : ℕ) → arcs ≡ p.arcs → IsSound p → k < length arcs → ((q : ℕ) → q < k → IsKeptAt p starts arcs q) →
    slice_index starts (after_at arcs k) < slice_index starts (before_at arcs k) + duration p (before_at arcs k) →
    IsBrokenAnswer p starts (Some (slice_index_or arcs k (0, 0)))
broken_answer p starts arcs k same sound =
    let P : List (ℕ × ℕ) → Type 0 = λ arcs. k < length arcs → ((q : ℕ) → q < k → IsKeptAt p starts arcs q) →
    slice_index starts (after_at arcs k) < slice_index starts (before_at arcs k) + duration p (before_at arcs k) →
    IsBrokenAnswer p starts (Some (slice_index_or arcs k (0, 0))) in
    subst P (sym same) (λ l kept broken. (
      before_at p.arcs k,
      after_at p.arcs k,
      (numbers_at p k sound l).0,
      (numbers_at p k sound l).1,
      first_broken p starts k sound l kept broken,
    ))

-- and where all pairs of the list are kept
pub kept_answer : (p : Project) (starts : List ℕ) (arcs : List (ℕ × ℕ)) → arcs ≡ p.arcs → ((k : ℕ) → k < length arcs → IsKeptAt p starts arcs k) → KeepsPrecedence p starts
kept_answer p starts arcs same =
    let P : List (ℕ × ℕ) → Type 0 = λ arcs. ((k : ℕ) → k < length arcs → IsKeptAt p starts arcs k) → KeepsPrecedence p starts in
    subst P (sym same) (all_kept p starts)
