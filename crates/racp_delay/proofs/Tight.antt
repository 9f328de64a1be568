-- The minimal delaying alternatives are those with which no job that goes could stay.
use Rattle.std.proofs.Common.{◌≡◌, ◌≢◌, ℕ, zero, suc, ◌+◌, ◌<◌, ◌≤◌, ◌⊎◌, inl, inr, List, [], ◌∷◌, length, slice_index, arith, refl, subst}
use Rattle.std.proofs.lemmas.Bool.{cases_lt}
use Rattle.racp_model.specs.Project.{Project, place, request}
use Rattle.racp_delay.specs.Alternatives.{Splits, load, CanRun, IsDelaying, IsMinimalDelayingAlternative}
use Rattle.racp_delay.specs.Alternatives.Splits.{none, goes, stays}
use Rattle.racp_delay.specs.Found.{OneMoreRuns, Each, with_load, IsTight}
use Rattle.racp_delay.proofs.Splitting.{load-splits, splits-part, splits-back, splits-kept, splits-all, splits-none, splits-length, each_without, each-kept}

-- no job is kept beside
abbrev pub none_kept : ℕ → ℕ
none_kept k = 0

-- a minimal alternative is tight
pub tight-from_minimal : (p : Project) (capacities active gone kept : List ℕ) → Splits active gone kept → IsMinimalDelayingAlternative p capacities active gone → IsTight p capacities none_kept gone kept
unfolding load
tight-from_minimal p capacities active gone kept s m = record {
  runs = λ k l. omega (arith, load-splits p k s, load-splits p k m.delays.1, m.delays.2 k l);
  tight = each_without (λ job. OneMoreRuns p capacities (with_load p none_kept kept) job → ⊥) gone (λ job part t more.
      let h = splits-part s t in
      m.least part (job ∷ []) t (λ e. cc) (
        h.0,
        h.1,
        λ k l.
            let whole : load p k active ≡ load p k gone + load p k kept = load-splits p k s in
            let parts : load p k active ≡ load p k part + load p k h.0 = load-splits p k h.1 in
            let taken : load p k gone ≡ load p k part + (request p (place job) k + 0) = load-splits p k t in
            omega (arith, more k l),
      ));
}

-- and what is tight is a minimal alternative
pub minimal-from_tight : (p : Project) (capacities active gone kept : List ℕ) → Splits active gone kept → IsTight p capacities none_kept gone kept → IsMinimalDelayingAlternative p capacities active gone
unfolding load
minimal-from_tight p capacities active gone kept s t = record {
  delays = (kept, s, λ k l. omega (arith, t.runs k l));
  least = λ part others u some d. go part others u some d (each-kept (λ job. OneMoreRuns p capacities (with_load p none_kept kept) job → ⊥) u t.tight);
}
  where
    go : (part others : List ℕ) → Splits gone part others → others ≢ [] → IsDelaying p capacities active part → Each (λ job. OneMoreRuns p capacities (with_load p none_kept kept) job → ⊥) others → ⊥
    go part [] u some d e = some refl
    go part (job ∷ others) u some d e = e.0 (λ k l.
        let whole : load p k active ≡ load p k gone + load p k kept = load-splits p k s in
        let parts : load p k active ≡ load p k part + load p k d.0 = load-splits p k d.1 in
        let taken : load p k gone ≡ load p k part + (request p (place job) k + load p k others) = load-splits p k u in
        omega (arith, d.2 k l))

-- a test of all numbers below n
pub all_below : (n : ℕ) (f g : ℕ → ℕ) → ((k : ℕ) → k < n → f k ≤ g k) ⊎ ((k : ℕ) × (k < n) × (g k < f k))
all_below zero f g = inl (λ k l. omega arith)
all_below (suc n) f g = elim (all_below n f g) [
  | inl below ↦ elim (cases_lt (g n) (f n)) [
    | inl over ↦ inr (n, omega arith, over)
    | inr here ↦ inl (λ k l. elim (cases_lt k n) [
      | inl less ↦ below k less
      | inr most ↦ let e : n ≡ k = omega arith in let P : ℕ → Type 0 = λ x. f x ≤ g x in subst P e here
    ])
  ]
  | inr some ↦ inr (some.0, omega (arith, some.1), some.2)
]

-- some job that goes could stay, or none
pub find_loose : (p : Project) (capacities kept jobs : List ℕ) → Each (λ job. OneMoreRuns p capacities (with_load p none_kept kept) job → ⊥) jobs
    ⊎ ((job : ℕ) × (part : List ℕ) × Splits jobs part (job ∷ []) × OneMoreRuns p capacities (with_load p none_kept kept) job)
find_loose p capacities kept [] = inl tt
find_loose p capacities kept (job ∷ jobs) = elim (all_below p.resources (λ k. with_load p none_kept kept k + request p (place job) k) (slice_index capacities)) [
  | inl runs ↦ inr (job, jobs, stays (splits-all jobs), runs)
  | inr over ↦ elim (find_loose p capacities kept jobs) [
    | inl tight ↦ inl ((λ runs. absurd (omega (arith, over.2, runs over.0 over.1))), tight)
    | inr some ↦ inr (some.0, job ∷ some.1, goes some.2, some.3)
  ]
]

-- a minimal alternative inside an alternative
pub record HoldsMinimal (p : Project) (capacities active gone kept : List ℕ) : Type 0 where
  pub part : List ℕ
  pub stay : List ℕ
  pub splits : Splits active part stay
  pub tight : IsTight p capacities none_kept part stay
  pub part_of : (others : List ℕ) × Splits gone part others
  pub holds : (more : List ℕ) × Splits stay more kept

-- each alternative has one
pub minimal_inside : (p : Project) (capacities active : List ℕ) (n : ℕ) (gone kept : List ℕ) → length gone ≤ n → Splits active gone kept → CanRun p capacities kept → HoldsMinimal p capacities active gone kept
unfolding load
minimal_inside p capacities active zero [] kept l s runs = record { part = []; stay = kept; splits = s; tight = record { runs = λ k q. omega (arith, runs k q); tight = tt }; part_of = ([], none); holds = ([], splits-none kept) }
minimal_inside p capacities active zero (job ∷ gone) kept l s runs = absurd (omega arith)
minimal_inside p capacities active (suc n) gone kept l s runs = elim (find_loose p capacities kept gone) [
  | inl tight ↦ record { part = gone; stay = kept; splits = s; tight = record { runs = λ k q. omega (arith, runs k q); tight = tight }; part_of = ([], splits-all gone); holds = ([], splits-none kept) }
  | inr some ↦
      let back = splits-back s some.2 in
      let shorter : length gone ≡ length some.1 + 1 = splits-length some.2 in
      let more : CanRun p capacities back.0 = λ k q.
      let e : load p k back.0 ≡ (request p (place some.0) k + 0) + load p k kept = load-splits p k back.2 in
      omega (arith, some.3 k q) in
      let h = minimal_inside p capacities active n some.1 back.0 (omega arith) back.1 more in
      record { part = h.part; stay = h.stay; splits = h.splits; tight = h.tight; part_of = splits-part some.2 h.part_of.1; holds = splits-kept h.holds.1 back.2 }
]
