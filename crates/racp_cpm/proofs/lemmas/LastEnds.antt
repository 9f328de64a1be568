-- There is a greatest finish.
use Rattle.std.proofs.Common.{◌≡◌, ℕ, zero, suc, ◌+◌, ◌-◌, ◌<◌, ◌≤◌, inl, inr, List, length, slice_index, arith}
use Rattle.std.proofs.lemmas.Bool.{cases_lt}
use Rattle.racp_model.specs.Project.{Project, IsSound, duration}
use Rattle.racp_model.proofs.lemmas.Lists.{below_suc}
use Rattle.racp_cpm.specs.Ends.{IsLastEnd}

-- of one value or more there is a greatest
pub greatest : (f : ℕ → ℕ) (n : ℕ) → (i : ℕ) × (i < suc n) × ((j : ℕ) → j < suc n → f j ≤ f i)
greatest f zero = (0, omega arith, below_suc (λ j. f j ≤ f 0) 0 (λ j l. absurd (omega arith)) (omega arith))
greatest f (suc n) =
    let best = greatest f n in
    elim (cases_lt (f best.0) (f (suc n))) [
      | inl more ↦ (suc n, omega arith, below_suc (λ j. f j ≤ f (suc n)) (suc n) (λ j l. omega (arith, best.2 j l, more)) (omega arith))
      | inr less ↦ (best.0, omega (arith, best.1), below_suc (λ j. f j ≤ f best.0) (suc n) best.2 less)
    ]

-- there is a greatest finish
pub some_last_end : (p : Project) (starts : List ℕ) → IsSound p → (last : ℕ) × IsLastEnd p starts last
some_last_end p starts sound =
    let best = greatest (λ (i : ℕ). slice_index starts i + duration p i) (length p.jobs - 1) in
    let all : suc (length p.jobs - 1) ≡ length p.jobs = omega (arith, sound.limits.some_job) in (
      slice_index starts best.0 + duration p best.0,
      record { some = (best.0, omega (arith, all, best.1), omega arith); most = λ i l. best.2 i (omega (arith, all)) },
    )
