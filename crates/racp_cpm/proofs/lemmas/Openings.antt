-- From an order's times to the first reason for which there is no root window.
use Rattle.std.proofs.Common.{◌≡◌, ℕ, zero, suc, ◌≤◌, min, List, [], ◌∷◌, slice_index, map, Some, All, arith, refl}
use Rattle.racp_model.specs.Project.{Project, number}
use Rattle.racp_model.specs.Path.{IsEarly, IsCriticalLength}
use Rattle.racp_model.specs.Terms.{Terms, release_of, due_of}
use Rattle.racp_model.specs.Plan.{IsTooLong, IsTooLateAt}
use Rattle.racp_cpm.specs.Ends.{IsFirstLateAnswer}

-- due times that are cut to the deadline, at a place
pub due-at : (deadline : ℕ) (due : List ℕ) (i : ℕ) → slice_index (map (λ time. min time deadline) due) i ≡ min (slice_index due i) deadline
due-at deadline [] i = omega arith
due-at deadline (x ∷ due) zero = refl
due-at deadline (x ∷ due) (suc i) = due-at deadline due i

-- they are those of the terms
pub due-is : (terms : Terms) (due : List ℕ) → due ≡ map (λ time. min time terms.deadline) terms.due → slice_index due ≡ due_of terms
due-is terms due e = let at : (i : ℕ) → slice_index due i ≡ due_of terms i = λ i. rw e (due-at terms.deadline terms.due i) in λ j i. at i j

-- and none is above the deadline
pub due-small : (deadline most : ℕ) (due : List ℕ) → deadline ≤ most → All (λ time. time ≤ most) (map (λ time. min time deadline) due)
due-small deadline most [] h k d l = absurd (omega arith)
due-small deadline most (x ∷ due) h zero d l = omega arith
due-small deadline most (x ∷ due) h (suc k) d l = due-small deadline most due h k d (omega arith)

-- where the critical length does not exceed the deadline, no length that does is critical
pub not_too_long : (p : Project) (terms : Terms) (critical : ℕ) → IsCriticalLength p (release_of terms) critical → critical ≤ terms.deadline → (other : ℕ) → IsTooLong p terms other → ⊥
not_too_long p terms critical h most other long =
    omega (arith, most, long.exceeds, long.length.some.2, h.most long.length.some.0 long.length.some.1)

-- a first late job
pub too_late : (p : Project) (terms : Terms) (critical : ℕ) (early : List ℕ) (job : ℕ) → IsCriticalLength p (release_of terms) critical → critical ≤ terms.deadline →
    IsEarly p (release_of terms) early → IsFirstLateAnswer p (due_of terms) early (Some job) → (i : ℕ) × (number i ≡ job) × IsTooLateAt p terms i
too_late p terms critical early job h most e late = (late.0, late.1, record { not_long = not_too_long p terms critical h most; late = (early, e, late.2) })
