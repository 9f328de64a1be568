-- What the jobs of a list load, beside a sum over all jobs.
use Rattle.std.proofs.Common.{◌≡◌, ℕ, zero, suc, ◌+◌, ◌<◌, ◌≤◌, inl, inr, List, [], ◌∷◌, length, arith, ap, subst, Contains}
use Rattle.std.proofs.lemmas.Bool.{cases_lt}
use Rattle.racp_model.specs.Project.{Project, request, number, place, IsNumber}
use Rattle.racp_model.specs.Schedule.{IsActive, use_of, usage, sum_below}
use Rattle.racp_model.proofs.lemmas.Usage.{use_of-active, use_of-idle}
use Rattle.racp_model.proofs.lemmas.Relations.{member_cases}
use Rattle.racp_delay.specs.Alternatives.{load}
use Rattle.racp_delay.specs.Found.{Each}
use Rattle.racp_delay.specs.Branching.{IsActiveSet}
use Rattle.racp_delay.specs.Laws.{LoadIsUsage}
use Rattle.racp_delay.proofs.Each.{each-map, each-member, each-members, Ascends, ascends}

-- a longer sum is no less
pub sum_below-longer : (m n : ℕ) (f : ℕ → ℕ) → m ≤ n → sum_below m f ≤ sum_below n f
unfolding sum_below
sum_below-longer m zero f l = let e : m ≡ 0 = omega arith in omega (arith, ap (λ (x : ℕ). sum_below x f) e)
sum_below-longer m (suc n) f l = elim (cases_lt n m) [
  | inl past ↦ let e : m ≡ suc n = omega arith in omega (arith, ap (λ (x : ℕ). sum_below x f) e)
  | inr within ↦ omega (arith, sum_below-longer m n f within)
]

-- where nothing is added, a sum stays
pub sum_below-flat : (low n : ℕ) (f : ℕ → ℕ) → low ≤ n → ((i : ℕ) → low ≤ i → i < n → f i ≡ 0) → sum_below n f ≤ sum_below low f
unfolding sum_below
sum_below-flat low zero f l h = let e : low ≡ 0 = omega arith in omega (arith, ap (λ (x : ℕ). sum_below x f) e)
sum_below-flat low (suc n) f l h = elim (cases_lt n low) [
  | inl past ↦ let e : low ≡ suc n = omega arith in omega (arith, ap (λ (x : ℕ). sum_below x f) e)
  | inr within ↦ omega (arith, sum_below-flat low n f within (λ i a b. h i a (omega arith)), h n within (omega arith))
]

-- a job's number is that of one of n jobs, from a place on
abbrev pub IsFrom : ℕ → ℕ → ℕ → Type 0
IsFrom low n job = (low < job) × (job ≤ n)

-- jobs of a rising list load no more than a sum over all jobs
pub load-within : (p : Project) (k n : ℕ) (f : ℕ → ℕ) (jobs : List ℕ) (low : ℕ) → low ≤ n → Ascends jobs → Each (λ job. low < job) jobs → Each (λ job. (job ≤ n) × (request p (place job) k ≤ f (place job))) jobs
    → sum_below low f + load p k jobs ≤ sum_below n f
unfolding load sum_below
load-within p k n f [] low l up from h = omega (arith, sum_below-longer low n f l)
load-within p k n f (job ∷ jobs) low l up from h =
    let i : ℕ = place job in
    let e : job ≡ suc i = omega (arith, from.0) in
    let before : sum_below low f ≤ sum_below i f = sum_below-longer low i f (omega (arith, from.0)) in
    let after : sum_below job f + load p k jobs ≤ sum_below n f = load-within p k n f jobs job h.0.0 up.1 up.0 h.1 in
    let step : sum_below job f ≡ sum_below i f + f i = ap (λ (x : ℕ). sum_below x f) e in
    omega (arith, h.0.1)

-- a sum over all jobs is no more than what the jobs of a rising list load, where it is nothing at the others
pub sum-within_load : (p : Project) (k n : ℕ) (f : ℕ → ℕ) (jobs : List ℕ) (low : ℕ) → low ≤ n → Ascends jobs → Each (λ job. low < job) jobs → Each (λ job. (job ≤ n) × (f (place job) ≤ request p (place job) k)) jobs
    → ((i : ℕ) → low ≤ i → i < n → (Contains jobs (number i) → ⊥) → f i ≡ 0) → sum_below n f ≤ sum_below low f + load p k jobs
unfolding load sum_below
sum-within_load p k n f [] low l up from h rest = omega (arith, sum_below-flat low n f l (λ i a b. rest i a b (λ c. absurd (omega (arith, c.1)))))
sum-within_load p k n f (job ∷ jobs) low l up from h rest =
    let i : ℕ = place job in
    let e : job ≡ suc i = omega (arith, from.0) in
    let after : sum_below n f ≤ sum_below job f + load p k jobs = sum-within_load p k n f jobs job h.0.0 up.1 up.0 h.1
    (λ q a b out. rest q (omega (arith, from.0)) b (λ c. elim (member_cases job jobs (number q) c) [ inl same ↦ absurd (omega arith) | inr there ↦ out there ])) in
    let before : sum_below i f ≤ sum_below low f = sum_below-flat low i f (omega (arith, from.0)) (λ q a b. rest q a (omega (arith, h.0.0)) (λ c. elim (member_cases job jobs (number q) c) [
      | inl same ↦ absurd (omega arith)
      | inr there ↦ absurd (omega (arith, each-member (λ x. job < x) jobs (number q) up.0 there))
    ])) in
    let step : sum_below job f ≡ sum_below i f + f i = ap (λ (x : ℕ). sum_below x f) e in
    omega (arith, h.0.1)

-- a job that is one of the project's and is active
abbrev pub IsActiveJob : Project → List ℕ → ℕ → ℕ → Type 0
IsActiveJob p starts t job = IsNumber (length p.jobs) job × IsActive p starts t (place job)

-- jobs that are all active at one time load no more than is used
pub load-active : (p : Project) (starts : List ℕ) (k t : ℕ) (jobs : List ℕ) → Ascends jobs → Each (IsActiveJob p starts t) jobs → load p k jobs ≤ usage p starts k t
unfolding sum_below
load-active p starts k t jobs up h =
    let within : sum_below 0 (use_of p starts k t) + load p k jobs ≤ usage p starts k t = load-within p k (length p.jobs) (use_of p starts k t) jobs 0 (omega arith) up
    (each-map (IsActiveJob p starts t) (λ job. 0 < job) jobs (λ job x. x.0.0) h)
    (each-map (IsActiveJob p starts t) (λ job. (job ≤ length p.jobs) × (request p (place job) k ≤ use_of p starts k t (place job))) jobs (λ job x. (x.0.1, omega (arith, use_of-active p starts k t (place job) x.1))) h) in
    omega arith

-- each job of the active set is active
pub each-active : (p : Project) (starts : List ℕ) (t : ℕ) (active : List ℕ) → IsActiveSet p starts t active → Each (IsActiveJob p starts t) active
each-active p starts t active set = each-members (IsActiveJob p starts t) active (λ job c. (set.members job).0 c)

-- what the active jobs request is what is used
pub load_is_usage : LoadIsUsage
unfolding sum_below
load_is_usage p starts t k active set =
    let runs : Each (IsActiveJob p starts t) active = each-active p starts t active set in
    let up : Ascends active = ascends active set.rises in
    let most : load p k active ≤ usage p starts k t = load-active p starts k t active up runs in
    let least : usage p starts k t ≤ sum_below 0 (use_of p starts k t) + load p k active = sum-within_load p k (length p.jobs) (use_of p starts k t) active 0 (omega arith) up
    (each-map (IsActiveJob p starts t) (λ job. 0 < job) active (λ job x. x.0.0) runs)
    (each-map (IsActiveJob p starts t) (λ job. (job ≤ length p.jobs) × (use_of p starts k t (place job) ≤ request p (place job) k)) active (λ job x. (x.0.1, omega (arith, use_of-active p starts k t (place job) x.1))) runs)
    (λ i a b out. use_of-idle p starts k t i (λ x. out (in_set i b x))) in
    omega arith
  where
    in_set : (i : ℕ) → i < length p.jobs → IsActive p starts t i → Contains active (number i)
    in_set i l x =
        let e : i ≡ place (number i) = omega arith in
        (set.members (number i)).1 ((omega arith, omega arith), subst (IsActive p starts t) e x)
