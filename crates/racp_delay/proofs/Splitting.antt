-- The parts of a split.
use Rattle.std.proofs.Common.{◌≡◌, ◌≢◌, ℕ, ◌+◌, ◌<◌, ◌⊎◌, inl, inr, List, [], ◌∷◌, length, arith, refl, ap}
use Rattle.racp_model.specs.Project.{Project}
use Rattle.racp_delay.specs.Alternatives.{Splits, load}
use Rattle.racp_delay.specs.Alternatives.Splits.{none, goes, stays}
use Rattle.racp_delay.specs.Found.{Each}
use Rattle.racp_delay.proofs.Each.{Some_of, Ascends}

-- the loads of the two parts sum to that of the whole
pub load-splits : (p : Project) (k : ℕ) {jobs gone kept : List ℕ} → Splits jobs gone kept → load p k jobs ≡ load p k gone + load p k kept
unfolding load
load-splits p k none = omega arith
load-splits p k (goes s) = omega (arith, load-splits p k s)
load-splits p k (stays s) = omega (arith, load-splits p k s)

-- all go
pub splits-all : (jobs : List ℕ) → Splits jobs jobs []
splits-all [] = none
splits-all (job ∷ jobs) = goes (splits-all jobs)

-- none goes
pub splits-none : (jobs : List ℕ) → Splits jobs [] jobs
splits-none [] = none
splits-none (job ∷ jobs) = stays (splits-none jobs)

-- where none goes, all stay
pub all_stay : {jobs kept : List ℕ} → Splits jobs [] kept → kept ≡ jobs
all_stay none = refl
all_stay (stays {job = job} s) = ap (λ js. job ∷ js) (all_stay s)

-- a part of those that go is a part of all
pub splits-part : {jobs gone kept part others : List ℕ} → Splits jobs gone kept → Splits gone part others → (rest : List ℕ) × Splits jobs part rest
splits-part none none = ([], none)
splits-part (goes s) (goes t) = let h = splits-part s t in (h.0, goes h.1)
splits-part (goes {job = job} s) (stays t) = let h = splits-part s t in (job ∷ h.0, stays h.1)
splits-part (stays {job = job} s) t = let h = splits-part s t in (job ∷ h.0, stays h.1)

-- where only a part goes, the others are back with those that stay
pub splits-back : {jobs gone kept part others : List ℕ} → Splits jobs gone kept → Splits gone part others → (rest : List ℕ) × Splits jobs part rest × Splits rest others kept
splits-back none none = ([], none, none)
splits-back (goes s) (goes t) = let h = splits-back s t in (h.0, goes h.1, h.2)
splits-back (goes {job = job} s) (stays t) = let h = splits-back s t in (job ∷ h.0, stays h.1, goes h.2)
splits-back (stays {job = job} s) t = let h = splits-back s t in (job ∷ h.0, stays h.1, stays h.2)

-- a part of those that stay is a part of all
pub splits-kept : {jobs gone kept out rest : List ℕ} → Splits jobs gone kept → Splits kept out rest → (more : List ℕ) × Splits jobs more rest
splits-kept none none = ([], none)
splits-kept (goes {job = job} s) t = let h = splits-kept s t in (job ∷ h.0, goes h.1)
splits-kept (stays {job = job} s) (goes t) = let h = splits-kept s t in (job ∷ h.0, goes h.1)
splits-kept (stays s) (stays t) = let h = splits-kept s t in (h.0, stays h.1)

-- the lengths sum up
pub splits-length : {jobs gone kept : List ℕ} → Splits jobs gone kept → length jobs ≡ length gone + length kept
splits-length none = omega arith
splits-length (goes s) = omega (arith, splits-length s)
splits-length (stays s) = omega (arith, splits-length s)

-- what holds of each job holds of each that stays
pub each-kept : (P : ℕ → Type 0) {jobs gone kept : List ℕ} → Splits jobs gone kept → Each P jobs → Each P kept
each-kept P none h = tt
each-kept P (goes s) h = each-kept P s h.1
each-kept P (stays s) h = (h.0, each-kept P s h.1)

-- and of each that goes
pub each-gone : (P : ℕ → Type 0) {jobs gone kept : List ℕ} → Splits jobs gone kept → Each P jobs → Each P gone
each-gone P none h = tt
each-gone P (goes s) h = (h.0, each-gone P s h.1)
each-gone P (stays s) h = each-gone P s h.1

-- what holds of each job taken out alone
pub each_without : (P : ℕ → Type 0) (jobs : List ℕ) → ((job : ℕ) (part : List ℕ) → Splits jobs part (job ∷ []) → P job) → Each P jobs
each_without P [] h = tt
each_without P (job ∷ jobs) h = (h job jobs (stays (splits-all jobs)), each_without P jobs (λ i part s. h i (job ∷ part) (goes s)))

-- what holds of some job holds of one that goes or of one that stays
pub some-splits : (P : ℕ → Type 0) {jobs gone kept : List ℕ} → Splits jobs gone kept → Some_of P jobs → Some_of P gone ⊎ Some_of P kept
some-splits P none s = absurd s
some-splits P (goes t) s = elim s [
  | inl here ↦ inl (inl here)
  | inr there ↦ elim (some-splits P t there) [ inl g ↦ inl (inr g) | inr k ↦ inr k ]
]
some-splits P (stays t) s = elim s [
  | inl here ↦ inr (inl here)
  | inr there ↦ elim (some-splits P t there) [ inl g ↦ inl g | inr k ↦ inr (inr k) ]
]

-- a list splits by any test
pub split_by : (P Q : ℕ → Type 0) → ((job : ℕ) → P job ⊎ Q job) → (jobs : List ℕ) → (gone : List ℕ) × (kept : List ℕ) × Splits jobs gone kept × Each P gone × Each Q kept
split_by P Q test [] = ([], [], none, tt, tt)
split_by P Q test (job ∷ jobs) =
    let h = split_by P Q test jobs in
    elim (test job) [
      | inl here ↦ (job ∷ h.0, h.1, goes h.2, (here, h.3), h.4)
      | inr other ↦ (h.0, job ∷ h.1, stays h.2, h.3, (other, h.4))
    ]

-- those that stay of a rising list rise
pub ascends-kept : {jobs gone kept : List ℕ} → Splits jobs gone kept → Ascends jobs → Ascends kept
ascends-kept none h = tt
ascends-kept (goes s) h = ascends-kept s h.1
ascends-kept (stays {job = job} s) h = (each-kept (λ i. job < i) s h.0, ascends-kept s h.1)

-- and so do those that go
pub ascends-gone : {jobs gone kept : List ℕ} → Splits jobs gone kept → Ascends jobs → Ascends gone
ascends-gone none h = tt
ascends-gone (goes {job = job} s) h = (each-gone (λ i. job < i) s h.0, ascends-gone s h.1)
ascends-gone (stays s) h = ascends-gone s h.1

-- where some job stays there is some job
pub stays_not_empty : {jobs gone kept : List ℕ} → Splits jobs gone kept → kept ≢ [] → jobs ≢ []
stays_not_empty none some = some
stays_not_empty (goes s) some = λ e. cc
stays_not_empty (stays s) some = λ e. cc
