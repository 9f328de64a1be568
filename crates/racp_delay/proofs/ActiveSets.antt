-- The set of the active jobs, as it is collected.
use Rattle.std.proofs.Common.{◌≡◌, ◌⊎◌, inl, inr, ℕ, ◌+◌, List, [], length, arith, subst, Contains}
use Rattle.std.proofs.lemmas.Bool.{cases_lt}
use Rattle.std.specs.List.Sorted.{IsStrictlyIncreasing}
use Rattle.racp_model.specs.Project.{Project, number, place, IsNumber}
use Rattle.racp_model.specs.Schedule.{IsActive}
use Rattle.racp_model.specs.JobSets.{AreJobs, IsInserted}
use Rattle.racp_model.proofs.lemmas.Relations.{no_member}
use Rattle.racp_delay.specs.Branching.{IsActiveSet}

-- of the jobs before place n those that are active
pub record AreActiveBelow (p : Project) (starts : List ℕ) (t n : ℕ) (active : List ℕ) : Type 0 where
  pub rises : IsStrictlyIncreasing active
  pub only : (job : ℕ) → Contains active job → IsNumber n job × IsActive p starts t (place job)
  pub all : (job : ℕ) → IsNumber n job → IsActive p starts t (place job) → Contains active job

-- none at the start
pub active-none : (p : Project) (starts : List ℕ) (t : ℕ) → AreActiveBelow p starts t 0 []
active-none p starts t = record {
  rises = λ k l. absurd (omega arith);
  only = λ job c. absurd (no_member job c);
  all = λ job is a. absurd (omega (arith, is.0, is.1));
}

-- the place of a job below n + 1 is below n, or n
pub next-number : (n job : ℕ) → IsNumber (n + 1) job → IsNumber n job ⊎ (job ≡ number n)
next-number n job is = elim (cases_lt n job) [ inl last ↦ inr (omega (arith, is.1)) | inr before ↦ inl (is.0, before) ]

-- one more
pub active-more : (p : Project) (starts : List ℕ) (t n job : ℕ) (active new : List ℕ) → AreActiveBelow p starts t n active → job ≡ number n → IsActive p starts t n → IsInserted active job new → AreJobs new → AreActiveBelow p starts t (n + 1) new
active-more p starts t n job active new h is_job a inserted are = record {
  rises = are.rises;
  only = λ other c. elim ((inserted other).0 c) [
    | inl same ↦ ((omega (arith, is_job, same), omega (arith, is_job, same)), (let e : n ≡ place other = omega (arith, is_job, same) in subst (IsActive p starts t) e a))
    | inr old ↦ let o = h.only other old in ((o.0.0, omega (arith, o.0.1)), o.1)
  ];
  all = λ other is b. elim (next-number n other is) [
    | inl before ↦ (inserted other).1 (inr (h.all other before b))
    | inr last ↦ (inserted other).1 (inl (omega (arith, last, is_job)))
  ];
}

-- or the same
pub active-same : (p : Project) (starts : List ℕ) (t n : ℕ) (active : List ℕ) → AreActiveBelow p starts t n active → (IsActive p starts t n → ⊥) → AreActiveBelow p starts t (n + 1) active
active-same p starts t n active h idle = record {
  rises = h.rises;
  only = λ other c. (let o = h.only other c in ((o.0.0, omega (arith, o.0.1)), o.1));
  all = λ other is b. elim (next-number n other is) [
    | inl before ↦ h.all other before b
    | inr last ↦ absurd (idle (let e : place other ≡ n = omega (arith, last) in subst (IsActive p starts t) e b))
  ];
}

-- at the end all
pub active-end : (p : Project) (starts : List ℕ) (t n : ℕ) (active : List ℕ) → n ≡ length p.jobs → AreActiveBelow p starts t n active → IsActiveSet p starts t active
active-end p starts t n active e h =
    let g : AreActiveBelow p starts t (length p.jobs) active = subst (λ (m : ℕ). AreActiveBelow p starts t m active) e h in
    record { rises = g.rises; members = λ job. (g.only job, λ h'. g.all job h'.0 h'.1) }
