-- The set of the jobs that start before a time, as it is collected.
use Rattle.std.proofs.Common.{◌≡◌, ◌⊎◌, inl, inr, ℕ, ◌+◌, ◌<◌, ◌≤◌, List, [], length, slice_index, arith, subst, Contains}
use Rattle.std.proofs.lemmas.Bool.{cases_lt}
use Rattle.std.specs.List.Sorted.{IsStrictlyIncreasing}
use Rattle.racp_model.specs.Project.{number, place, IsNumber}
use Rattle.racp_model.specs.JobSets.{AreJobs, IsInserted}
use Rattle.racp_model.proofs.lemmas.Relations.{no_member}
use Rattle.racp_cutset.specs.Covering.{AreStartedBefore}

-- of the jobs before place n those that start before the time
pub record AreStartedBelow (early : List ℕ) (time n : ℕ) (started : List ℕ) : Type 0 where
  pub rises : IsStrictlyIncreasing started
  pub only : (job : ℕ) → Contains started job → IsNumber n job × (slice_index early (place job) < time)
  pub all : (job : ℕ) → IsNumber n job → slice_index early (place job) < time → Contains started job

-- none at the start
pub started-none : (early : List ℕ) (time : ℕ) → AreStartedBelow early time 0 []
started-none early time = record {
  rises = λ k l. absurd (omega arith);
  only = λ job c. absurd (no_member job c);
  all = λ job is a. absurd (omega (arith, is.0, is.1));
}

-- the place of a job below n + 1 is below n, or n
pub next-number : (n job : ℕ) → IsNumber (n + 1) job → IsNumber n job ⊎ (job ≡ number n)
next-number n job is = elim (cases_lt n job) [ inl last ↦ inr (omega (arith, is.1)) | inr before ↦ inl (is.0, before) ]

-- one more
pub started-more : (early : List ℕ) (time n : ℕ) (started new : List ℕ) → AreStartedBelow early time n started → slice_index early n < time → IsInserted started (number n) new → AreJobs new → AreStartedBelow early time (n + 1) new
started-more early time n started new h a inserted are = record {
  rises = are.rises;
  only = λ other c. elim ((inserted other).0 c) [
    | inl same ↦ ((omega (arith, same), omega (arith, same)), (let e : n ≡ place other = omega (arith, same) in subst (λ (i : ℕ). slice_index early i < time) e a))
    | inr old ↦ let o = h.only other old in ((o.0.0, omega (arith, o.0.1)), o.1)
  ];
  all = λ other is b. elim (next-number n other is) [
    | inl before ↦ (inserted other).1 (inr (h.all other before b))
    | inr last ↦ (inserted other).1 (inl last)
  ];
}

-- or the same
pub started-same : (early : List ℕ) (time n : ℕ) (started : List ℕ) → AreStartedBelow early time n started → time ≤ slice_index early n → AreStartedBelow early time (n + 1) started
started-same early time n started h later = record {
  rises = h.rises;
  only = λ other c. (let o = h.only other c in ((o.0.0, omega (arith, o.0.1)), o.1));
  all = λ other is b. elim (next-number n other is) [
    | inl before ↦ h.all other before b
    | inr last ↦ absurd (
        let e : place other ≡ n = omega (arith, last) in
        let at : slice_index early n < time = subst (λ (i : ℕ). slice_index early i < time) e b in
        omega (arith, at, later))
  ];
}

-- at the end all
pub started-end : (early : List ℕ) (time n : ℕ) (started : List ℕ) → n ≡ length early → AreStartedBelow early time n started → AreStartedBefore early time started
started-end early time n started e h =
    let g : AreStartedBelow early time (length early) started = subst (λ (m : ℕ). AreStartedBelow early time m started) e h in
    record { rises = g.rises; members = λ job. (g.only job, λ h'. g.all job h'.0 h'.1) }
