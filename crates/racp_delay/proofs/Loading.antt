-- A walk over the jobs of a set that sums up what they request.
use Rattle.std.proofs.Common.{◌≡◌, ℕ, ◌+◌, ◌*◌, ◌<◌, ◌≤◌, List, [], ◌∷◌, ◌++◌, length, slice_index, arith, ap, sym, ◌∙◌, subst, append_assoc, length-append, replicate, All}
use Rattle.std.proofs.lemmas.List.{append-nil}
use Rattle.racp_model.specs.Project.{Project, place, request, IsNumber, IsSound}
use Rattle.racp_model.specs.JobSets.{AreJobs}
use Rattle.racp_model.proofs.lemmas.Sums.{request-small}
use Rattle.racp_model.proofs.lemmas.Zeros.{zeros}
use Rattle.racp_delay.specs.Alternatives.{load}
use Rattle.racp_delay.specs.Found.{Each, AreLoads}
use Rattle.racp_delay.proofs.Each.{each-right, each-map, all-each, Ascends, ascends}

-- of the jobs, those in a list are summed up, and the others are left
pub record IsLoading (p : Project) (jobs list left loads : List ℕ) : Type 0 where
  pub parts : list ++ left ≡ jobs
  pub sums : (k : ℕ) → k < p.resources → slice_index loads k ≡ load p k list
  pub small : (k : ℕ) → k < p.resources → slice_index loads k ≤ 10000 * length list

-- what a list and one job more load
pub load-push : (p : Project) (k : ℕ) (list : List ℕ) (job : ℕ) → load p k (list ++ job ∷ []) ≡ load p k list + request p (place job) k
unfolding load
load-push p k [] job = omega arith
load-push p k (i ∷ list) job = omega (arith, load-push p k list job)

-- a rising list of numbers up to a most has at most as many
pub rising-length : (xs : List ℕ) (low most : ℕ) → low ≤ most → Ascends xs → Each (λ x. low < x) xs → Each (λ x. x ≤ most) xs → length xs + low ≤ most
rising-length [] low most l up from upto = omega arith
rising-length (x ∷ xs) low most l up from upto = omega (arith, rising-length xs x most upto.0 up.1 up.0 upto.1, from.0)

-- so a set has at most 512 jobs
pub few-jobs : (jobs : List ℕ) → AreJobs jobs → length jobs ≤ 512
few-jobs jobs h =
    let numbers : Each (IsNumber 512) jobs = all-each (IsNumber 512) jobs h.numbers in
    omega (arith, rising-length jobs 0 512 (omega arith) (ascends jobs h.rises) (each-map (IsNumber 512) (λ x. 0 < x) jobs (λ x n. n.0) numbers) (each-map (IsNumber 512) (λ x. x ≤ 512) jobs (λ x n. n.1) numbers))

-- at the start nothing is summed up
pub loading-start : (p : Project) (jobs list left : List ℕ) (n : ℕ) → list ≡ [] → left ≡ jobs → IsLoading p jobs list left (replicate n 0)
unfolding load
loading-start p jobs list left n el e = record {
  parts = ap (λ (xs : List ℕ). xs ++ left) el ∙ e;
  sums = λ k l. omega (arith, zeros n k, ap (load p k) el);
  small = λ k l. omega (arith, zeros n k);
}

module _ (p : Project) (jobs list left loads : List ℕ) (job : ℕ) (others : List ℕ) (h : IsLoading p jobs list left loads) (e : left ≡ job ∷ others) where
  -- the next job is one of the project's
  pub next-number : All (IsNumber (length p.jobs)) jobs → IsNumber (length p.jobs) job
  next-number numbers =
      let all : Each (IsNumber (length p.jobs)) (list ++ job ∷ others) = subst (λ (xs : List ℕ). Each (IsNumber (length p.jobs)) xs) (sym h.parts ∙ ap (λ (xs : List ℕ). list ++ xs) e) (all-each (IsNumber (length p.jobs)) jobs numbers) in
      (each-right (IsNumber (length p.jobs)) list (job ∷ others) all).0

  -- and what is summed up before it is small
  pub loads-small : AreJobs jobs → (k : ℕ) → k < p.resources → slice_index loads k ≤ 5120000
  loads-small are k l = omega (arith, few-jobs jobs are, h.small k l, ap (length {A = ℕ}) h.parts, length-append list left)

  -- after it
  pub loading-next : (new sums : List ℕ) → IsSound p → IsNumber (length p.jobs) job → new ≡ list ++ job ∷ [] → ((k : ℕ) → k < p.resources → slice_index sums k ≡ slice_index loads k + request p (place job) k) → IsLoading p jobs new others sums
  loading-next new sums sound is en more = record {
    parts = ap (λ (xs : List ℕ). xs ++ others) en ∙ (append_assoc list (job ∷ []) others ∙ (ap (λ (xs : List ℕ). list ++ xs) (sym e) ∙ h.parts));
    sums = λ k l. omega (arith, more k l, h.sums k l, load-push p k list job, ap (load p k) en);
    small = λ k l. omega (arith, more k l, h.small k l, request-small p (place job) k sound (omega (arith, is.0, is.1)) l, ap (length {A = ℕ}) en, length-append list (job ∷ []));
  }

-- at the end all are
pub loading-end : (p : Project) (jobs list left loads : List ℕ) → IsLoading p jobs list left loads → left ≡ [] → list ≡ jobs
loading-end p jobs list left loads h e = sym (append-nil list) ∙ (ap (λ (xs : List ℕ). list ++ xs) (sym e) ∙ h.parts)

pub loads-end : (p : Project) (jobs list left loads : List ℕ) → IsLoading p jobs list left loads → left ≡ [] → AreJobs jobs → AreLoads p jobs loads
loads-end p jobs list left loads h e are =
    let all : list ≡ jobs = loading-end p jobs list left loads h e in
    record {
      sums = λ k l. omega (arith, h.sums k l, ap (load p k) all);
      small = λ k l. omega (arith, h.small k l, few-jobs jobs are, ap (length {A = ℕ}) all);
    }
