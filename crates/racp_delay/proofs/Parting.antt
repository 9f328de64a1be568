-- A walk over the jobs of a set that lists the free ones, and sums up what the others request, and what all do.
use Rattle.std.proofs.Common.{◌≡◌, ℕ, ◌+◌, ◌<◌, ◌≤◌, List, [], ◌∷◌, ◌++◌, slice_index, arith, refl, sym, subst, length, replicate, Contains}
use Rattle.racp_model.specs.Project.{Project, place, request, IsNumber, IsSound}
use Rattle.racp_model.specs.JobSets.{AreJobs}
use Rattle.racp_model.proofs.lemmas.Zeros.{zeros}
use Rattle.racp_delay.specs.Alternatives.{Splits, load}
use Rattle.racp_delay.specs.Alternatives.Splits.{none, goes, stays}
use Rattle.racp_delay.specs.Found.{Each, IsSplitByFree}
use Rattle.racp_delay.proofs.Each.{each-member}
use Rattle.racp_delay.proofs.Splitting.{load-splits}
use Rattle.racp_delay.proofs.Loading.{IsLoading, load-push, loading-start, loads-small, loading-next, loading-end, loads-end}

-- of the jobs, those that were taken are split into the free ones, in a list, and others, and the rest are left
pub record IsParting (p : Project) (jobs free list left kept whole : List ℕ) : Type 0 where
  pub taken : List ℕ
  pub others : List ℕ
  pub loading : IsLoading p jobs taken left whole
  pub splits : Splits taken list others
  pub go : Each (λ job. Contains free job) list
  pub stay : Each (λ job. Contains free job → ⊥) others
  pub sums : (k : ℕ) → k < p.resources → slice_index kept k ≡ load p k others

-- one job more, at the end, that goes or stays
pub goes-last : {jobs gone kept : List ℕ} (job : ℕ) → Splits jobs gone kept → Splits (jobs ++ job ∷ []) (gone ++ job ∷ []) kept
goes-last job none = goes none
goes-last job (goes s) = goes (goes-last job s)
goes-last job (stays s) = stays (goes-last job s)

pub stays-last : {jobs gone kept : List ℕ} (job : ℕ) → Splits jobs gone kept → Splits (jobs ++ job ∷ []) gone (kept ++ job ∷ [])
stays-last job none = stays none
stays-last job (goes s) = goes (stays-last job s)
stays-last job (stays s) = stays (stays-last job s)

-- what holds of each holds of each with one more
pub each-last : (P : ℕ → Type 0) (xs : List ℕ) (x : ℕ) → Each P xs → P x → Each P (xs ++ x ∷ [])
each-last P [] x h is = (is, tt)
each-last P (y ∷ ys) x h is = (h.0, each-last P ys x h.1 is)

-- at the start none was taken
pub parting-start : (p : Project) (jobs free list left : List ℕ) (n : ℕ) → list ≡ [] → left ≡ jobs → IsParting p jobs free list left (replicate n 0) (replicate n 0)
unfolding load
parting-start p jobs free list left n el e = subst (λ (xs : List ℕ). IsParting p jobs free xs left (replicate n 0) (replicate n 0)) (sym el) (record {
  taken = [];
  others = [];
  loading = loading-start p jobs [] left n refl e;
  splits = none;
  go = tt;
  stay = tt;
  sums = λ k l. omega (arith, zeros n k);
})

module _ (p : Project) (jobs free list left kept whole : List ℕ) (job : ℕ) (rest : List ℕ) (h : IsParting p jobs free list left kept whole) (e : left ≡ job ∷ rest) where
  -- what was summed up is small
  pub parted-small : AreJobs jobs → (k : ℕ) → k < p.resources → slice_index kept k ≤ 5120000
  parted-small are k l = omega (arith, loads-small p jobs h.taken left whole job rest h.loading e are k l, h.loading.sums k l, load-splits p k h.splits, h.sums k l)

  module _ (sums : List ℕ) (sound : IsSound p) (number : IsNumber (length p.jobs) job) (more : (k : ℕ) → k < p.resources → slice_index sums k ≡ slice_index whole k + request p (place job) k) where
    loading : IsLoading p jobs (h.taken ++ job ∷ []) rest sums
    loading = loading-next p jobs h.taken left whole job rest h.loading e (h.taken ++ job ∷ []) sums sound number refl more

    -- the next job is free
    pub parting-free : Contains free job → (new : List ℕ) → new ≡ list ++ job ∷ [] → IsParting p jobs free new rest kept sums
    parting-free is new en = subst (λ (xs : List ℕ). IsParting p jobs free xs rest kept sums) (sym en) (record {
      taken = h.taken ++ job ∷ [];
      others = h.others;
      loading = loading;
      splits = goes-last job h.splits;
      go = each-last (λ i. Contains free i) list job h.go is;
      stay = h.stay;
      sums = h.sums;
    })

    -- or it is not
    pub parting-held : (Contains free job → ⊥) → (new : List ℕ) → ((k : ℕ) → k < p.resources → slice_index new k ≡ slice_index kept k + request p (place job) k) → IsParting p jobs free list rest new sums
    parting-held is_not new add = record {
      taken = h.taken ++ job ∷ [];
      others = h.others ++ job ∷ [];
      loading = loading;
      splits = stays-last job h.splits;
      go = h.go;
      stay = each-last (λ i. Contains free i → ⊥) h.others job h.stay is_not;
      sums = λ k l. omega (arith, add k l, h.sums k l, load-push p k h.others job);
    }

-- at the end all were taken
pub parting-end : (p : Project) (jobs free list left kept whole : List ℕ) → IsParting p jobs free list left kept whole → left ≡ [] → AreJobs jobs → IsSplitByFree p jobs free list kept whole
parting-end p jobs free list left kept whole h e are =
    let all : h.taken ≡ jobs = loading-end p jobs h.taken left whole h.loading e in
    record {
      others = h.others;
      splits = subst (λ (xs : List ℕ). Splits xs list h.others) all h.splits;
      go = λ job c. each-member (λ i. Contains free i) list job h.go c;
      stay = λ job c. each-member (λ i. Contains free i → ⊥) h.others job h.stay c;
      kept_sums = h.sums;
      left_sums = loads-end p jobs h.taken left whole h.loading e are;
    }
