-- A need above a ceiling leaves no plan: its jobs use no more than all jobs do, and these no more than there is.
use Rattle.std.proofs.Common.{◌≡◌, ℕ, zero, suc, ◌+◌, ◌<◌, ◌≤◌, inl, inr, List, [], ◌∷◌, All, AllPairs, IfSome, length, slice_index, sum_by, arith, ap, subst}
use Rattle.std.proofs.lemmas.Bool.{cases_lt}
use Rattle.std.proofs.lemmas.List.Elements.{All-head, All-tail}
use Rattle.std.proofs.lemmas.List.Sums.{sum_by-cons}
use Rattle.racp_model.specs.Project.{place}
use Rattle.racp_model.specs.Schedule.{sum_below, use_of, usage}
use Rattle.racp_model.proofs.lemmas.Sums.{sum_below-step}
use Rattle.racp_whatif.specs.Needs.{usage_by}
use Rattle.racp_whatif.specs.Laws.{NeedLeavesNone}

-- a sum of some first terms is at most that of more of them
front : (f : ℕ → ℕ) (m n : ℕ) → m ≤ n → sum_below m f ≤ sum_below n f
unfolding sum_below
front f m zero l = let none : m ≡ 0 = omega (arith, l) in omega (arith, ap (λ (i : ℕ). sum_below i f) none)
front f m (suc n) l = elim (cases_lt n m) [
  | inl last ↦ let same : m ≡ suc n = omega (arith, l, last) in omega (arith, ap (λ (i : ℕ). sum_below i f) same)
  | inr before ↦ omega (arith, front f m n before)
]

-- a number of one of n jobs, behind the first m
abbrev IsBehind : ℕ → ℕ → ℕ → Type 0
IsBehind m n job = (m < job) × (job ≤ n)

-- terms at rising numbers are no more than all terms
behind : (f : ℕ → ℕ) (m n : ℕ) (jobs : List ℕ) → m ≤ n → All (IsBehind m n) jobs → AllPairs ◌<◌ jobs → sum_below m f + sum_by (λ job. f (place job)) jobs ≤ sum_below n f
behind f m n [] l named rising = omega (arith, front f m n l)
behind f m n (job ∷ rest) l named rising =
    let one = All-head (IsBehind m n) job rest named in
    let after : All (IsBehind job n) rest = λ q d less. (rising 0 (suc q) d (omega arith) (omega (arith, less)), (All-tail (IsBehind m n) job rest named q d less).1) in
    let still : AllPairs ◌<◌ rest = λ i k d less within. rising (suc i) (suc k) d (omega (arith, less)) (omega (arith, within)) in
    let next : place job + 1 ≡ job = omega (arith, one.0) in
    omega (
      arith,
      behind f job n rest one.1 after still,
      sum_by-cons (λ job. f (place job)) job rest,
      front f m (place job) (omega (arith, one.0)),
      sum_below-step (place job) f,
      ap (λ (i : ℕ). sum_below i f) next,
    )

pub need-leaves_none : NeedLeavesNone
need-leaves_none p terms need is above capacities enough =
    let starts : List ℕ = enough.admits.0 in
    let fits = enough.admits.1 in
    let used = is.used starts fits.places fits.fits.precedence fits.in_time in
    let t : ℕ = used.0 in
    let k : ℕ = need.place in
    let some : usage_by p starts k t need.jobs.items ≤ usage p starts k t =
    omega (arith, behind (use_of p starts k t) 0 (length p.jobs) need.jobs.items (omega arith) (λ q d l. let at = is.named q d l in (omega (arith, at.0), at.1)) is.rising) in
    let P : List ℕ → Type 0 = λ ceilings. (k : ℕ) → k < length capacities → slice_index capacities k ≤ slice_index ceilings k in
    let ceiling : slice_index capacities k ≤ slice_index above.0 k = subst (λ ceilings. IfSome ceilings P) above.1 enough.ceilings k (omega (arith, enough.places, is.resource)) in
    absurd (omega (arith, above.2, used.3, some, fits.fits.within k t is.resource, ceiling))
