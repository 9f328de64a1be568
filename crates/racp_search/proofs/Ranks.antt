-- The places of lists of job numbers in lexicographic order.
use Rattle.std.proofs.Common.{◌≡◌, ℕ, zero, suc, ◌+◌, ◌-◌, ◌*◌, ◌^◌, ◌<◌, ◌≤◌, inl, inr, List, [], ◌∷◌, length, slice_index, All, arith, refl, subst, ap, sym, ◌∙◌}
use Rattle.std.proofs.Math.Nat.{mul-le-mul_left, one-le-pow, pow-suc}
use Rattle.std.proofs.lemmas.Bool.{cases_lt}
use Rattle.std.proofs.lemmas.Bool.Decides.{nat_tests}
use Rattle.std.proofs.lemmas.Cmp.{tied_itself, nat_cmp_total}
use Rattle.std.specs.List.Sorted.{IsStrictlyIncreasing}
use Rattle.std.specs.declared.cmp.Ordering.TheVariants.{Less, Equal}
use Rattle.std.specs.Ordering.{nat_cmp, ordering_then}
use Rattle.racp_model.specs.Project.{IsNumber}
use Rattle.racp_model.specs.Terms.{lex_cmp, IsLexBefore}
use Rattle.racp_model.specs.JobSets.{AreJobs}
use Rattle.racp_search.specs.DepthFirst.{rank, most_lists}

-- numbers of jobs, one by one
abbrev pub AreNumbers : List ℕ → Type 0
AreNumbers [] = Unit {0}
AreNumbers (job ∷ jobs) = IsNumber 512 job × AreNumbers jobs

-- a power more
power-more : (n : ℕ) → 513 ^ (suc n) ≡ 513 * 513 ^ n
power-more n = omega (arith, pow-suc 513 n)

-- a rank is less than the number of places
pub rank-less : (n : ℕ) (jobs : List ℕ) → AreNumbers jobs → rank n jobs < 513 ^ n
unfolding rank
rank-less zero jobs are = omega arith
rank-less (suc n) [] are = omega (arith, power-more n, rank-less n [] tt)
rank-less (suc n) (job ∷ jobs) are =
    let less : rank n jobs < 513 ^ n = rank-less n jobs are.1 in
    let up : 513 ^ n * job ≤ 513 ^ n * 512 = mul-le-mul_left (513 ^ n) are.0.1 in
    omega (arith, power-more n, less, up)

-- two lists whose first numbers differ
apart : (n x y : ℕ) (xs ys : List ℕ) → x < y → AreNumbers xs → rank (suc n) (x ∷ xs) < rank (suc n) (y ∷ ys)
unfolding rank
apart n x y xs ys l are =
    let less : rank n xs < 513 ^ n = rank-less n xs are in
    let up : 513 ^ n * (x + 1) ≤ 513 ^ n * y = mul-le-mul_left (513 ^ n) (let m : x + 1 ≤ y = omega arith in m) in
    omega (arith, less, up)

-- a list that stands before another has a lesser rank
pub rank-rises : (n : ℕ) (xs ys : List ℕ) → length ys ≤ n → AreNumbers xs → AreNumbers ys → IsLexBefore xs ys → rank n xs < rank n ys
unfolding rank
rank-rises n [] [] few a b h = absurd (cc h)
rank-rises zero [] (y ∷ ys) few a b h = absurd (omega (arith, few))
rank-rises (suc n) [] (y ∷ ys) few a b h =
    let some : 0 < 513 ^ n = omega (arith, rank-less n [] tt) in
    let up : 513 ^ n * 1 ≤ 513 ^ n * y = mul-le-mul_left (513 ^ n) b.0.0 in
    omega (arith, some, up)
rank-rises n (x ∷ xs) [] few a b h = absurd (cc h)
rank-rises zero (x ∷ xs) (y ∷ ys) few a b h = absurd (omega (arith, few))
rank-rises (suc n) (x ∷ xs) (y ∷ ys) few a b h = elim (cases_lt x y) [
  | inl less ↦ apart n x y xs ys less a.1
  | inr most ↦ elim (cases_lt y x) [
    | inl more ↦ absurd (grind (arith, nat_tests, more, h))
    | inr also ↦
        let e : x ≡ y = omega (arith, most, also) in
        let same : nat_cmp y y ≡ Equal = tied_itself nat_cmp_total y in
        let at : ordering_then (nat_cmp y y) (lex_cmp xs ys) ≡ Less = subst (λ z. ordering_then (nat_cmp z y) (lex_cmp xs ys) ≡ Less) e h in
        let rest : lex_cmp xs ys ≡ Less = sym (ap (λ o. ordering_then o (lex_cmp xs ys)) same) ∙ at in
        omega (arith, ap (λ z. 513 ^ n * z) e, rank-rises n xs ys (omega (arith, few)) a.1 b.1 rest)
  ]
]

-- the numbers of a rising list are above their places
above-place : (xs : List ℕ) → AreJobs xs → (k : ℕ) → k < length xs → k < slice_index xs k
above-place xs are zero l = (are.numbers 0 0 l).0
above-place xs are (suc k) l =
    let e : slice_index xs (suc k) ≡ slice_index xs (k + 1) = ap (slice_index xs) (let n : suc k ≡ k + 1 = omega arith in n) in
    omega (arith, e, above-place xs are k (omega (arith, l)), are.rises k (omega (arith, l)))

-- so a set has at most 512 jobs
pub few-jobs : (xs : List ℕ) → AreJobs xs → length xs ≤ 512
few-jobs [] are = omega arith
few-jobs (x ∷ xs) are =
    let last : length xs < length (x ∷ xs) = omega arith in
    omega (arith, above-place (x ∷ xs) are (length xs) last, (are.numbers (length xs) 0 last).1)

numbers_of : (xs : List ℕ) → All (IsNumber 512) xs → AreNumbers xs
numbers_of [] all = tt
numbers_of (x ∷ xs) all = (all 0 0 (omega arith), numbers_of xs (λ k d l. all (suc k) d (omega (arith, l))))

-- a set that stands before another has a lesser place, and there are more places
pub place-rises : (xs ys : List ℕ) → AreJobs xs → AreJobs ys → IsLexBefore xs ys → rank 512 xs < rank 512 ys
place-rises xs ys a b h = rank-rises 512 xs ys (few-jobs ys b) (numbers_of xs a.numbers) (numbers_of ys b.numbers) h

pub place-less : (xs : List ℕ) → AreJobs xs → rank 512 xs < most_lists
unfolding most_lists
place-less xs a = rank-less 512 xs (numbers_of xs a.numbers)

-- the rank of the empty list
rank-none : (n : ℕ) → rank n [] ≡ 0
unfolding rank
rank-none zero = refl
rank-none (suc n) = refl

-- behind a rising list there are as many places as there are lists of all but its first number
room-behind : (n : ℕ) (xs : List ℕ) → AreNumbers xs → IsStrictlyIncreasing xs → rank (suc n) xs + 513 ^ n ≤ 513 ^ (suc n)
unfolding rank
room-behind n [] are up = omega (arith, power-more n)
room-behind n (x ∷ []) are up =
    let most : 513 ^ n * x ≤ 513 ^ n * 512 = mul-le-mul_left (513 ^ n) are.0.1 in
    omega (arith, power-more n, most, rank-none n)
room-behind n (x ∷ (y ∷ ys)) are up =
    let next : x < y = up 0 (omega arith) in
    let most : 513 ^ n * x ≤ 513 ^ n * 511 = mul-le-mul_left (513 ^ n) (let m : x ≤ 511 = omega (arith, next, are.1.0.1) in m) in
    omega (arith, power-more n, most, rank-less n (y ∷ ys) are.1)

-- so there are at least 512 places behind a set of jobs
pub place-room : (xs : List ℕ) → AreJobs xs → 512 ≤ most_lists - rank 512 xs
unfolding most_lists
place-room xs a =
    let some : 1 ≤ 513 ^ 510 = one-le-pow 510 513 (let l : 0 < 513 = omega arith in l) in
    let many : 513 ^ 511 ≡ 513 * 513 ^ 510 = power-more 510 in
    let room : rank 512 xs + 513 ^ 511 ≤ 513 ^ 512 = room-behind 511 xs (numbers_of xs a.numbers) a.rises in
    omega (arith, some, many, room)
