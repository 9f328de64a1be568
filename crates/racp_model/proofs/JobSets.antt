-- The jobs whose bits are set.
use Rattle.std.proofs.Common.{◌≡◌, inl, inr, ℕ, suc, ◌+◌, ◌-◌, ◌<◌, ◌≤◌, Bool, true, false, nat_eq, cond, List, [], ◌∷◌, length, slice_index_or, arith, refl, ap, sym, ◌∙◌, subst, Contains, All}
use Rattle.std.specs.List.{filter, range_with_len}
use Rattle.std.specs.List.Sorted.{IsStrictlyIncreasing}
use Rattle.std.proofs.lemmas.List.Kept.{IsStrictlyIncreasing-filter}
use Rattle.std.proofs.lemmas.List.Elements.{All-contains, All-filter, filter_passes}
use Rattle.std.proofs.lemmas.List.FromFn.{length-range_with_len, get_or-range_with_len}
use Rattle.std.proofs.lemmas.Bool.Decides.{nat_tests}
use Rattle.racp_model.specs.Project.{IsNumber}
use Rattle.racp_model.proofs.lemmas.Relations.{member_cases, member_later, member_first, no_member}
use Rattle.racp_model.specs.JobSets.{bit_of, has_bit, members, AreJobs}

-- a row of numbers rises
pub range-rises : (a n : ℕ) → IsStrictlyIncreasing (range_with_len a n)
range-rises a n k l =
    let len : length (range_with_len a n) ≡ n = length-range_with_len a n in
    omega (arith, get_or-range_with_len a n k 0 (omega arith), get_or-range_with_len a n (k + 1) 0 (omega arith))

-- its members are the numbers from the first on
pub range-has : (a n x : ℕ) → a ≤ x → x < a + n → Contains (range_with_len a n) x
range-has a n x low high =
    let e : a + (x - a) ≡ x = omega arith in
    (x - a, omega (arith, length-range_with_len a n), get_or-range_with_len a n (x - a) x (omega arith) ∙ e)

pub range-all : (a n m : ℕ) → a + n ≡ suc m → All (λ x. (a ≤ x) × (x ≤ m)) (range_with_len a n)
range-all a n m e k d l =
    let at : slice_index_or (range_with_len a n) k d ≡ a + k = get_or-range_with_len a n k d (omega (arith, length-range_with_len a n)) in
    (omega (arith, at), omega (arith, at, length-range_with_len a n))

-- what is kept of a list was in it, and passed the test
pub filter-has : (p : ℕ → Bool) (xs : List ℕ) (x : ℕ) → Contains xs x → p x ≡ true → Contains (filter p xs) x
filter-has p [] x c e = absurd (no_member x c)
filter-has p (y ∷ ys) x c e = elim (member_cases y ys x c) [
  | inl same ↦
      let q : p y ≡ true = ap p same ∙ e in
      subst (λ (b : Bool). Contains (cond b (y ∷ filter p ys) (filter p ys)) x) (sym q) (member_first y (filter p ys) x same)
  | inr later ↦ go (p y) (filter-has p ys x later e)
]
  where
    go : (b : Bool) → Contains (filter p ys) x → Contains (cond b (y ∷ filter p ys) (filter p ys)) x
    go true h = member_later y (filter p ys) x h
    go false h = h

-- the jobs rise, and are numbers from 1 to 512
pub are_jobs : (words : List ℕ) → AreJobs (members words)
unfolding members
are_jobs words = record {
  rises = IsStrictlyIncreasing-filter (has_bit words) (range_with_len 1 512) (range-rises 1 512);
  numbers = All-filter (has_bit words) (IsNumber 512) (range_with_len 1 512) (range-all 1 512 512 refl);
}

-- a test for 1
pub one_from_test : (n : ℕ) → nat_eq n 1 ≡ true → n ≡ 1
one_from_test n e = grind (arith, nat_tests)

-- a job is in the set where its bit is set
pub in_members : (words : List ℕ) (job : ℕ) → IsNumber 512 job → bit_of words job ≡ 1 → Contains (members words) job
unfolding members
in_members words job is set_bit = filter-has (has_bit words) (range_with_len 1 512) job (range-has 1 512 job is.0 (omega (arith, is.1))) (ap (λ n. nat_eq n 1) set_bit)

-- and only then
pub number_of_member : (words : List ℕ) (job : ℕ) → Contains (members words) job → IsNumber 512 job
number_of_member words job c = All-contains (IsNumber 512) (members words) job (are_jobs words).numbers c

pub bit_of_member : (words : List ℕ) (job : ℕ) → Contains (members words) job → bit_of words job ≡ 1
unfolding members
bit_of_member words job c =
    let all : All (λ x. has_bit words x ≡ true) (members words) = filter_passes (has_bit words) (range_with_len 1 512) in
    one_from_test (bit_of words job) (All-contains (λ x. has_bit words x ≡ true) (members words) job all c)
