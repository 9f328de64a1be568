-- How many questions are undecided.
use Rattle.std.proofs.Common.{◌≡◌, ℕ, ◌<◌, List, length, AllPairs, ap, arith}
use Rattle.std.specs.List.{filter, range_with_len}
use Rattle.std.specs.List.Sorted.{IsStrictlySortedBy}
use Rattle.std.specs.Ordering.{nat_cmp}
use Rattle.std.proofs.lemmas.List.Kept.{AllPairs-filter}
use Rattle.std.proofs.lemmas.List.FromFn.{get_or-range_with_len, length-range_with_len}
use Rattle.std.proofs.lemmas.Map.Keys.{below_from_sorted}
use Rattle.racp_model.proofs.lemmas.Relations.{same_from_members}
use Rattle.racp_questions.proofs.lemmas.Members.{filter_from, filter_to, range_to}
use Rattle.racp_core.specs.Machine.{Machine, is_undecided, undecided_count}
use Rattle.racp_core.specs.Truth.{AreUndecided}
use Rattle.racp_core.proofs.Tests.{undecided_is}

-- rising numbers rise
range_rises : (n : ℕ) → AllPairs (λ a b. a < b) (range_with_len 0 n)
range_rises n i j d less l =
    let long = length-range_with_len 0 n in
    let at_i = get_or-range_with_len 0 n i d (omega (arith, less, l, long)) in
    let at_j = get_or-range_with_len 0 n j d (omega (arith, l, long)) in
    omega (arith, less, at_i, at_j)

-- as many as there are places of undecided questions
pub counted : (m : Machine) (places : List ℕ) → AreUndecided m.least m.asked places → IsStrictlySortedBy nat_cmp places → length places ≡ undecided_count m
unfolding undecided_count
counted m places h rising = ap length (same_from_members (λ a b. a < b) (λ a b l k. omega (arith, l, k)) places (filter (is_undecided m.least m.asked) (range_with_len 0 (length m.asked)))
    (λ i j d less l. below_from_sorted places i j d rising less l)
    (AllPairs-filter (λ a b. a < b) (is_undecided m.least m.asked) (range_with_len 0 (length m.asked)) (range_rises (length m.asked)))
    (λ i c. (let undecided = (h i).0 c in
    let is = undecided_is m.least m.asked i undecided in
    filter_to (is_undecided m.least m.asked) (range_with_len 0 (length m.asked)) i (range_to 0 (length m.asked) i (omega arith) (omega (arith, is.0))) undecided))
    (λ i c. (h i).1 (filter_from (is_undecided m.least m.asked) (range_with_len 0 (length m.asked)) i c).1))
