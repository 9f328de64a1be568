use Rattle.std.proofs.Common.{◌≡◌, ◌∙◌, ℕ, List, arith, ap, nat_eq, subst, sym, true}
use Rattle.std.proofs.lemmas.List.Sorted.{IsNonDecreasingBy-from_sort, list_any-IsPermutation}
use Rattle.racp_calendar.specs.Work.{are_rising, is_worked, sifted}
use Rattle.racp_calendar.proofs.Sifting.{in_order, sifted_rises, sifted_worked}
use Rattle.racp_calendar.proofs.pattern.Pattern.of.Goals as goal

pub invariant_of-result-clause-rising : goal.invariant_of-result-clause-rising
invariant_of-result-clause-rising c =
    subst (λ (free : List ℕ). are_rising c.args.week 0 free ≡ true) (sym c.in_ok-free.ensures.free) (sifted_rises c.args.week 0 c.as_slice.result.now)

pub returns-clause-worked : goal.returns-clause-worked
returns-clause-worked c =
    let days = c.args.days.items in
    let sorted = c.sort.new.self.items in
    let taken = c.in_ok-free.ensures.free ∙ ap (λ (all : List ℕ). sifted c.args.week 0 all) c.as_slice.ensures.value in
    let order = in_order 0 sorted (λ j l. omega arith) (IsNonDecreasingBy-from_sort (λ n. n) sorted c.in_ok-sort.ensures.sorted) in
    λ day. subst (λ (free : List ℕ). is_worked c.args.week free day ≡ is_worked c.args.week days day) (sym taken)
    (sifted_worked c.args.week days sorted day order (list_any-IsPermutation (λ other. nat_eq other day) days sorted c.in_ok-sort.ensures.permutation))
