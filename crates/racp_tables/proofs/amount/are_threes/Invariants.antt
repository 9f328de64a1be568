use Rattle.std.proofs.Common.{◌≡◌, ℕ, List, Bor, cond, drop, eqb, length, map}
use Rattle.std.specs.List.{list_all}
use Rattle.racp_tables.specs.Amounts.{are_threes}
use Rattle.racp_tables.proofs.amount.are_threes.Given as goal

abbrev pub invariant-loop-group : goal.invariant-loop-group
invariant-loop-group l =
    cond l.has_begun (list_all (λ three. eqb (length three) 3) (map (λ (group : Bor (List ℕ)). group.now) (drop l.group-index l.groups)))
    (are_threes (map (λ (group : Bor (List ℕ)). group.now) (drop l.group-index l.groups)))
    ≡ are_threes (map (λ (group : Bor (List ℕ)). group.now) l.groups)
