-- How many variables come before one.
use Rattle.std.proofs.Common.{◌≡◌, ℕ, ◌+◌, ◌<◌, ◌≤◌, length, arith}
use Rattle.std.proofs.lemmas.Bool.Decides.{nat_tests}
use Rattle.racp_model.specs.Project.{Project}
use Rattle.racp_clauses.specs.Solutions.{units_place, cost_place}
use Rattle.racp_clauses.specs.Least.{turn}

pub turn-start : (p : Project) (i : ℕ) → i < length p.jobs → turn p i ≡ p.resources + 1 + i
turn-start p i l = grind (arith, nat_tests)

pub turn-units : (p : Project) (k : ℕ) → k < p.resources → turn p (units_place p k) ≡ k + 1
turn-units p k l =
    let behind : length p.jobs ≤ units_place p k = omega arith in
    let before : units_place p k < cost_place p = omega arith in
    grind (arith, nat_tests)

pub turn-cost : (p : Project) → turn p (cost_place p) ≡ 0
turn-cost p =
    let behind : length p.jobs ≤ cost_place p = omega arith in
    grind (arith, nat_tests)
