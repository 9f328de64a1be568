use Rattle.std.proofs.Common.{◌≡◌, ℕ, length, rules, slice_index, subst, arith}
use Rattle.racp_check.specs.PlanTests.{IsOverAtAnswer}
use Rattle.racp_check.proofs.Excess.{IsFirstSoFar, so_far-all}
use Rattle.racp_check.proofs.check.first_over.Goals as goal
use Rattle.racp_check.proofs.check.first_over.Goals.{then-is_before+in-Some, then-is_before+in_default, else-is_before}

pub returns : goal.returns
returns c =
    let all : c.loop-time.time-index ≡ length c.args.net.now.jobs = omega arith in
    let P : ℕ → Type 0 = λ n. IsFirstSoFar c.args.net.now c.args.capacities.now c.args.starts.now n c.loop-time.first in
    so_far-all c.args.net.now c.args.capacities.now c.args.starts.now c.loop-time.first (subst P all c.loop-time.invariant)

pub loop-time-preserved : goal.loop-time-preserved
loop-time-preserved c = elim c.if-is_before.branch [
  | then-is_before+in-Some w ↦
      let over : IsOverAtAnswer c.args.net.now c.args.capacities.now c.args.starts.now (slice_index c.args.starts.now c.loop-time.time-index) w.first_over_at.result = w.first_over_at.ensures in
      search rules
  | then-is_before+in_default w ↦ search rules
  | else-is_before w ↦ search rules
]
