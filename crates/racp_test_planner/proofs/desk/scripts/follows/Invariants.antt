use Rattle.std.proofs.Common.{◌≡◌}
use Rattle.racp_test_planner.proofs.desk.scripts.follows.Given as goal

abbrev pub invariant-loop-call : goal.invariant-loop-call
invariant-loop-call g l = l.mine.parts ≡ l.initial.mine.parts
