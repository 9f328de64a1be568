use Rattle.std.proofs.Common.{◌≡◌, length}
use Rattle.racp_test_ground.proofs.profiles.finds_each.Given as goal

abbrev pub invariant-loop-step : goal.invariant-loop-step
invariant-loop-step l = length l.profile ≡ length l.setting.net.jobs
