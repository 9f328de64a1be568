use Rattle.std.proofs.Common.{◌+◌, ◌*◌, length}
use Rattle.racp_delay.proofs.following.+extending_behind.Given as goal

abbrev pub decreases-branch_behind : goal.decreases-branch_behind
decreases-branch_behind g l = 2 * length l.choice.now.undecided.now

abbrev pub decreases-extend_behind : goal.decreases-extend_behind
decreases-extend_behind g l = 2 * length l.choice.now.undecided.now + 1
