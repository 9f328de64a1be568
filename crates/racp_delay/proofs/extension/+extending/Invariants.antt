use Rattle.std.proofs.Common.{◌+◌, ◌*◌, length}
use Rattle.racp_delay.proofs.extension.+extending.Given as goal

abbrev pub decreases-branch : goal.decreases-branch
decreases-branch g l = 2 * length l.choice.now.undecided.now

abbrev pub decreases-extend : goal.decreases-extend
decreases-extend g l = 2 * length l.choice.now.undecided.now + 1
