use Rattle.std.proofs.Common.{◌+◌, ◌*◌, length}
use Rattle.racp_delay.proofs.delaying.+adding.Given as goal

abbrev pub decreases-add : goal.decreases-add
decreases-add l = 2 * length l.choice.now.undecided.now + 1

abbrev pub decreases-add_branches : goal.decreases-add_branches
decreases-add_branches l = 2 * length l.choice.now.undecided.now
