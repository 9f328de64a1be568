use Rattle.racp_delay.proofs.Reaching.{rows-none}
use Rattle.racp_delay.proofs.following.look_behind.Goals as goal

pub extend_behind-answer-requires-clause-rows : goal.extend_behind-answer-requires-clause-rows
extend_behind-answer-requires-clause-rows g c = rows-none c.args.choice.now.net.now c.args.choice.now.undecided.now
