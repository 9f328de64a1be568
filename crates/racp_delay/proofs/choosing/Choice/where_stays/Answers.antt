use Rattle.std.proofs.Common.{refl}
use Rattle.racp_delay.proofs.Chosen.{choice-first, choice-stays}
use Rattle.racp_delay.proofs.choosing.Choice.where_stays.Goals as goal

pub with-kept-requires-clause-job : goal.with-kept-requires-clause-job
with-kept-requires-clause-job c = choice-first c.args.self.now c.requires.choice c.args.job c.args.others.now c.requires.first

pub returns : goal.returns
returns c = choice-stays c.args.self.now c.requires.choice c.args.job c.args.others.now c.requires.first _ refl refl refl refl c.with-kept.ensures.sums
