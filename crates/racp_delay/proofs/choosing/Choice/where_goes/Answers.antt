use Rattle.std.proofs.Common.{refl}
use Rattle.racp_delay.proofs.Chosen.{choice-first, choice-within, choice-goes}
use Rattle.racp_delay.proofs.choosing.Choice.where_goes.Goals as goal

pub without-requires-clause-job : goal.without-requires-clause-job
without-requires-clause-job c = choice-first c.args.self.now c.requires.choice c.args.job c.args.others.now c.requires.first

pub without-requires-clause-within : goal.without-requires-clause-within
without-requires-clause-within c = choice-within c.args.self.now c.requires.choice c.args.job c.args.others.now c.requires.first

pub returns : goal.returns
returns c = choice-goes c.args.self.now c.requires.choice c.args.job c.args.others.now c.requires.first _ refl refl refl refl c.without.ensures
