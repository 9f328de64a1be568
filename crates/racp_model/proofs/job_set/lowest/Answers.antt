use Rattle.racp_model.proofs.Bits.{lowest_bit}
use Rattle.racp_model.proofs.job_set.lowest.Goals as goal

pub returns-in-Some : goal.returns-in-Some
returns-in-Some c = lowest_bit c.args.words.now c.in-Some.q c.first_word.ensures.words c.in-Some.ensures.first
