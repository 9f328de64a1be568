use Rattle.std.proofs.Common.{replicate}
use Rattle.racp_model.proofs.lemmas.Zeros.{zeros}
use Rattle.racp_model.proofs.Bits.{no_jobs}
use Rattle.racp_model.proofs.job_set.JobSet.new.Goals as goal

pub returns : goal.returns
returns c = no_jobs (replicate 8 0) (λ q l. zeros 8 q)
