use Rattle.racp_model.proofs.JobSets.{are_jobs}
use Rattle.racp_model.proofs.job_set.JobSet.copy.Goals as goal

pub returns-clause-jobs : goal.returns-clause-jobs
returns-clause-jobs c = rw (← c.self.view_is) (are_jobs c.self.inside.words)
