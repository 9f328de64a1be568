use Rattle.std.proofs.Common.{List, ℕ, ap, set}
use Rattle.racp_model.specs.Project.{place}
use Rattle.racp_delay.proofs.profile.Profile.move_job.Goals as goal

pub returns : goal.returns
returns c = ap (λ (starts : List ℕ). set starts (place c.args.job) c.args.start) c.self.view_is
