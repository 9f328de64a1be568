use Rattle.std.proofs.Common.{◌≡◌, Ok, rules}
use Rattle.racp_model.specs.Project.{Activity}
use Rattle.racp_sm.specs.Parts.{request_row}
use Rattle.racp_sm.proofs.rows.read_job.Goals as goal

pub returns-in-None-clause-read : goal.returns-in-None-clause-read
unfolding request_row
returns-in-None-clause-read c =
    let job : Activity = record { duration = c.in_ok-duration.duration; requests = c.in_ok-requests.ensures.read.0 } in
    let read : request_row c.args.words.now.title c.args.resources c.args.job c.args.words.now.words ≡ Ok (job, c.read_requests.new.words.words) = search rules in
    (job, read, tt)
