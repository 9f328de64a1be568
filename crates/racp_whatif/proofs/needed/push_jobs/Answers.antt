use Rattle.std.proofs.Common.{◌≡◌, ◌<◌, ◌++◌, length, get_or, string_bytes, rules}
use Rattle.racp_whatif.specs.Lines.{job_called, job_words}
use Rattle.racp_whatif.proofs.Listing.{job_on}
use Rattle.racp_whatif.proofs.needed.push_jobs.Goals as goal

pub loop-place-preserved : goal.loop-place-preserved
loop-place-preserved c =
    let place = c.loop-place.place in
    let numbers = c.args.jobs.now in
    let names = c.args.called.now.names.now in
    let within : place < length numbers = search rules in
    let grown : string_bytes c.push_job.new.text ≡ string_bytes c.loop-place.text ++ job_words place (job_called names (get_or numbers place 0)) = search rules in
    job_on names numbers _ _ _ place within c.loop-place.invariant grown
