use Rattle.std.proofs.Common.{◌≡◌, Ok, rules}
use Rattle.racp_model.specs.Project.{Project}
use Rattle.racp_sm.specs.Reading.{reading}
use Rattle.racp_sm.proofs.read.read_project.Goals as goal

pub returns-in_default : goal.returns-in_default
unfolding reading
returns-in_default c =
    let project : Project = record { resources = c.in_ok-count.field-0.resources; jobs = c.in_ok-jobs.ensures.0; arcs = c.in_ok-arcs.ensures.0.0 } in
    let read : reading c.args.bytes.now ≡ Ok project = search rules in
    (project, read, tt)
