use Rattle.racp_plan.proofs.Adequate.{is_reading_or_memory}
use Rattle.racp_plan.proofs.read.read_plan.Goals as goal

pub returns : goal.returns
returns c =
    is_reading_or_memory c.args.net.now c.args.bytes.now c.resource_count.result c.job_count.result c.read_lines.result c.resource_count.ensures.sound.limits c.resource_count.ensures.count c.job_count.ensures.count c.read_lines.ensures
