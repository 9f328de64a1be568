use Rattle.racp_cli.proofs.Statuses.{same_status}
use Rattle.racp_cli.proofs.laws.one_text_one_status.Goals as goal

pub returns : goal.returns
returns c = same_status
