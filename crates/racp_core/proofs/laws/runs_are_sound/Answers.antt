use Rattle.racp_core.proofs.Running.{runs_sound}
use Rattle.racp_core.proofs.laws.runs_are_sound.Goals as goal

pub returns : goal.returns
returns c = runs_sound
