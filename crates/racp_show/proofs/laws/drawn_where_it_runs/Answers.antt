use Rattle.racp_show.proofs.Drawn.{drawn_where_it_runs}
use Rattle.racp_show.proofs.laws.drawn_where_it_runs.Goals as goal

pub returns : goal.returns
returns c = drawn_where_it_runs
