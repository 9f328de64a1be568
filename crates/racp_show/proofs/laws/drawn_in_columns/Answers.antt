use Rattle.racp_show.proofs.Drawn.{drawn_in_columns}
use Rattle.racp_show.proofs.laws.drawn_in_columns.Goals as goal

pub returns : goal.returns
returns c = drawn_in_columns
