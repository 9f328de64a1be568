use Rattle.racp_tables.proofs.Equal.{same_pairs}
use Rattle.racp_tables.proofs.same.are_same_pairs.Goals as goal

pub returns : goal.returns
returns c = same_pairs c.args.a.now c.args.b.now c.eq.result c.eq.ensures
