use Rattle.std.proofs.lemmas.Result.{IfOk-weaker}
use Rattle.racp_tables.proofs.mspdi.read_mspdi.Goals as goal

pub returns : goal.returns
returns c = IfOk-weaker c.table_of_tasks.result _ _ (λ table of. (c.in_ok-planned.planned, of)) c.table_of_tasks.ensures
