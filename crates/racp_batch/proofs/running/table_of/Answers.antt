use Rattle.racp_batch.proofs.running.table_of.Goals as goal

pub returns-in-Ok : goal.returns-in-Ok
returns-in-Ok g c = c.with_rows.ensures _ c.in-Ok.ensures
