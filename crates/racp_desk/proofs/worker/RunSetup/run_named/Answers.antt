use Rattle.racp_desk.proofs.worker.RunSetup.run_named.Goals as goal

pub returns : goal.returns
returns g c = c.end.ensures
