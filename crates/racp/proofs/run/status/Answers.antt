use Rattle.std.proofs.Common.{inl}
use Rattle.racp.proofs.run.status.Goals as goal

pub returns-in-Ok : goal.returns-in-Ok
returns-in-Ok g c = inl c.in-Ok.ensures
