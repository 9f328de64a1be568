use Rattle.racp_core.proofs.Shutting.{IsShutting}
use Rattle.racp_core.proofs.collector.handing.shut_from.Given as goal

abbrev pub invariant-loop-place : goal.invariant-loop-place
invariant-loop-place l = IsShutting l.index l.place l.initial.rows.items l.rows.items
