use Rattle.std.proofs.Common.{◌≡◌, max, drop}
use Rattle.racp_export.specs.Work.{ready_at}
use Rattle.racp_export.proofs.work.ready_at.Given as goal

abbrev pub invariant-loop-link : goal.invariant-loop-link
invariant-loop-link l = max l.ready (ready_at l.net l.starts (drop l.link-index l.before)) ≡ ready_at l.net l.starts l.before
