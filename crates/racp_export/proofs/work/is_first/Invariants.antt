use Rattle.std.proofs.Common.{◌≡◌, drop}
use Rattle.racp_export.specs.Work.{is_first}
use Rattle.racp_export.proofs.work.is_first.Given as goal

abbrev pub invariant-loop-arc : goal.invariant-loop-arc
invariant-loop-arc l = is_first (drop l.arc-index l.arcs) l.job ≡ is_first l.arcs l.job
